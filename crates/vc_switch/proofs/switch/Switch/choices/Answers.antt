use Rattle.std.proofs.Common.{◌≡◌, sym, ap, ◌∙◌, subst, true, Some, None}
use Rattle.vc_switch.specs.State.{State, IsSwitch}
use Rattle.vc_switch.specs.Front.{front_of}
use Rattle.vc_switch.specs.Private.Front.{HasFront}
use Rattle.vc_switch.proofs.Beyond.{none_leaves}
use Rattle.vc_switch.proofs.ListWrites.{got, got_none}
use Rattle.vc_switch.proofs.Routes.{choices_busy, choices_none, choices_some}
use Rattle.vc_switch.proofs.switch.Switch.choices.Goals as goal

pub returns-then-not-is_idle : goal.returns-then-not-is_idle
returns-then-not-is_idle c =
    let x = c.self.inside in
    let a = c.in_ok-waiting.waiting.now in
    let here = got c.args.self.now.inputs c.deref.result.now c.from.result c.args.input a (c.deref.ensures.value ∙ ap (λ (z : State). z.inputs) c.self.view_is) c.from.ensures c.in_ok-waiting.ensures.lookup.0 c.in_ok-waiting.ensures.lookup.1 in
    choices_busy c.args.self.now c.args.input a here (λ idle. (let t : c.is_idle.result ≡ true = c.is_idle.ensures.1 idle in absurd (cc)))

pub returns-in-None : goal.returns-in-None
returns-in-None c =
    let x = c.self.inside in
    let a = c.in_ok-waiting.waiting.now in
    let here = got c.args.self.now.inputs c.deref.result.now c.from.result c.args.input a (c.deref.ensures.value ∙ ap (λ (z : State). z.inputs) c.self.view_is) c.from.ensures c.in_ok-waiting.ensures.lookup.0 c.in_ok-waiting.ensures.lookup.1 in
    let none : front_of x.table a.got.passed ≡ None = sym (c.find_front.ensures.front ∙ ap (front_of x.table) c.bytes.ensures) ∙ c.in-None.is in
    choices_none c.args.self.now c.args.input a here (subst (λ z. front_of z.table a.got.passed ≡ None) c.self.view_is none)

pub returns-in-Some : goal.returns-in-Some
returns-in-Some c =
    let x = c.self.inside in
    let a = c.in_ok-waiting.waiting.now in
    let here = got c.args.self.now.inputs c.deref.result.now c.from.result c.args.input a (c.deref.ensures.value ∙ ap (λ (z : State). z.inputs) c.self.view_is) c.from.ensures c.in_ok-waiting.ensures.lookup.0 c.in_ok-waiting.ensures.lookup.1 in
    let some : front_of x.table a.got.passed ≡ Some c.in-Some.front = sym (c.find_front.ensures.front ∙ ap (front_of x.table) c.bytes.ensures) ∙ c.in-Some.is in
    let has : HasFront x.table a.got.passed c.in-Some.front = subst (λ z. HasFront x.table z c.in-Some.front) c.bytes.ensures c.in-Some.ensures.has in
    choices_some c.args.self.now c.args.input a c.in-Some.front (subst IsSwitch c.self.view_is c.self.invariant) here (c.is_idle.ensures.0 c.if-not-is_idle.false)
    (subst (λ z. front_of z.table a.got.passed ≡ Some c.in-Some.front) c.self.view_is some) (subst (λ z. HasFront z.table a.got.passed c.in-Some.front) c.self.view_is has)

pub returns-in_err-waiting : goal.returns-in_err-waiting
returns-in_err-waiting c =
    let past = got_none c.args.self.now.inputs c.deref.result.now c.from.result c.args.input (c.deref.ensures.value ∙ ap (λ (z : State). z.inputs) c.self.view_is) c.from.ensures c.in_err-waiting.ensures.lookup.0 in
    rw c.from_residual.ensures (λ output can. none_leaves c.args.self.now c.args.input output past can)

use Rattle.std.proofs.Common.{◌≡◌, ◌<◌, sym, ap, ◌∙◌, subst, arith, slice_get, Some, None, refl}
use Rattle.std.proofs.lemmas.Option.{slice_get_read}
use Rattle.vc_labels.specs.Lawful.{starts_at}
use Rattle.vc_switch.specs.State.{IsSwitch}
use Rattle.vc_switch.specs.Front.{front_of}
use Rattle.vc_switch.specs.Private.Front.{HasFront}
use Rattle.vc_switch.proofs.RequestMasks.{no_bit}
use Rattle.vc_switch.proofs.Routes.{links, unbound_at, choices_none, choices_some}
use Rattle.vc_switch.proofs.switch.Switch.requests.Goals as goal

pub links-requires-clause-group : goal.links-requires-clause-group
links-requires-clause-group c =
    let f = c.in-Some.front in
    let has = c.in-Some.ensures.has in
    (links (starts_at c.self.inside.table) c.self.inside.table has.header f.first f.last c.self.invariant.table has.group).0

pub links-requires-clause-few : goal.links-requires-clause-few
links-requires-clause-few c =
    let f = c.in-Some.front in
    let has = c.in-Some.ensures.has in
    let most = (links (starts_at c.self.inside.table) c.self.inside.table has.header f.first f.last c.self.invariant.table has.group).1 in
    omega (arith, most)

pub returns-in-Some : goal.returns-in-Some
returns-in-Some c =
    let x = c.self.inside in
    let s = c.args.self.now in
    let a = c.index.result.now in
    let f = c.in-Some.front in
    let within : c.from.result < 32 = omega arith in
    let read = slice_get_read x.inputs.items 32 c.from.result a (sym c.self.invariant.input_links) within c.index.ensures in
    let here = subst (λ z. slice_get z.inputs c.args.input ≡ Some a) c.self.view_is (subst (λ j. slice_get x.inputs.items j ≡ Some a) c.from.ensures read) in
    let some : front_of x.table a.got.passed ≡ Some f = sym (c.find_front.ensures.front ∙ ap (front_of x.table) c.bytes.ensures) ∙ c.in-Some.is in
    let has : HasFront x.table a.got.passed f = subst (λ z. HasFront x.table z f) c.bytes.ensures c.in-Some.ensures.has in
    let group = choices_some s c.args.input a f (subst IsSwitch c.self.view_is c.self.invariant) here (unbound_at s c.args.input a here c.requires.unbound)
    (subst (λ z. front_of z.table a.got.passed ≡ Some f) c.self.view_is some) (subst (λ z. HasFront z.table a.got.passed f) c.self.view_is has) in
    λ o. (λ e. (group.2 o).1 ((c.links.ensures o).0 e), λ can. (c.links.ensures o).1 ((group.2 o).0 can))

pub returns-in-None : goal.returns-in-None
returns-in-None c =
    let x = c.self.inside in
    let a = c.index.result.now in
    let within : c.from.result < 32 = omega arith in
    let read = slice_get_read x.inputs.items 32 c.from.result a (sym c.self.invariant.input_links) within c.index.ensures in
    let here = subst (λ z. slice_get z.inputs c.args.input ≡ Some a) c.self.view_is (subst (λ j. slice_get x.inputs.items j ≡ Some a) c.from.ensures read) in
    let none : front_of x.table a.got.passed ≡ None = sym (c.find_front.ensures.front ∙ ap (front_of x.table) c.bytes.ensures) ∙ c.in-None.is in
    λ o. (λ one. absurd (no_bit 0 o refl one), λ can. absurd (choices_none c.args.self.now c.args.input a here (subst (λ z. front_of z.table a.got.passed ≡ None) c.self.view_is none) o can))

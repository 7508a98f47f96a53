use Rattle.std.proofs.Common.{◌≡◌, ◌↔◌, Bool, true, IsTrue, Result, Ok, refl, sym, ◌∙◌, subst}
use Rattle.vc_packets.specs.declared.memory.Memory.{Memory}
use Rattle.vc_core.specs.Choices.{HasEvent}
use Rattle.vc_core.specs.State.{shown, state_of}
use Rattle.vc_core.proofs.ListedActs.{has_by_act, has_by_take, may_by_act, may_by_take, no_take}
use Rattle.vc_core.proofs.network.Network.has_event.Goals as goal

pub returns-then-is_some-clause-has : goal.returns-then-is_some-clause-has
returns-then-is_some-clause-has c = λ p is node.
    let has = has_by_take p (state_of c.args.self.now) c.args.actor c.link_to_take.result (sym c.is_some.ensures ∙ c.if-is_some.true) node (c.link_to_take.ensures.takes p is) in
    (λ t. has, λ h. refl)

pub returns-then-is_some-clause-may : goal.returns-then-is_some-clause-may
returns-then-is_some-clause-may c = λ p is e.
    may_by_take p (state_of c.args.self.now) is c.args.actor c.link_to_take.result (sym c.is_some.ensures ∙ c.if-is_some.true) c.link_to_take.ensures.least

pub returns-clause-has : goal.returns-clause-has
returns-clause-has c = λ p is node.
    let s = state_of c.args.self.now in
    let takes = no_take p s c.args.actor c.link_to_take.result (sym c.is_some.ensures ∙ c.if-is_some.false) (c.link_to_take.ensures.takes p is) in
    subst (λ b. IsTrue b ↔ HasEvent p (shown s) c.args.actor) (sym c.is_some-2.ensures) (has_by_act p s c.args.actor c.in_ok-next.field-0 takes (c.in_ok-next.ensures.finds p is))

-- it answered yes
yes : (b : Bool) (answer : Result Bool Memory) → answer ≡ Ok b → answer ≡ Ok true → b ≡ true
yes b answer is e = cc

pub returns-clause-may : goal.returns-clause-may
returns-clause-may c = λ p is e.
    may_by_act p (state_of c.args.self.now) c.args.actor c.in_ok-next.field-0 (sym c.is_some-2.ensures ∙ yes c.is_some-2.result _ refl e) (c.in_ok-next.ensures.finds p is) c.in_ok-next.ensures.may c.in_ok-next.ensures.lets

pub returns-clause-same : goal.returns-clause-same
returns-clause-same c = c.in_ok-next.ensures.same

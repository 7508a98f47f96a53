use Rattle.std.proofs.Common.{◌≡◌, ◌<◌, ◌≤◌, sym, ◌∙◌, subst, inl, inr, arith, true}
use Rattle.std.proofs.lemmas.Bool.{cases_lt, false≢true}
use Rattle.vc_core.specs.State.{state_of, IsNetworkOf}
use Rattle.vc_core.specs.Private.Turns.{Rests, GoesOn}
use Rattle.vc_actor.specs.Turns.{actors}
use Rattle.vc_core.proofs.WayTable.{few}
use Rattle.vc_text.proofs.Closes.{all_rest, rests_of}
use Rattle.vc_text.proofs.simulation.goes_on.Goals as goal

pub returns-then-branch-clause-goes_on : goal.returns-then-branch-clause-goes_on
returns-then-branch-clause-goes_on c = λ p is.
    let inv = c.loop-actor.invariant in
    let a = c.loop-actor.actor in
    let s = state_of c.loop-actor.network in
    let many = c.actors-actor-end.ensures p is in
    let test = c.loop-actor-test.true in
    let node : a < actors p = omega arith in
    let event = (c.in_ok-has_event.ensures.has p (subst (IsNetworkOf p) (sym inv.same) is) node).0 c.if-branch.true in
    subst (λ z. GoesOn p z true) inv.same (event.0, event.2)

pub loop-actor-preserved : goal.loop-actor-preserved
loop-actor-preserved c =
    let inv = c.loop-actor.invariant in
    record {
      same = c.in_ok-has_event.ensures.same ∙ inv.same;
      rest = λ p is k less.
          let a = c.loop-actor.actor in
          let s = state_of c.loop-actor.network in
          let many = c.actors-actor-end.ensures p is in
          let test = c.loop-actor-test.true in
          let node : a < actors p = omega arith in
          elim (cases_lt k a) [
            | inl sooner ↦ inv.rest p is k sooner
            | inr later ↦ (let same : a ≡ k = omega arith in
                subst (Rests p (state_of c.args.network.now)) same
                (subst (λ z. Rests p z a) inv.same (rests_of p s a (λ h. false≢true (sym c.if-branch.false ∙ (c.in_ok-has_event.ensures.has p (subst (IsNetworkOf p) (sym inv.same) is) node).1 h)))))
          ];
    }

pub returns-clause-goes_on : goal.returns-clause-goes_on
returns-clause-goes_on c = λ p is.
    let many = c.actors-actor-end.ensures p is in
    let test = c.loop-actor-test.false in
    let nodes = (few p is.accepted).0 in
    let switches = (few p is.accepted).1 in
    let past : actors p ≤ c.loop-actor.actor = omega arith in
    all_rest p (state_of c.args.network.now) is c.loop-actor.actor past (c.loop-actor.invariant.rest p is)

use Rattle.std.proofs.Common.{◌↔◌, ◌+◌, ◌<◌, ℕ, Vec, Ok, IsTrue, ap, sym, ◌∙◌, subst, arith}
use Rattle.std.proofs.lemmas.Bool.{false≢true}
use Rattle.std.specs.Global.{Global}
use Rattle.std.specs.List.{AllByRecursion, range_with_len}
use Rattle.vc_actor.specs.Turns.{actors}
use Rattle.vc_core.specs.Choices.{AreThose, HasEvent, MayMakeOne}
use Rattle.vc_core.specs.State.{shown, state_of, IsNetworkOf}
use Rattle.vc_core.proofs.ListedActs.{all_more, ready_more, ready_not}
use Rattle.vc_core.proofs.network.Network.list_ready.Goals.{then-branch+in_ok-push, else-branch}
use Rattle.vc_core.proofs.network.Network.list_ready.Goals as goal

pub loop-actor-preserved : goal.loop-actor-preserved
loop-actor-preserved c =
    let inv = c.loop-actor.invariant in
    let s = state_of c.args.self.now in
    let a = c.loop-actor.actor in
    let old = c.loop-actor.ready.items in
    let had = c.in_ok-has_event.field-0 in
    record {
      same = c.in_ok-has_event.ensures.same ∙ inv.same;
      ready = λ p is.
          let many = c.actors-actor-end.ensures p is in
          let test = c.loop-actor-test.true in
          let node : a < actors p = omega arith in
          let has = subst (λ z. IsTrue had ↔ HasEvent p (shown z) a) inv.same (c.in_ok-has_event.ensures.has p (subst (IsNetworkOf p) (sym inv.same) is) node) in
          elim c.if-branch.branch [
            | then-branch+in_ok-push w ↦ subst (AreThose (HasEvent p (shown s)) (range_with_len 0 (a + 1))) (sym (ap (λ (v : Vec ℕ Global). v.items) w.ready-is ∙ w.in_ok-push.ensures.items))
                (ready_more (HasEvent p (shown s)) a old (inv.ready p is) (has.0 w.if-branch.true))
            | else-branch w ↦ subst (AreThose (HasEvent p (shown s)) (range_with_len 0 (a + 1))) (sym (ap (λ (v : Vec ℕ Global). v.items) w.ready-is))
                (ready_not (HasEvent p (shown s)) a old (inv.ready p is) (λ h. false≢true (sym w.if-branch.false ∙ has.1 h)))
          ];
      may = λ p is. elim c.if-branch.branch [
        | then-branch+in_ok-push w ↦ subst (AllByRecursion (MayMakeOne s)) (sym (ap (λ (v : Vec ℕ Global). v.items) w.ready-is ∙ w.in_ok-push.ensures.items))
            (all_more (MayMakeOne s) old a (inv.may p is) (subst (λ z. MayMakeOne z a) inv.same (c.in_ok-has_event.ensures.may p (subst (IsNetworkOf p) (sym inv.same) is) (ap Ok w.if-branch.true))))
        | else-branch w ↦ subst (AllByRecursion (MayMakeOne s)) (sym (ap (λ (v : Vec ℕ Global). v.items) w.ready-is)) (inv.may p is)
      ];
    }

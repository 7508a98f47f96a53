use Rattle.std.proofs.Common.{◌∙◌, sym}
use Rattle.vc_plan.proofs.Deletions.{next-both, next-one}
use Rattle.vc_plan.proofs.searched_plan.each_once.Goals as goal
use Rattle.vc_plan.proofs.searched_plan.each_once.Goals.{then-not-does_delete+in_ok-push, else-not-does_delete}

pub loop-link-preserved : goal.loop-link-preserved
loop-link-preserved c =
    elim c.if-not-does_delete.branch [
      | then-not-does_delete+in_ok-push w ↦ next-both c.args.links.now c.loop-link.link-index _ c.loop-link.once c.if-not-does_delete.once c.loop-link-test.true (w.once-is ∙ w.in_ok-push.ensures.ok) c.loop-link.invariant
      | else-not-does_delete w ↦ next-one c.args.links.now c.loop-link.link-index _ c.loop-link.once c.if-not-does_delete.once c.loop-link-test.true w.once-is (rw c.as_slice.ensures at (sym c.does_delete.ensures ∙ w.if-not-does_delete.false)) c.loop-link.invariant
    ]

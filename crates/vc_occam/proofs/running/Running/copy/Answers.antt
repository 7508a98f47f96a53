use Rattle.std.proofs.Common.{◌≡◌, ◌∙◌, ap, sym, subst, true, ℕ, length}
use Rattle.vc_occam.specs.declared.frame.Task.{Task}
use Rattle.vc_occam.specs.declared.waiters.Waiters.{Waiters}
use Rattle.vc_occam.specs.Frames.{View, task_view}
use Rattle.vc_occam.specs.InUse.{UsesLawfully}
use Rattle.vc_occam.specs.Private.Frames.{HasVariables, seen_task, whole}
use Rattle.vc_occam.specs.Private.Sites.{InPreorder}
use Rattle.vc_occam.specs.Sites.{OwnSites}
use Rattle.vc_occam.proofs.NotedWaits.{none_waits}
use Rattle.vc_occam.proofs.running.Running.copy.Goals as goal

pub invariant_of-result : goal.invariant_of-result
invariant_of-result c =
    let self = c.args.self.now in
    let is : seen_task self.task ≡ seen_task c.in_ok-task.task = sym c.in_ok-task.ensures in
    let many : length self.vars.items ≡ length c.in_ok-vars.vars.items = ap length (sym c.deref.ensures.value ∙ sym c.in_ok-vars.ensures) in record {
      has_variables = subst (λ (t : Task View). HasVariables t.frame.plan (length c.in_ok-vars.vars.items)) is (subst (λ (n : ℕ). HasVariables (whole self.task) n) many self.has_variables);
      in_preorder = subst (λ (t : Task View). InPreorder t.frame.plan) is self.in_preorder;
      own_sites = subst (λ (t : Task View). OwnSites (task_view t).rest) is self.own_sites;
      uses_lawfully = subst (λ (t : Task View). UsesLawfully (task_view t).rest) is self.uses_lawfully;
      sound = subst (λ (t : Task View). (task_view t).sound ≡ true) is self.sound;
      waiting = none_waits _ _ (ap (λ (w : Waiters). w.outputs) c.in_ok-waiters.ensures.ok ∙ c.new.ensures.outputs) (ap (λ (w : Waiters). w.inputs) c.in_ok-waiters.ensures.ok ∙ c.new.ensures.inputs);
    }

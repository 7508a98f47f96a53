use Rattle.std.proofs.Common.{◌≡◌, ◌∙◌, ◌-◌, ℕ, zero, arith, length, refl, subst, sym}
use Rattle.vc_occam.specs.Frames.{remains}
use Rattle.vc_occam.specs.Private.Frames.{HasVariables, seen_task, shown, whole}
use Rattle.vc_occam.specs.InUse.{UsesLawfully}
use Rattle.vc_occam.specs.Private.MoveSites.{at}
use Rattle.vc_occam.specs.Private.Sites.{InPreorder}
use Rattle.vc_occam.specs.Private.Waiters.{AllWait}
use Rattle.vc_occam.specs.Remains.{Rest}
use Rattle.vc_occam.specs.Sites.{OwnSites}
use Rattle.vc_occam.specs.Runnings.{inner_channels, state}
use Rattle.vc_occam.specs.States.{waiting}
use Rattle.vc_occam.specs.StepsInARow.{RestsOn, still}
use Rattle.vc_process.specs.Syntax.{Proc}
use Rattle.vc_process.specs.Terms.{store}
use Rattle.vc_process.specs.Usage.{among}
use Rattle.vc_occam.proofs.NotedWaits.{all_stay, same_stay, steps_wait}
use Rattle.vc_occam.proofs.Outcomes.{task_outcome}
use Rattle.vc_occam.proofs.StepsInARow.{can_begin, kept_on, left_as, rests_on, stepped_plan, stepped_sound}
use Rattle.vc_occam.proofs.running.Running.make_steps.Goals as goal

pub make_steps-requires-clause-can : goal.make_steps-requires-clause-can
make_steps-requires-clause-can c =
    let r = c.args.self.now in
    can_begin c.in-Quiet.site (shown r.task) r.vars.items (task_outcome (seen_task r.task) r.sound ∙ c.in-Quiet.is) r.has_variables r.in_preorder r.sound

pub invariant_of-self : goal.invariant_of-self
invariant_of-self c =
    let r = c.args.self.now in
    let new = c.make_steps.new in
    let steps = c.make_steps.ensures.stepped in
    let plan = stepped_plan steps in
    let kept = kept_on steps r.own_sites r.uses_lawfully in
    let left = left_as new.self in record {
      has_variables = subst (λ (p : Proc). HasVariables p (length new.vars.items)) (sym plan) (subst (HasVariables (whole r.task)) (sym c.make_steps.ensures.length) r.has_variables);
      in_preorder = subst InPreorder (sym plan) r.in_preorder;
      own_sites = subst OwnSites left kept.0;
      uses_lawfully = subst UsesLawfully left kept.1;
      sound = stepped_sound steps;
      waiting = subst (λ (q : Rest). AllWait r.waiters.value (waiting q)) left (all_stay r.waiters.value _ _ (same_stay _ _ (steps_wait steps)) r.waiting);
    }

pub returns-then-steps-gt0-clause-made : goal.returns-then-steps-gt0-clause-made
unfolding state inner_channels
returns-then-steps-gt0-clause-made c =
    let r = c.args.self.now in
    let new = c.make_steps.new in
    let n = c.args.steps.now.left - new.steps.left in
    let only = task_outcome (seen_task r.task) r.sound ∙ c.in-Quiet.is in
    let before = at (remains r.task) (store r.vars.items) in
    subst (λ (q : Rest). RestsOn (among r.inside) n c.args.steps.now.last before new.steps.last (at q (store new.vars.items))) (left_as new.self)
    (rests_on (among r.inside) c.args.steps.now.last r.own_sites r.uses_lawfully only c.make_steps.ensures.stepped)

none : (n : ℕ) → zero ≡ n - n
none n = omega arith

pub returns-else-steps-gt0-clause-made : goal.returns-else-steps-gt0-clause-made
returns-else-steps-gt0-clause-made c =
    let steps = c.args.steps.now in
    subst (λ n. RestsOn (inner_channels c.args.self.now) n steps.last (state c.args.self.now) steps.last (state c.args.self.now)) (none steps.left) still

pub returns-in_default : goal.returns-in_default
returns-in_default c =
    let steps = c.args.steps.now in record {
      few = omega arith;
      made = subst (λ n. RestsOn (inner_channels c.args.self.now) n steps.last (state c.args.self.now) steps.last (state c.args.self.now)) (none steps.left) still;
      inside = refl;
    }

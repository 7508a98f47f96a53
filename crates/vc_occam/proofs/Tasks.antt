-- What a process that goes on by itself came to.
use Rattle.std.proofs.Common.{◌≡◌, ◌∙◌, ℕ, ap, sym, subst, List, Option, Some, None}
use Rattle.vc_occam.specs.declared.frame.Frame.{Frame}
use Rattle.vc_occam.specs.declared.frame.Task.{Task}
use Rattle.vc_occam.specs.declared.outcome.Outcome.{Outcome}
use Rattle.vc_occam.specs.SiteActions as action
use Rattle.vc_occam.specs.Private.SiteSteps.{StepAt, one}
use Rattle.vc_occam.specs.Frames.{View, begun, left_by, remains, view}
use Rattle.vc_occam.specs.Private.Frames.{Did, HasVariables, Went, shown}
use Rattle.vc_occam.specs.Private.MoveSites.{action_on}
use Rattle.vc_occam.specs.Private.Sites.{InPreorder}
use Rattle.vc_occam.specs.Private.Wholes.{Begins}
use Rattle.vc_occam.specs.Remains.{Rest}
use Rattle.vc_process.specs.Syntax.{Proc}
use Rattle.vc_process.specs.Values.{Store}
use Rattle.vc_occam.proofs.Starts.{task_begun}
use Rattle.vc_occam.proofs.Endings.{left_again}

-- what it came to is kept, so that it is what remains
pub task_did : (step : StepAt) (v : View) (e : Store) (o : Outcome) (t : Task Frame) (f : Store) → t.begins ≡ o → Went step v e o (shown t) f → Did v.rest e step.site step.actions (remains t) f
task_did step v e o t f h w =
    subst (λ (r : Rest). Did v.rest e step.site step.actions r f) (ap (λ (q : Outcome). left_by q (remains t)) (sym h) ∙ left_again t.begins (view t.frame).rest) w.did

-- a process that goes on by itself keeps its plan, so its variables are there, and its sites in preorder
pub same_variables : {step : StepAt} {v w : View} {e f : Store} {o : Outcome} (m n : ℕ) → Went step v e o w f → m ≡ n → HasVariables v.plan n → HasVariables w.plan m
same_variables {v = v} {w = w} m n t h has =
    subst (λ (p : Proc). HasVariables p m) (sym t.plan) (subst (HasVariables v.plan) (sym h) has)

pub same_preorder : {step : StepAt} {v w : View} {e f : Store} {o : Outcome} → Went step v e o w f → InPreorder v.plan → InPreorder w.plan
same_preorder t h = subst InPreorder (sym t.plan) h

-- what goes on where it waited assigns no bytes
pub goes_on_loud : (o : Option (List ℕ)) (A : Type 0) → one (action_on o) ≡ one action.Quiet → A
goes_on_loud None A e = absurd cc
goes_on_loud (Some m) A e = absurd cc

-- a process that begins has begun
pub has_begun : (t : Task Frame) (p : Proc) → Begins t p → shown t ≡ begun p
has_begun t p h = task_begun (view t.frame) t.begins p h.0 h.1

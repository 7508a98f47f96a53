use Rattle.std.proofs.Common.{◌≡◌, ◌∙◌, ap, sym, subst, ℕ, length, List}
use Rattle.vc_process.specs.declared.datum.Datum.{Datum}
use Rattle.vc_occam.specs.declared.waiters.Waiters.{Waiters}
use Rattle.vc_occam.specs.Frames.{View, begun, remains, task_view}
use Rattle.vc_occam.specs.InUse.{UsesLawfully}
use Rattle.vc_occam.specs.Private.Frames.{HasVariables, seen_task}
use Rattle.vc_occam.specs.Private.Sites.{InPreorder}
use Rattle.vc_occam.specs.Remains.{Rest, begin}
use Rattle.vc_occam.specs.Runnings.{process_of, state}
use Rattle.vc_occam.specs.Sites.{OwnSites}
use Rattle.vc_process.specs.Numbering.{written}
use Rattle.vc_process.specs.Terms.{store}
use Rattle.vc_process.proofs.Numbers.{written_is}
use Rattle.vc_occam.proofs.NotedWaits.{none_waits}
use Rattle.vc_occam.proofs.Scope.{fits_variables, kinds_length}
use Rattle.vc_occam.proofs.Preservation.{begins}
use Rattle.vc_occam.proofs.Preorder.{at_first, in_preorder}
use Rattle.vc_occam.proofs.Tasks.{has_begun}
use Rattle.vc_occam.proofs.running.Running.new.Goals as goal

pub invariant_of-result : goal.invariant_of-result
invariant_of-result c =
    let p = c.args.process.now in
    let kinds = c.args.kinds.now in
    let there : HasVariables (written p) (length kinds) = fits_variables (written p) kinds c.requires.fits.0 c.requires.fits.1 in
    let many = kinds_length kinds _ c.in_ok-vars.ensures in
    let all : HasVariables (written p) (length c.in_ok-vars.vars.items) = subst (λ (n : ℕ). HasVariables (written p) n) (sym many) there in
    let is : begun (written p) ≡ task_view (seen_task c.in_ok-task.task) = sym (has_begun c.in_ok-task.task _ c.in_ok-task.ensures.made ∙ ap begun (sym (written_is p))) in record {
      has_variables = subst (λ (v : View). HasVariables v.plan (length c.in_ok-vars.vars.items)) is all;
      in_preorder = subst (λ (v : View). InPreorder v.plan) is (in_preorder p);
      own_sites = subst (λ (v : View). OwnSites v.rest) is (at_first p);
      uses_lawfully = subst (λ (v : View). UsesLawfully v.rest) is (begins (written p) c.requires.lawful);
      sound = ap (λ (v : View). v.sound) (sym is);
      waiting = none_waits _ _ (ap (λ (w : Waiters). w.outputs) c.in_ok-waiters.ensures.ok ∙ c.new-2.ensures.outputs) (ap (λ (w : Waiters). w.inputs) c.in_ok-waiters.ensures.ok ∙ c.new-2.ensures.inputs);
    }

pub returns-clause-state : goal.returns-clause-state
unfolding state
returns-clause-state c =
    let p = c.args.process.now in
    let t = c.in_ok-task.task in
    let is : remains t ≡ begin (written p) = ap (λ (v : View). v.rest) (has_begun t _ c.in_ok-task.ensures.made ∙ ap begun (sym (written_is p))) in
    ap (λ (r : Rest). record { rest = r; store = store c.in_ok-vars.vars.items }) is ∙ ap (λ (xs : List Datum). record { rest = begin (written p); store = store xs }) c.in_ok-vars.ensures

pub returns-clause-process : goal.returns-clause-process
unfolding process_of
returns-clause-process c =
    ap (λ (v : View). v.plan) (has_begun c.in_ok-task.task _ c.in_ok-task.ensures.made ∙ ap begun (sym (written_is c.args.process.now)))

use Rattle.std.proofs.Common.{◌∙◌, ap, ℕ, Option, length, subst, sym}
use Rattle.vc_occam.specs.declared.waiters.Waiters.{Waiters}
use Rattle.vc_occam.specs.declared.waits.Waits.{Waits}
use Rattle.vc_occam.specs.Frames.{remains}
use Rattle.vc_occam.specs.Private.Frames.{HasVariables, whole}
use Rattle.vc_occam.specs.Private.Sites.{InPreorder}
use Rattle.vc_occam.specs.Runnings.{state, inner_channels}
use Rattle.vc_occam.specs.Private.Waiters.{AllWait, wait_of}
use Rattle.vc_occam.specs.States.{State, waiting}
use Rattle.vc_process.specs.Syntax.{Proc}
use Rattle.vc_process.specs.Terms.{store}
use Rattle.vc_occam.proofs.MoveActs.{acts, own_alone}
use Rattle.vc_occam.proofs.Preservation.{step_uses}
use Rattle.vc_occam.proofs.Made.{able}
use Rattle.vc_occam.proofs.NotedWaits.{WaitsBy, begun_waits, waits_by}
use Rattle.vc_occam.proofs.Sites.{step_keeps}
use Rattle.vc_occam.proofs.StepWaits.{step_waits}
use Rattle.vc_occam.proofs.running.Running.act_alone.Goals as goal

pub go_alone-requires-clause-alone : goal.go_alone-requires-clause-alone
unfolding state inner_channels
go_alone-requires-clause-alone c =
    let self = c.args.self.now in
    own_alone (remains self.task) (store self.vars.items) c.args.made.now c.requires.listed

pub go_alone-requires-clause-able : goal.go_alone-requires-clause-able
unfolding state inner_channels
go_alone-requires-clause-able c =
    let self = c.args.self.now in
    able (remains self.task) (store self.vars.items) c.args.made.now c.args.answer c.requires.listed

pub invariant_of-self : goal.invariant_of-self
unfolding state inner_channels
invariant_of-self c =
    let self = c.args.self.now in
    let made = c.args.made.now in
    let after = c.go_alone.ensures in
    let alone = own_alone (remains self.task) (store self.vars.items) made c.requires.listed in
    let waits = waits_by made c.args.answer _ _ _ alone (step_waits after.did.1) in
    let is = c.wait_of.ensures ∙ ap (wait_of made) c.has_none-has_none.ensures in
    let noted = subst (λ (w : Waiters). AllWait w (waiting (remains self.task))) (sym c.deref_mut.ensures.value) self.waiting in record {
      has_variables = subst (λ (p : Proc). HasVariables p (length c.go_alone.new.vars.items)) (sym after.plan) (subst (HasVariables (whole self.task)) (sym after.length) self.has_variables);
      in_preorder = subst InPreorder (sym after.plan) self.in_preorder;
      own_sites = (step_keeps after.did.1 self.own_sites).1;
      uses_lawfully = step_uses after.did.1 self.uses_lawfully;
      sound = after.sound;
      waiting = begun_waits c.deref_mut.result.now c.note.new.self _ _ c.wait_of.result (subst (λ (o : Option (Waits × ℕ)). WaitsBy o (waiting (remains self.task)) (waiting (remains c.go_alone.new.task))) (sym is) waits) c.note.ensures.only noted;
    }

pub returns-clause-made : goal.returns-clause-made
unfolding state inner_channels
returns-clause-made c =
    let self = c.args.self.now in
    let r = remains self.task in
    let e = store self.vars.items in
    let made = c.args.made.now in
    let before : State = record { rest = r; store = e } in
    let after : State = record { rest = remains c.go_alone.new.task; store = store c.go_alone.new.vars.items } in
    acts before after made c.args.answer self.own_sites self.uses_lawfully (own_alone r e made c.requires.listed) c.go_alone.ensures.did

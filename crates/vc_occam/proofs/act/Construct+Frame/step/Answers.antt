use Rattle.std.proofs.Common.{None, refl, subst, sym}
use Rattle.vc_occam.specs.declared.frame.Construct.{Construct}
use Rattle.vc_occam.specs.declared.frame.Construct.TheVariants as run
use Rattle.vc_occam.specs.declared.frame.Frame.{Frame}
use Rattle.vc_occam.specs.Frames.{view}
use Rattle.vc_occam.specs.Private.Frames.{Acted, shape}
use Rattle.vc_occam.specs.Private.SiteSteps.{quiet_at}
use Rattle.vc_process.specs.Terms.{exp, given, store}
use Rattle.vc_occam.proofs.SiteActs.{can_as, index_there, leaf_acted}
use Rattle.vc_occam.proofs.ProcessStep.{assigned_there, output_faulted}
use Rattle.vc_occam.proofs.act.Construct+Frame.step.Goals as goal

pub act-requires-clause-variable : goal.act-requires-clause-variable
act-requires-clause-variable c =
    let i = c.requires.can.0 in
    let s = c.in-Set.set in
    let vars = c.args.vars.now.items in
    let step = quiet_at i c.args.assigned.now in
    assigned_there step i s.var (given s.value) vars (can_as step i c.args.self.now (run.Set s) vars c.in-Set.is c.requires.can.1)

pub act-requires-in-Count-clause-variable : goal.act-requires-in-Count-clause-variable
act-requires-in-Count-clause-variable c =
    let i = c.requires.can.0 in
    let s = c.in-Count.counting in
    let vars = c.args.vars.now.items in
    let step = quiet_at i c.args.assigned.now in
    index_there step i s.var (exp s.base) (exp s.count) (view s.body.value) s.turn vars (can_as step i c.args.self.now (run.Count s) vars c.in-Count.is c.requires.can.1)

pub returns-in-Send-clause-acted : goal.returns-in-Send-clause-acted
returns-in-Send-clause-acted c = λ i can.
    let o = c.in-Send.field-0 in
    let vars = c.args.vars.now.items in
    let can_do = can_as (quiet_at i c.args.assigned.now) i c.args.self.now (run.Send o) vars c.in-Send.is can in
    subst (λ (k : Construct Frame). Acted i (shape k) (store vars) None (shape k) (store vars)) (sym c.in-Send.is) (output_faulted i o.chan (given o.value) o.begun (store vars) i can_do.able)

pub returns-in_default : goal.returns-in_default
returns-in_default c =
    let n = c.in_default in
    record {
      acted = λ i can. leaf_acted i c.args.assigned.now c.args.self.now c.args.vars.now.items c.requires.itself can n.not-Set n.not-Send n.not-If n.not-While n.not-Count;
      length = refl;
    }

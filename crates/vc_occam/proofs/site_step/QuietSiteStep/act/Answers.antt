use Rattle.std.proofs.Common.{sym, subst, true}
use Rattle.vc_occam.specs.declared.frame.Frame.TheViews.{out-Frame, out-roll-Frame, roll-Frame}
use Rattle.vc_occam.specs.declared.frame.Frame.{Frame}
use Rattle.vc_occam.specs.declared.frame.Frame.TheOpen.{Frame-F}
use Rattle.vc_occam.specs.declared.outcome.Outcome.TheVariants.{Nothing}
use Rattle.vc_occam.specs.Frames.{view}
use Rattle.vc_occam.specs.Private.Frames.{Went}
use Rattle.vc_occam.specs.Private.SiteSteps.{one, quiet_at}
use Rattle.vc_occam.specs.SiteActions as action
use Rattle.vc_process.specs.Terms.{store}
use Rattle.vc_occam.proofs.SiteActs.{can_here, stopped_went, went_here}
use Rattle.vc_occam.proofs.site_step.QuietSiteStep.act.Goals as goal

pub step-requires-clause-can : goal.step-requires-clause-can
step-requires-clause-can c = let f = c.args.frame.now in ((out-Frame f).site, can_here c.args.self.now.site (one action.Quiet) c.args.self.now.assigned f c.args.vars.now.items c.requires.itself c.requires.can)

pub returns-in-Some-clause-went : goal.returns-in-Some-clause-went
returns-in-Some-clause-went c =
    let s = c.args.self.now in
    let f = c.args.frame.now in
    let d = one action.Quiet in
    let vars = c.args.vars.now.items in
    let acted = c.in-Some.ensures.acted (out-Frame f).site (can_here s.site d s.assigned f vars c.requires.itself c.requires.can) in
    went_here s.site d s.assigned f vars c.requires.itself c.requires.can c.step.new.self c.in-Some.outcome (store c.step.new.vars.items) acted

pub returns-in-None-clause-went : goal.returns-in-None-clause-went
returns-in-None-clause-went c =
    let s = c.args.self.now in
    let f = c.args.frame.now in
    let vars = c.args.vars.now.items in
    let acted = c.in-None.ensures.acted (out-Frame f).site (can_here s.site (one action.Quiet) s.assigned f vars c.requires.itself c.requires.can) in
    let h = store c.step.new.vars.items in
    let left : Frame-F Frame = record { site = (out-Frame f).site; stopped = (out-Frame f).stopped; construct = c.step.new.self } in
    subst (λ (g : Frame-F Frame). Went (quiet_at s.site s.assigned) (view f) (store vars) Nothing (view (roll-Frame (record { site = g.site; stopped = true; construct = g.construct }))) h) (sym (out-roll-Frame left))
    (stopped_went s.site s.assigned f c.step.new.self vars h c.requires.itself c.requires.can acted)

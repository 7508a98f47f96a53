use Rattle.vc_occam.specs.declared.frame.Frame.TheViews.{out-Frame}
use Rattle.vc_occam.specs.Frames.{view}
use Rattle.vc_occam.specs.Private.SiteSteps.{one, step_at}
use Rattle.vc_occam.specs.SiteActions as action
use Rattle.vc_process.specs.Terms.{store}
use Rattle.vc_occam.proofs.SiteActs.{ended_went}
use Rattle.vc_occam.proofs.OwnSite.{frame_is_own, stop_did}
use Rattle.vc_occam.proofs.site_step.StopChannelSiteStep.act.Goals as goal

pub returns-clause-went : goal.returns-clause-went
returns-clause-went c =
    let s = c.args.self.now in
    let f = c.args._frame.now in
    let vars = c.args._vars.now.items in
    ended_went (step_at s.site (one (action.StopChannel s.chan))) f vars c.requires.can (stop_did (out-Frame f).site (view f).rest (store vars) s.site s.chan (frame_is_own f c.requires.itself) c.requires.can.able)

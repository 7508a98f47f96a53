use Rattle.std.proofs.Common.{refl, true}
use Rattle.vc_occam.specs.declared.frame.Construct.TheVariants as run
use Rattle.vc_occam.specs.declared.frame.Frame.TheViews.{out-Frame}
use Rattle.vc_occam.specs.declared.outcome.Outcome.TheVariants.{Nothing}
use Rattle.vc_occam.specs.Private.SiteSteps.{one, step_at}
use Rattle.vc_occam.specs.SiteActions as action
use Rattle.vc_process.specs.Terms.{given, store}
use Rattle.vc_occam.proofs.SiteActs.{frame_can, rolled_went}
use Rattle.vc_occam.proofs.OwnSite.{no_offer}
use Rattle.vc_occam.proofs.ProcessStep.{output_offered}
use Rattle.vc_occam.proofs.site_step.OfferSiteStep.act.Goals as goal

pub returns-in-Send-clause-went : goal.returns-in-Send-clause-went
returns-in-Send-clause-went c =
    let s = c.args.self.now in
    let f = c.args.frame.now in
    let vars = c.args._vars.now.items in
    let o = c.in-Send.output in
    let step = step_at s.site (one (action.Offer s.chan)) in
    let can = frame_can step f (run.Send o) vars c.requires.can c.in-Send.is in
    rolled_went step f (run.Send o) (run.Send (record { chan = o.chan; value = o.value; begun = true })) vars Nothing (store vars) c.requires.can c.in-Send.is
    (output_offered s.site s.chan (out-Frame f).site o.chan (given o.value) o.begun vars can)

pub returns-in_default : goal.returns-in_default
returns-in_default c =
    let s = c.args.self.now in
    let f = c.args.frame.now in
    let vars = c.args._vars.now.items in
    let can = frame_can (step_at s.site (one (action.Offer s.chan))) f (out-Frame f).construct vars c.requires.can refl in
    absurd (no_offer (out-Frame f).site (out-Frame f).construct (store vars) s.site s.chan c.requires.itself can.able c.in_default.not-Send)

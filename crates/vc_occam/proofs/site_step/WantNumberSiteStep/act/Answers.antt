use Rattle.std.proofs.Common.{◌∙◌, Some, ap, refl, rules, subst, sym, w64, ℤ}
use Rattle.std.proofs.lemmas.Int.{to_z-of_z}
use mir.Val.{SFits}
use Rattle.vc_occam.specs.declared.frame.Construct.TheVariants as run
use Rattle.vc_occam.specs.declared.frame.Frame.TheViews.{out-Frame, roll-Frame}
use Rattle.vc_occam.specs.declared.outcome.Outcome.{Outcome}
use Rattle.vc_occam.specs.declared.outcome.Outcome.TheVariants.{Ended}
use Rattle.vc_occam.specs.Frames.{view}
use Rattle.vc_occam.specs.Private.Frames.{Went}
use Rattle.vc_occam.specs.Private.SiteSteps.{one, step_at}
use Rattle.vc_occam.specs.SiteActions as action
use Rattle.vc_occam.specs.Traces.{set}
use Rattle.vc_process.specs.Messages.{number_bytes, received}
use Rattle.vc_process.specs.Terms.{store}
use Rattle.vc_occam.proofs.SiteActs.{frame_can, rolled_went}
use Rattle.vc_occam.proofs.OwnSite.{no_want}
use Rattle.vc_occam.proofs.ProcessStep.{received_there, want_got}
use Rattle.vc_occam.proofs.site_step.WantNumberSiteStep.act.Goals as goal

pub take_number-requires : goal.take_number-requires
take_number-requires c =
    let s = c.args.self.now in
    let f = c.args.frame.now in
    let n = c.in-Receive.input in
    let vars = c.args.vars.now.items in
    let step = step_at s.site (one (action.Want s.chan (Some (number_bytes s.number)))) in
    record { variable = received_there step (out-Frame f).site n.chan n.var n.begun vars (frame_can step f (run.Receive n) vars c.requires.can c.in-Receive.is) }

pub returns-in-Receive-clause-went : goal.returns-in-Receive-clause-went
returns-in-Receive-clause-went c =
    let s = c.args.self.now in
    let f = c.args.frame.now in
    let n = c.in-Receive.input in
    let m = number_bytes s.number in
    let i = (out-Frame f).site in
    let vars = c.args.vars.now.items in
    let e = store vars in
    let g = store c.take_number.new.vars.items in
    let step = step_at s.site (one (action.Want s.chan (Some m))) in
    let fits : SFits w64 s.number = search rules in
    let value = c.take_number.ensures.value ∙ ap (λ (z : ℤ). set e n.var (received (e n.var) (number_bytes z))) (to_z-of_z w64 s.number fits) in
    let got = want_got s.site s.chan i n.chan n.var n.begun vars m g (frame_can step f (run.Receive n) vars c.requires.can c.in-Receive.is) value in
    let new = roll-Frame (record { site = i; stopped = (out-Frame f).stopped; construct = run.Receive n }) in
    subst (λ (o : Outcome). Went step (view f) e o (view new) g) (sym c.take_number.ensures.ended)
    (rolled_went step f (run.Receive n) (run.Receive n) vars Ended g c.requires.can c.in-Receive.is got)

pub returns-in_default : goal.returns-in_default
returns-in_default c =
    let s = c.args.self.now in
    let f = c.args.frame.now in
    let vars = c.args.vars.now.items in
    let m = Some (number_bytes s.number) in
    let can = frame_can (step_at s.site (one (action.Want s.chan m))) f (out-Frame f).construct vars c.requires.can refl in
    absurd (no_want (out-Frame f).site (out-Frame f).construct (store vars) s.site s.chan m c.requires.itself can.able c.in_default.not-Receive)

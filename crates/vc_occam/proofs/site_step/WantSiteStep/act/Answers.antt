use Rattle.std.proofs.Common.{◌≡◌, ◌∙◌, Option, Some, None, refl, subst, sym, true}
use Rattle.vc_occam.specs.declared.frame.Construct.TheVariants as run
use Rattle.vc_occam.specs.declared.frame.Frame.TheViews.{out-Frame, roll-Frame}
use Rattle.vc_occam.specs.declared.outcome.Outcome.{Outcome}
use Rattle.vc_occam.specs.declared.outcome.Outcome.TheVariants.{Ended, Nothing}
use Rattle.vc_occam.specs.Frames.{view}
use Rattle.vc_occam.specs.Private.Frames.{CanGo, Went}
use Rattle.vc_occam.specs.Private.SiteSteps.{one, step_at}
use Rattle.vc_occam.specs.SiteActions as action
use Rattle.vc_packets.specs.declared.bytes.Bytes.{Bytes}
use Rattle.vc_process.specs.Terms.{store}
use Rattle.vc_occam.proofs.SiteActs.{frame_can, rolled_went}
use Rattle.vc_occam.proofs.OwnSite.{no_want}
use Rattle.vc_occam.proofs.ProcessStep.{received_there, want_got, want_waits}
use Rattle.vc_occam.proofs.site_step.WantSiteStep.act.Goals as goal

pub take-requires-in-Some : goal.take-requires-in-Some
take-requires-in-Some c =
    let s = c.args.self.now in
    let f = c.args.frame.now in
    let n = c.in-Receive.input in
    let vars = c.args.vars.now.items in
    let step = step_at s.site (one (action.Want s.chan s.message)) in
    record { variable = received_there step (out-Frame f).site n.chan n.var n.begun vars (frame_can step f (run.Receive n) vars c.requires.can c.in-Receive.is) }

pub returns-in-Some-clause-went : goal.returns-in-Some-clause-went
returns-in-Some-clause-went c =
    let s = c.args.self.now in
    let f = c.args.frame.now in
    let n = c.in-Receive.input in
    let m = c.in-Some.message in
    let i = (out-Frame f).site in
    let vars = c.args.vars.now.items in
    let e = store vars in
    let g = store c.take-in-Some.new.vars.items in
    let comes : s.message ≡ Some m = sym c.take.ensures.value ∙ c.in-Some.is in
    let step = step_at s.site (one (action.Want s.chan (Some m))) in
    let can = subst (λ (o : Option Bytes). CanGo (step_at s.site (one (action.Want s.chan o))) (view f) vars) comes c.requires.can in
    let got = want_got s.site s.chan i n.chan n.var n.begun vars m g (frame_can step f (run.Receive n) vars can c.in-Receive.is) c.take-in-Some.ensures.value in
    let went = rolled_went step f (run.Receive n) (run.Receive n) vars Ended g can c.in-Receive.is got in
    let new = roll-Frame (record { site = i; stopped = (out-Frame f).stopped; construct = run.Receive n }) in
    subst (λ (o : Outcome). Went (step_at s.site (one (action.Want s.chan s.message))) (view f) e o (view new) g) (sym c.take-in-Some.ensures.ended)
    (subst (λ (o : Option Bytes). Went (step_at s.site (one (action.Want s.chan o))) (view f) e Ended (view new) g) (sym comes) went)

pub returns-in-None-clause-went : goal.returns-in-None-clause-went
returns-in-None-clause-went c =
    let s = c.args.self.now in
    let f = c.args.frame.now in
    let n = c.in-Receive.input in
    let i = (out-Frame f).site in
    let vars = c.args.vars.now.items in
    let none : s.message ≡ None = sym c.take.ensures.value ∙ c.in-None.is in
    let step = step_at s.site (one (action.Want s.chan None)) in
    let can = subst (λ (o : Option Bytes). CanGo (step_at s.site (one (action.Want s.chan o))) (view f) vars) none c.requires.can in
    let waits = want_waits s.site s.chan i n.chan n.var n.begun vars (frame_can step f (run.Receive n) vars can c.in-Receive.is) in
    let l = run.Receive (record { chan = n.chan; var = n.var; begun = true }) in
    subst (λ (o : Option Bytes). Went (step_at s.site (one (action.Want s.chan o))) (view f) (store vars) Nothing (view (roll-Frame (record { site = i; stopped = (out-Frame f).stopped; construct = l }))) (store vars)) (sym none)
    (rolled_went step f (run.Receive n) l vars Nothing (store vars) can c.in-Receive.is waits)

pub returns-in_default : goal.returns-in_default
returns-in_default c =
    let s = c.args.self.now in
    let f = c.args.frame.now in
    let vars = c.args.vars.now.items in
    let can = frame_can (step_at s.site (one (action.Want s.chan s.message))) f (out-Frame f).construct vars c.requires.can refl in
    absurd (no_want (out-Frame f).site (out-Frame f).construct (store vars) s.site s.chan s.message c.requires.itself can.able c.in_default.not-Receive)

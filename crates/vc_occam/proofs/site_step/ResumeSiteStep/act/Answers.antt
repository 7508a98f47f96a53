use Rattle.std.proofs.Common.{◌≡◌, ◌∙◌, Option, Some, None, subst, sym}
use Rattle.vc_occam.specs.declared.frame.Frame.TheViews.{out-Frame, roll-Frame}
use Rattle.vc_occam.specs.declared.outcome.Outcome.TheVariants.{Ended}
use Rattle.vc_occam.specs.Frames.{view}
use Rattle.vc_occam.specs.Private.Frames.{CanGo, Went}
use Rattle.vc_occam.specs.Private.MoveSites.{action_on}
use Rattle.vc_occam.specs.Private.SiteSteps.{one, step_at}
use Rattle.vc_occam.specs.SiteActions as action
use Rattle.vc_packets.specs.declared.bytes.Bytes.{Bytes}
use Rattle.vc_process.specs.Terms.{store}
use Rattle.vc_occam.proofs.SiteActs.{can_here, ended_went, went_here}
use Rattle.vc_occam.proofs.OwnSite.{finish_did, frame_is_own}
use Rattle.vc_occam.proofs.site_step.ResumeSiteStep.act.Goals as goal

pub receive-requires-clause-can : goal.receive-requires-clause-can
receive-requires-clause-can c =
    let s = c.args.self.now in
    let f = c.args.frame.now in
    let m = c.in-Some.message in
    let vars = c.args.vars.now.items in
    let can = subst (λ (o : Option Bytes). CanGo (step_at s.site (one (action_on o))) (view f) vars) (sym c.take.ensures.value ∙ c.in-Some.is) c.requires.can in
    ((out-Frame f).site, can_here s.site (one (action.Message m)) None f vars c.requires.itself can)

pub returns-in-Some-clause-went : goal.returns-in-Some-clause-went
returns-in-Some-clause-went c =
    let s = c.args.self.now in
    let f = c.args.frame.now in
    let m = c.in-Some.message in
    let r = c.receive in
    let i = (out-Frame f).site in
    let vars = c.args.vars.now.items in
    let g = store r.new.vars.items in
    let d = one (action.Message m) in
    let comes : s.message ≡ Some m = sym c.take.ensures.value ∙ c.in-Some.is in
    let can = subst (λ (o : Option Bytes). CanGo (step_at s.site (one (action_on o))) (view f) vars) comes c.requires.can in
    let received = r.ensures.received i (can_here s.site d None f vars c.requires.itself can) in
    subst (λ (o : Option Bytes). Went (step_at s.site (one (action_on o))) (view f) (store vars) r.result (view (roll-Frame (record { site = i; stopped = (out-Frame f).stopped; construct = r.new.self }))) g) (sym comes)
    (went_here s.site d None f vars c.requires.itself can r.new.self r.result g received)

pub returns-in-None-clause-went : goal.returns-in-None-clause-went
returns-in-None-clause-went c =
    let s = c.args.self.now in
    let f = c.args.frame.now in
    let vars = c.args.vars.now.items in
    let none : s.message ≡ None = sym c.take.ensures.value ∙ c.in-None.is in
    let can = subst (λ (o : Option Bytes). CanGo (step_at s.site (one (action_on o))) (view f) vars) none c.requires.can in
    subst (λ (o : Option Bytes). Went (step_at s.site (one (action_on o))) (view f) (store vars) Ended (view f) (store vars)) (sym none)
    (ended_went (step_at s.site (one action.Finish)) f vars can (finish_did (out-Frame f).site (view f).rest (store vars) s.site (frame_is_own f c.requires.itself) can.able))

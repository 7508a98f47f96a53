use Rattle.std.proofs.Common.{◌≡◌, ◌∙◌, Option, Some, None, length, refl, subst, sym, true}
use Rattle.vc_occam.specs.declared.frame.Choice.TheVariants.{Taken}
use Rattle.vc_occam.specs.declared.frame.Construct.{Construct}
use Rattle.vc_occam.specs.declared.frame.Construct.TheVariants as run
use Rattle.vc_occam.specs.declared.frame.Frame.{Frame}
use Rattle.vc_occam.specs.declared.frame.Frame.TheViews.{out-Frame, roll-Frame}
use Rattle.vc_occam.specs.declared.outcome.Outcome.TheVariants.{Nothing}
use Rattle.vc_occam.specs.Frames.{is_at_itself, view}
use Rattle.vc_occam.specs.Private.Frames.{CanGo, HasGot, HasGuard, Went, alt_shape, seen_guards, shape}
use Rattle.vc_occam.specs.Private.SiteSteps.{one, step_at}
use Rattle.vc_occam.specs.SiteActions as action
use Rattle.vc_packets.specs.declared.bytes.Bytes.{Bytes}
use Rattle.vc_process.specs.Terms.{store}
use Rattle.vc_occam.proofs.SiteActs.{frame_can, rolled_went}
use Rattle.vc_occam.proofs.GuardChoice.{choice_got, choice_has, choice_waits}
use Rattle.vc_occam.proofs.OwnSite.{no_choice}
use Rattle.vc_occam.proofs.site_step.ChooseSiteStep.act.Goals as goal

-- the construct, by what an arm says of it, is at itself
itself_as : (k l : Construct Frame) → k ≡ l → is_at_itself (shape k) ≡ true → is_at_itself (shape l) ≡ true
itself_as k l h = subst (λ (x : Construct Frame). is_at_itself (shape x) ≡ true) h

pub take-requires-in-Some : goal.take-requires-in-Some
take-requires-in-Some c =
    let s = c.args.self.now in
    let f = c.args.frame.now in
    let a = c.in-Alt.alt in
    let vars = c.args.vars.now.items in
    let can = frame_can (step_at s.site (one (action.Choose s.place s.chan s.message))) f (run.Alt a) vars c.requires.can c.in-Alt.is in
    let itself = itself_as (out-Frame f).construct (run.Alt a) c.in-Alt.is c.requires.itself in
    let has = choice_has s.site s.place s.chan s.message (out-Frame f).site (seen_guards a) a.choice vars itself can in
    record { sound = can.sound; there = subst (λ k. HasGuard (seen_guards a) k (length vars)) (sym c.from.ensures) has }

pub returns-in-Some-clause-went : goal.returns-in-Some-clause-went
returns-in-Some-clause-went c =
    let s = c.args.self.now in
    let f = c.args.frame.now in
    let a = c.in-Alt.alt in
    let m = c.in-Some.message in
    let t = c.take-in-Some in
    let i = (out-Frame f).site in
    let vars = c.args.vars.now.items in
    let g = store t.new.vars.items in
    let comes : s.message ≡ Some m = sym c.take.ensures.value ∙ c.in-Some.is in
    let step = step_at s.site (one (action.Choose s.place s.chan (Some m))) in
    let can = subst (λ (o : Option Bytes). CanGo (step_at s.site (one (action.Choose s.place s.chan o))) (view f) vars) comes c.requires.can in
    let itself = itself_as (out-Frame f).construct (run.Alt a) c.in-Alt.is c.requires.itself in
    let got = subst (λ k. HasGot k m (seen_guards a) (store vars) t.result (alt_shape t.new.self) g) c.from.ensures t.ensures.got in
    let went = choice_got s.site s.place s.chan m i (seen_guards a) a.choice vars t.result (alt_shape t.new.self) g itself (frame_can step f (run.Alt a) vars can c.in-Alt.is) got in
    subst (λ (o : Option Bytes). Went (step_at s.site (one (action.Choose s.place s.chan o))) (view f) (store vars) t.result (view (roll-Frame (record { site = i; stopped = (out-Frame f).stopped; construct = run.Alt t.new.self }))) g) (sym comes)
    (rolled_went step f (run.Alt a) (run.Alt t.new.self) vars t.result g can c.in-Alt.is went)

pub returns-in-None-clause-went : goal.returns-in-None-clause-went
returns-in-None-clause-went c =
    let s = c.args.self.now in
    let f = c.args.frame.now in
    let a = c.in-Alt.alt in
    let i = (out-Frame f).site in
    let vars = c.args.vars.now.items in
    let none : s.message ≡ None = sym c.take.ensures.value ∙ c.in-None.is in
    let step = step_at s.site (one (action.Choose s.place s.chan None)) in
    let can = subst (λ (o : Option Bytes). CanGo (step_at s.site (one (action.Choose s.place s.chan o))) (view f) vars) none c.requires.can in
    let itself = itself_as (out-Frame f).construct (run.Alt a) c.in-Alt.is c.requires.itself in
    let went = choice_waits s.site s.place s.chan i (seen_guards a) a.choice vars itself (frame_can step f (run.Alt a) vars can c.in-Alt.is) in
    subst (λ k. Went (step_at s.site (one (action.Choose s.place s.chan s.message))) (view f) (store vars) Nothing (view (roll-Frame (record { site = i; stopped = (out-Frame f).stopped; construct = run.Alt (record { guards = a.guards; choice = Taken k }) }))) (store vars)) (sym c.from-in-None.ensures)
    (subst (λ (o : Option Bytes). Went (step_at s.site (one (action.Choose s.place s.chan o))) (view f) (store vars) Nothing (view (roll-Frame (record { site = i; stopped = (out-Frame f).stopped; construct = run.Alt (record { guards = a.guards; choice = Taken s.place }) }))) (store vars)) (sym none)
    (rolled_went step f (run.Alt a) (run.Alt (record { guards = a.guards; choice = Taken s.place })) vars Nothing (store vars) can c.in-Alt.is went))

pub returns-in_default : goal.returns-in_default
returns-in_default c =
    let s = c.args.self.now in
    let f = c.args.frame.now in
    let vars = c.args.vars.now.items in
    let can = frame_can (step_at s.site (one (action.Choose s.place s.chan s.message))) f (out-Frame f).construct vars c.requires.can refl in
    absurd (no_choice (out-Frame f).site (out-Frame f).construct (store vars) s.site s.place s.chan s.message c.requires.itself can.able c.in_default.not-Alt)

use Rattle.std.proofs.Common.{◌≡◌, ◌+◌, [], Ok, ap, sym, subst, inl, inr, arith}
use Rattle.vc_text.specs.Private.Draws.{HasDrawn}
use Rattle.vc_text.specs.Private.Simulation.{counted}
use Rattle.vc_text.proofs.DrawnEvents.{none_drawn}
use Rattle.vc_text.specs.declared.schedule.Schedule.TheVariants.{Random}
use Rattle.vc_text.proofs.LongerRuns.{stops_within}
use Rattle.vc_text.proofs.TextWrites.{any_err}
use Rattle.vc_text.proofs.simulation.Simulation.draw_events.Goals as goal

pub loop-self-init : goal.loop-self-init
loop-self-init g c =
    let a = c.args in
    record {
      few = c.requires.few;
      kept = λ p is. is;
      runs = λ from p kept run. ([], kept, subst (λ l. HasDrawn p a.seed [] a.self.now l) (sym c.new-draws.ensures) (none_drawn p a.seed a.self.now run));
    }

pub draw_event-requires-clause-is : goal.draw_event-requires-clause-is
draw_event-requires-clause-is g c = (c.requires.is.0, c.loop-self.invariant.kept c.requires.is.0 c.requires.is.1)

pub loop-self-preserved : goal.loop-self-preserved
loop-self-preserved g c =
    let inv = c.loop-self.invariant in
    let test = c.loop-self-test.true in
    let made = subst (λ b. c.draw_event.new.self.made ≡ counted b c.loop-self.self.made) c.if-not-branch.false c.in_ok-draw_event.ensures.made in
    record {
      few = omega (arith, test, made);
      kept = λ p is. c.in_ok-draw_event.ensures.kept p (inv.kept p is);
      runs = λ from p kept run. (let mid = inv.runs from p kept run in c.in_ok-draw_event.ensures.runs c.args.seed from p mid.0 mid.1 mid.2);
    }

pub returns-then-not-branch-clause-few : goal.returns-then-not-branch-clause-few
returns-then-not-branch-clause-few g c =
    let few = c.loop-self.invariant.few in
    let made = subst (λ b. c.draw_event.new.self.made ≡ counted b c.loop-self.self.made) c.if-not-branch.true c.in_ok-draw_event.ensures.made in
    omega (arith, few, made)

pub returns-then-not-branch-clause-runs : goal.returns-then-not-branch-clause-runs
returns-then-not-branch-clause-runs g c = λ from p kept run.
    let mid = c.loop-self.invariant.runs from p kept run in
    let more = c.in_ok-draw_event.ensures.runs c.args.seed from p mid.0 mid.1 mid.2 in
    (more.0, more.1, more.2.runs, (c.draw_event.new.draws.words, more.2.drawn))

pub returns-then-not-branch-clause-ends : goal.returns-then-not-branch-clause-ends
returns-then-not-branch-clause-ends g c = λ from p es kept run. inr (c.in_ok-draw_event.ensures.rests (ap Ok c.if-not-branch.true) p (c.loop-self.invariant.kept p run.reached.is))

pub returns-clause-runs : goal.returns-clause-runs
returns-clause-runs g c = λ from p kept run.
    let mid = c.loop-self.invariant.runs from p kept run in
    (mid.0, mid.1, mid.2.runs, (c.loop-self.draws.words, mid.2.drawn))

pub returns-clause-ends : goal.returns-clause-ends
returns-clause-ends g c = λ from p es kept run.
    let few = c.loop-self.invariant.few in
    let test = c.loop-self-test.false in
    inl (omega (arith, few, test))

pub returns-in_err-draw_event-clause-stops : goal.returns-in_err-draw_event-clause-stops
returns-in_err-draw_event-clause-stops g c = any_err c.from_residual.result (λ from p kept run.
    let test = c.loop-self-test.true in
    let mid = c.loop-self.invariant.runs from p kept run in
    stops_within (g.K.EventSink.holds from) (g.K.EventSink.left from) _ p (Random c.args.seed) (c.loop-self.self.made + 1) c.args.limit (omega (arith, test))
    (c.in_err-draw_event.ensures.stops c.args.seed from p mid.0 mid.1 mid.2))

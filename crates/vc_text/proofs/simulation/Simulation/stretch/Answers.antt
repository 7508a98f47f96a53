use Rattle.std.proofs.Common.{arith}
use Rattle.vc_text.proofs.LongerRuns.{stays_on}
use Rattle.vc_text.proofs.TextWrites.{any_err}
use Rattle.vc_text.proofs.simulation.Simulation.stretch.Goals as goal

pub loop-init : goal.loop-init
loop-init g c = record {
  few = c.requires;
  some = omega arith;
  runs = stays_on g.K.EventSink.holds c.args.self.now c.args.events.now c.args.progress.now;
}

pub returns-in_err-round-clause-stops : goal.returns-in_err-round-clause-stops
returns-in_err-round-clause-stops g c = any_err c.from_residual.result (λ from p es kept run.
    let mid = c.loop.invariant.runs from p es kept run in
    c.in_err-round.ensures.stops from p mid.0 mid.1 mid.2)

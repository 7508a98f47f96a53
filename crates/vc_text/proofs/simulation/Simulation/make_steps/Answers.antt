use Rattle.std.proofs.Common.{refl}
use Rattle.vc_core.specs.State.{state_of}
use Rattle.vc_text.proofs.LongerRuns.{more_steps}
use Rattle.vc_text.proofs.simulation.Simulation.make_steps.Goals as goal

pub returns-in-Some-clause-runs : goal.returns-in-Some-clause-runs
returns-in-Some-clause-runs g c = λ from p es kept run.
    let a = c.args in
    let far = a.progress.now in
    let steps = c.steps_of in
    let more = more_steps p es c.in-Some.actor steps.result a.self.now _ far _ refl c.in-Some.ensures.0 c.in-Some.ensures.1 refl refl steps.ensures.awake steps.ensures.made run in
    (more.0, c.keeps_none.ensures c.if-not-keeps_none.false from p es more.0 (state_of a.self.now.network) (state_of steps.new.network) kept, more.1)

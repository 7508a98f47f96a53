use Rattle.std.proofs.Common.{inl}
use Rattle.vc_trace.proofs.step_run.trace_step.Goals as goal

pub returns : goal.returns
returns g c = inl (c.in_ok-accepted.accepted, c.in_ok-accepted.ensures, c.trace_plan.ensures)

use Rattle.std.proofs.Common.{◌≡◌, ◌++◌, take}
use Rattle.std.specs.List.{flat_map}
use Rattle.vc_text.specs.FaultLine.{step_text}
use Rattle.vc_explain.proofs.place.push_steps.Given as goal

abbrev pub invariant-loop-step : goal.invariant-loop-step
invariant-loop-step l = l.out.items ≡ l.initial.out.items ++ flat_map step_text (take l.step-index l.path)

use Rattle.std.proofs.Common.{◌≡◌, length}
use Rattle.vc_explain.specs.Parts.{value_at}
use Rattle.vc_explain.proofs.parts.value_at.Given as goal

abbrev pub invariant-loop-step : goal.invariant-loop-step
invariant-loop-step l = value_at l.left l.rest ≡ value_at l.path l.text

abbrev pub decreases-loop-step : goal.decreases-loop-step
decreases-loop-step l = length l.left

use Rattle.std.proofs.Common.{◌≡◌, drop}
use Rattle.serde_json.specs.View.{view}
use Rattle.vc_explain.specs.DeclaredNames.{value_at}
use Rattle.vc_explain.proofs.declared_names.value_at.Given as goal

abbrev pub invariant-loop-step : goal.invariant-loop-step
invariant-loop-step l = value_at (drop l.step-index l.path) (view l.value) ≡ value_at l.path (view l.file)

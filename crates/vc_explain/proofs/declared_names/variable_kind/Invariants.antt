use Rattle.std.proofs.Common.{◌≡◌, drop, map}
use Rattle.serde_json.specs.View.{view}
use Rattle.vc_explain.specs.DeclaredNames.{variable_kind}
use Rattle.vc_explain.proofs.declared_names.variable_kind.Given as goal

abbrev pub invariant-loop-thing : goal.invariant-loop-thing
invariant-loop-thing l = variable_kind l.called (map view (drop l.thing-index l.variables)) ≡ variable_kind l.called (map view l.variables)

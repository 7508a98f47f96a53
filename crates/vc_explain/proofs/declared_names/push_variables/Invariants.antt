use Rattle.std.proofs.Common.{◌≡◌, ◌++◌, map, option_to_list, take}
use Rattle.std.specs.List.{flat_map}
use Rattle.serde_json.specs.View.{view}
use Rattle.vc_explain.specs.DeclaredNames.{variable_of}
use Rattle.vc_explain.proofs.declared_names.push_variables.Given as goal

abbrev pub invariant-loop-thing : goal.invariant-loop-thing
invariant-loop-thing l = l.names ≡ l.initial.names ++ flat_map (λ thing. option_to_list (variable_of thing)) (map view (take l.thing-index l.things))

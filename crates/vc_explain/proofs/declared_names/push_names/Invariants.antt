use Rattle.std.proofs.Common.{◌≡◌, ◌++◌, map, option_to_list, take}
use Rattle.std.specs.List.{flat_map}
use Rattle.serde_json.specs.View.{view}
use Rattle.vc_explain.specs.DeclaredNames.{name_of}
use Rattle.vc_explain.proofs.declared_names.push_names.Given as goal

abbrev pub invariant-loop-thing : goal.invariant-loop-thing
invariant-loop-thing l = l.names ≡ l.initial.names ++ flat_map (λ thing. option_to_list (name_of thing)) (map view (take l.thing-index l.things))

use Rattle.std.proofs.Common.{◌≡◌, ◌++◌, take}
use Rattle.std.specs.List.{flat_map}
use Rattle.vc_explain.specs.Offenders.{path_of}
use Rattle.vc_explain.specs.Place.{path_line}
use Rattle.vc_explain.proofs.explanation.push_offender_lines.Given as goal

abbrev pub invariant-loop-offender : goal.invariant-loop-offender
invariant-loop-offender l = l.out.items ≡ l.fn.out.items ++ flat_map (λ o. path_line l.text (path_of o)) (take l.offender-index l.offenders)

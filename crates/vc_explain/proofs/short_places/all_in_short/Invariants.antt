use Rattle.std.proofs.Common.{◌≡◌, ◌++◌}
use Rattle.std.specs.List.{flat_map}
use Rattle.vc_explain.specs.ShortPlaces.{in_short}
use Rattle.vc_explain.proofs.short_places.all_in_short.Given as goal

abbrev pub invariant-loop-offender : goal.invariant-loop-offender
invariant-loop-offender l = l.found.items ++ flat_map (in_short l.bare) l.offender-iterator.rest.items ≡ flat_map (in_short l.bare) l.fn.offenders.items

use Rattle.std.proofs.Common.{◌≡◌, drop}
use Rattle.vc_explain.specs.ShortPlaces.{entry_from}
use Rattle.vc_explain.proofs.short_places.entry_of.Given as goal

abbrev pub invariant-loop-k : goal.invariant-loop-k
invariant-loop-k l = entry_from l.k (drop l.k l.entries) l.left ≡ entry_from 0 l.entries l.n

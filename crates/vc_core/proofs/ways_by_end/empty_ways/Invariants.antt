use Rattle.std.proofs.Common.{◌≡◌, [], length}
use Rattle.std.specs.List.{AllByRecursion}
use Rattle.vc_core.proofs.ways_by_end.empty_ways.Given as goal

abbrev pub invariant-loop : goal.invariant-loop
invariant-loop l = record {
  count : length l.ways.items ≡ l.counter;
  empty : AllByRecursion (λ way. way ≡ []) l.ways.items;
}

use Rattle.std.proofs.Common.{ℕ, ◌+◌, ◌<◌}
use Rattle.vc_plan.specs.Private.Following.{AreSummaries}
use Rattle.vc_plan.specs.Private.Paths.{IsNever}
use Rattle.vc_plan.proofs.way_length.most_from.Given as goal

abbrev pub invariant-loop-left : goal.invariant-loop-left
invariant-loop-left l = record {
  known : AreSummaries l.net l.known.items;
  never : (n : ℕ) → 32 < n + l.left → n < 33 → IsNever l.net n 0 l.place;
}

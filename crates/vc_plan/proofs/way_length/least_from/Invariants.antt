use Rattle.std.proofs.Common.{ℕ, ◌<◌}
use Rattle.vc_plan.specs.Private.Following.{AreSummaries}
use Rattle.vc_plan.specs.Private.Paths.{IsNever}
use Rattle.vc_plan.proofs.way_length.least_from.Given as goal

abbrev pub invariant-loop-total : goal.invariant-loop-total
invariant-loop-total l = record {
  known : AreSummaries l.net l.known.items;
  never : (n : ℕ) → n < l.total → IsNever l.net n 0 l.place;
}

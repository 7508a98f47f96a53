use Rattle.std.proofs.Common.{ℕ, ◌<◌}
use Rattle.std.specs.List.{HoldsAt}
use Rattle.vc_threads.specs.Private.Rooms.{IsFree}
use Rattle.vc_threads.proofs.outs.find_out.Given as goal

abbrev pub invariant-loop-k : goal.invariant-loop-k
invariant-loop-k l = (j : ℕ) → j < l.k → HoldsAt (IsFree l.link) l.outs j → ⊥

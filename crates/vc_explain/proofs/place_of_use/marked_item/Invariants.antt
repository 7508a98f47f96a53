use Rattle.std.proofs.Common.{◌≡◌, ◌++◌, drop}
use Rattle.vc_explain.specs.Uses.{first_marked}
use Rattle.vc_explain.proofs.place_of_use.marked_item.Given as goal

abbrev pub invariant-loop-k : goal.invariant-loop-k
invariant-loop-k l = first_marked (l.at ++ l.list) l.k (drop l.k l.marks) ≡ first_marked (l.at ++ l.list) 0 l.marks

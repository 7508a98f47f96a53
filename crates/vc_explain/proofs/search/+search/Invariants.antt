use Rattle.std.proofs.Common.{◌+◌, ◌*◌}
use Rattle.vc_process.specs.InOrder.{number}
use Rattle.vc_process.specs.Private.InOrder.{number_branch, number_guard}
use Rattle.vc_explain.proofs.Locations.{in_branches, in_guards, in_parts}
use Rattle.vc_explain.proofs.Sought.{Sought}
use Rattle.vc_explain.proofs.search.+search.Given as goal

abbrev pub decreases-first_found : goal.decreases-first_found
decreases-first_found g l = 3 * goal.size-first_found g l

abbrev pub decreases-found_behind : goal.decreases-found_behind
decreases-found_behind g l = 3 * goal.size-found_behind g l + 1

abbrev pub decreases-found_in_parts : goal.decreases-found_in_parts
decreases-found_in_parts g l = 3 * goal.size-found_in_parts g l + 2

abbrev pub decreases-found_in_branches : goal.decreases-found_in_branches
decreases-found_in_branches g l = 3 * goal.size-found_in_branches g l + 2

abbrev pub decreases-found_in_guards : goal.decreases-found_in_guards
decreases-found_in_guards g l = 3 * goal.size-found_in_guards g l + 2

abbrev pub invariant-found_in_parts-loop-k : goal.invariant-found_in_parts-loop-k
invariant-found_in_parts-loop-k g l = Sought number (in_parts (g.S.Search.finds l.search) l.list l.at) l.part-items l.k

abbrev pub invariant-found_in_branches-loop-k : goal.invariant-found_in_branches-loop-k
invariant-found_in_branches-loop-k g l = Sought number_branch (in_branches (g.S.Search.finds l.search) l.at) l.branch-items l.k

abbrev pub invariant-found_in_guards-loop-k : goal.invariant-found_in_guards-loop-k
invariant-found_in_guards-loop-k g l = Sought number_guard (in_guards (g.S.Search.finds l.search) l.at) l.guard-items l.k

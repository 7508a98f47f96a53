use Rattle.std.proofs.Common.{◌≡◌, ◌++◌, [], drop, map}
use Rattle.std.specs.Prelude.{codes}
use Rattle.std.specs.List.{enumerate_from, flat_map}
use Rattle.vc_waits.specs.Private.Paths.{branch_paths, guard_paths}
use Rattle.vc_waits.specs.Paths.{each_at, paths}
use Rattle.vc_waits.proofs.paths.+paths.Given as goal

abbrev pub invariant-push_parts-loop-k : goal.invariant-push_parts-loop-k
invariant-push_parts-loop-k l =
    l.found ++ flat_map (each_at (l.at ++ l.step) []) (enumerate_from l.k (map paths (drop l.k l.parts))) ≡ l.fn.found ++ flat_map (each_at (l.at ++ l.step) []) (enumerate_from 0 (map paths l.parts))

abbrev pub invariant-push_branches-loop-k : goal.invariant-push_branches-loop-k
invariant-push_branches-loop-k l =
    l.found ++ flat_map (each_at (l.at ++ codes "/if/") (codes "/1")) (enumerate_from l.k (map branch_paths (drop l.k l.branch-items))) ≡ l.fn.found ++ flat_map (each_at (l.at ++ codes "/if/") (codes "/1")) (enumerate_from 0 (map branch_paths l.branches))

abbrev pub invariant-push_guards-loop-k : goal.invariant-push_guards-loop-k
invariant-push_guards-loop-k l =
    l.found ++ flat_map (each_at (l.at ++ codes "/alt/") (codes "/3")) (enumerate_from l.k (map guard_paths (drop l.k l.guard-items))) ≡ l.fn.found ++ flat_map (each_at (l.at ++ codes "/alt/") (codes "/3")) (enumerate_from 0 (map guard_paths l.guards))

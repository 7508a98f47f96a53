use Rattle.std.proofs.Common.{◌≡◌, ◌++◌, drop, map}
use Rattle.std.specs.List.{enumerate_from}
use Rattle.vc_waits.specs.Paths.{paths}
use Rattle.vc_waits.specs.Waits.{process_path}
use Rattle.vc_explore_text.proofs.lines.node_paths.Given as goal

abbrev pub invariant-loop-n : goal.invariant-loop-n
invariant-loop-n l =
    l.all.items ++ map (λ n. paths n.1.process (process_path n.0)) (enumerate_from l.n (drop l.n l.plan.nodes)) ≡ map (λ n. paths n.1.process (process_path n.0)) (enumerate_from 0 l.plan.nodes)

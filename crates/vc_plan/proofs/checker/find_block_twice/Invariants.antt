use Rattle.std.proofs.Common.{◌≡◌, drop, []}
use Rattle.vc_plan.specs.Check.{repeated, same_block, blocks}
use Rattle.vc_plan.proofs.checker.find_block_twice.Given as goal

abbrev pub invariant-loop-vlink : goal.invariant-loop-vlink
invariant-loop-vlink l =
    repeated same_block l.seen.items (blocks (drop l.vlink-index l.vlinks))
    ≡ repeated same_block [] (blocks l.vlinks)

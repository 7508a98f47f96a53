use Rattle.std.proofs.Common.{◌≡◌, ◌++◌, map, take}
use Rattle.vc_process.specs.Private.Usages.{by_part}
use Rattle.vc_process.proofs.conflicts.push_part.Given as goal

abbrev pub invariant-loop-usage : goal.invariant-loop-usage
invariant-loop-usage l = l.uses.items ≡ l.initial.uses.items ++ map (by_part l.part) (take l.usage-index l.own)

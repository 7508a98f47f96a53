use Rattle.std.proofs.Common.{◌≡◌, ◌≤◌, ◌+◌, ◌-◌, ◌^◌, min, length}
use Rattle.std.specs.List.{sum_by}
use Rattle.vc_blocks.specs.Messages.{listed, listed_left}
use Rattle.vc_stats.specs.Fields.{bytes_of}
use Rattle.vc_stats.proofs.fields.bytes_of.Given as goal

abbrev pub invariant-loop-message : goal.invariant-loop-message
invariant-loop-message l = (l.bytes ≤ 2 ^ 64 - 1) × (min (l.bytes + sum_by length (listed_left l.message-iterator)) (2 ^ 64 - 1) ≡ bytes_of (listed l.fn.messages))

use Rattle.std.proofs.Common.{◌≡◌, length, take}
use Rattle.std.specs.List.{AllZip}
use Rattle.vc_plan.specs.Private.Following.{AreSummaries}
use Rattle.vc_plan.specs.WayLengths.{IsVlinkLength}
use Rattle.vc_plan.proofs.vlink_length.vlink_lengths.Given as goal

abbrev pub invariant-loop-vlink : goal.invariant-loop-vlink
invariant-loop-vlink l = record {
  known : AreSummaries l.accepted l.known.items;
  count : length l.lengths.items ≡ l.vlink-index;
  lengths : AllZip (IsVlinkLength l.accepted) (take l.vlink-index l.accepted.vlinks) l.lengths.items;
}

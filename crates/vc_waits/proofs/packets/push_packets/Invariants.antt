use Rattle.std.proofs.Common.{◌≡◌, ◌++◌, drop}
use Rattle.std.specs.List.{enumerate_from, flat_map}
use Rattle.vc_waits.specs.Packets.{packet_line}
use Rattle.vc_waits.proofs.packets.push_packets.Given as goal

abbrev pub invariant-loop-chan : goal.invariant-loop-chan
invariant-loop-chan l =
    l.out.items ++ flat_map (packet_line l.plan) (enumerate_from l.chan (drop l.chan l.places)) ≡ l.fn.out.items ++ flat_map (packet_line l.plan) (enumerate_from 0 l.places)

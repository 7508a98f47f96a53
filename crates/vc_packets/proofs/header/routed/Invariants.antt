use Rattle.std.proofs.Common.{◌≡◌, take}
use Rattle.vc_packets.specs.Headers.{spelled}
use Rattle.vc_packets.proofs.header.routed.Given as goal

abbrev pub invariant-loop-header : goal.invariant-loop-header
invariant-loop-header l = l.body ≡ spelled (take l.header-index l.route)

use Rattle.std.proofs.Common.{◌<◌}
use Rattle.std.specs.List.{All, AllZip}
use Rattle.vc_threads.specs.Wires.{OutLooked}
use Rattle.vc_threads.specs.Private.Rooms.{HaveRoom}
use Rattle.vc_threads.proofs.outs.room_of.Given as goal

abbrev pub invariant-loop-k : goal.invariant-loop-k
invariant-loop-k l = record {
  low : All (λ o. o.0 < 32) l.outs;
  looked : AllZip OutLooked l.fn.outs l.outs;
  room : HaveRoom l.room l.outs;
}

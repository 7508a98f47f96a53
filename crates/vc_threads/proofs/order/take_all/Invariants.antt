use Rattle.std.proofs.Common.{◌≡◌, ◌*◌, length}
use Rattle.vc_threads.specs.Private.Order.{EndsTaken, LeftOn}
use Rattle.vc_threads.specs.Order.{OnWays}
use Rattle.vc_threads.specs.Rings.{IsOnWire}
use Rattle.vc_threads.proofs.order.take_all.Given as goal

abbrev pub invariant-loop-wire : goal.invariant-loop-wire
invariant-loop-wire l = record {
  taken : EndsTaken (IsOnWire l.fn.plan l.wire-index) l.fn.ends l.ends;
  count : length l.left.items ≡ 2 * l.wire-index;
  left : OnWays (LeftOn (length l.fn.plan.nodes) l.fn.ends l.left.items) l.fn.plan.wires l.wire-index;
}

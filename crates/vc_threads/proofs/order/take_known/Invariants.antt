use Rattle.std.proofs.Common.{◌≡◌, ◌+◌, ◌++◌, length, map}
use Rattle.rtrb.specs.Ring.{known_items, SameConsumer}
use Rattle.vc_threads.specs.Stamps.{item_of}
use Rattle.vc_threads.proofs.order.take_known.Given as goal

abbrev pub invariant-loop : goal.invariant-loop
invariant-loop l = record {
  ring : SameConsumer l.fn.consumer l.consumer;
  count : l.counter + length (known_items l.consumer) ≡ length (known_items l.fn.consumer);
  tokens : l.tokens.items ++ map item_of (known_items l.consumer) ≡ map item_of (known_items l.fn.consumer);
}

use Rattle.std.proofs.Common.{◌≡◌, ◌++◌, map}
use Rattle.vc_threads.specs.Private.Order.{actor_left, outs_left, ins_left, log_left}
use Rattle.vc_threads.proofs.order.all_parts.Given as goal

abbrev pub invariant-loop-run : goal.invariant-loop-run
invariant-loop-run g l = record {
  actors : l.actors.items ++ map actor_left l.run-iterator.rest.items ≡ map actor_left l.fn.runs.items;
  outs : map (λ v. v.items) l.outs.items ++ map outs_left l.run-iterator.rest.items ≡ map outs_left l.fn.runs.items;
  ins : map (λ v. v.items) l.ins.items ++ map ins_left l.run-iterator.rest.items ≡ map ins_left l.fn.runs.items;
  logs : l.logs.items ++ map log_left l.run-iterator.rest.items ≡ map log_left l.fn.runs.items;
}

use Rattle.std.proofs.Common.{◌≡◌, ◌+◌, ◌≤◌, ◌++◌, length, map}
use Rattle.std.specs.List.{All, AllByRecursion}
use Rattle.vc_threads.specs.Private.Jobs.{IsFit}
use Rattle.vc_threads.specs.Private.Rings.{AreBare}
use Rattle.vc_threads.specs.Private.Threads.{AreNumbered, actor_in, who}
use Rattle.vc_threads.specs.Private.Works.{IsOfSomePlan}
use Rattle.vc_threads.proofs.jobs.jobs_of.Given as goal

abbrev pub invariant-loop-actor : goal.invariant-loop-actor
invariant-loop-actor l = record {
  rest : AllByRecursion IsOfSomePlan l.actor-iterator.rest.items;
  few : length l.jobs.items + length l.actor-iterator.rest.items ≤ 64;
  fit : All IsFit l.jobs.items;
  numbered : AreNumbered 0 (map who l.jobs.items);
  all : map actor_in l.jobs.items ++ l.actor-iterator.rest.items ≡ l.fn.actors.items;
  bare : AreBare l.jobs.items;
}

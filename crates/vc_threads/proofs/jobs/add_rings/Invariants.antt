use Rattle.std.proofs.Common.{◌≡◌, map}
use Rattle.std.specs.List.{All}
use Rattle.vc_threads.specs.Private.Jobs.{IsFit}
use Rattle.vc_threads.specs.Private.Rings.{AreWired}
use Rattle.vc_threads.specs.Private.Threads.{who}
use Rattle.vc_threads.proofs.jobs.add_rings.Given as goal

abbrev pub invariant-loop-wire : goal.invariant-loop-wire
invariant-loop-wire l = record {
  fit : All IsFit l.jobs.items;
  same : map who l.jobs.items ≡ map who l.fn.jobs.items;
  wired : AreWired l.fn.plan l.wire-index l.jobs.items;
}

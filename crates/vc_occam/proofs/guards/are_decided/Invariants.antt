use Rattle.std.proofs.Common.{◌≡◌, drop, map}
use Rattle.vc_occam.specs.First.{all_decided}
use Rattle.vc_occam.specs.Frames.{guards_of}
use Rattle.vc_occam.specs.Private.Frames.{seen_guard}
use Rattle.vc_process.specs.Terms.{store}
use Rattle.vc_occam.proofs.guards.are_decided.Given as goal

abbrev pub invariant-loop-guard : goal.invariant-loop-guard
invariant-loop-guard l =
    all_decided (guards_of (map seen_guard (drop l.guard-index l.guards))) (store l.vars) ≡ all_decided (guards_of (map seen_guard l.guards)) (store l.vars)

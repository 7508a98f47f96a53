use Rattle.std.proofs.Common.{◌≡◌, ◌++◌, drop, map}
use Rattle.vc_occam.specs.First.{choices}
use Rattle.vc_occam.specs.Frames.{guards_of}
use Rattle.vc_occam.specs.Private.Frames.{seen_guard}
use Rattle.vc_process.specs.Terms.{store}
use Rattle.vc_occam.proofs.guards.push_choices.Given as goal

abbrev pub invariant-loop-place : goal.invariant-loop-place
invariant-loop-place l =
    l.found ++ choices l.site l.place (guards_of (map seen_guard (drop l.place l.guards))) (store l.vars) ≡ l.initial.found ++ choices l.site 0 (guards_of (map seen_guard l.guards)) (store l.vars)

use Rattle.std.proofs.Common.{◌≡◌, ◌++◌, drop, map}
use Rattle.vc_occam.specs.BlockedParts.{open_guards}
use Rattle.vc_occam.specs.Frames.{guards_of}
use Rattle.vc_occam.specs.Private.Frames.{seen_guard}
use Rattle.vc_process.specs.Terms.{store}
use Rattle.vc_occam.proofs.blocked_parts.push_open.Given as goal

abbrev pub invariant-loop-guard : goal.invariant-loop-guard
invariant-loop-guard l =
    l.found ++ open_guards l.site (guards_of (map seen_guard (drop l.guard-index l.guards))) (store l.vars) ≡ l.initial.found ++ open_guards l.site (guards_of (map seen_guard l.guards)) (store l.vars)

use Rattle.std.proofs.Common.{◌≡◌, ◌≤◌, ◌++◌, drop, length, take}
use Rattle.vc_occam.specs.First.{joined}
use Rattle.vc_process.specs.Usage.{among}
use Rattle.vc_occam.proofs.meetings.push_each_joined.Given as goal

abbrev pub invariant-loop-place : goal.invariant-loop-place
invariant-loop-place l =
    let own = take l.count l.initial.found in
    (l.found ++ joined (among l.inside) own (drop l.place own) ≡ l.initial.found ++ joined (among l.inside) own own) × (take l.count l.found ≡ own) × (l.count ≤ length l.found)

use Rattle.std.proofs.Common.{◌≡◌, [], length}
use Rattle.vc_explain.specs.declared.quoting.Quoting.TheVariants.{Outside}
use Rattle.vc_explain.specs.Parts.{last_named, parts, parts_after, inside}
use Rattle.vc_explain.proofs.parts.member.Given as goal

abbrev pub invariant-loop-next : goal.invariant-loop-next
invariant-loop-next l =
    last_named l.name l.found (parts_after Outside 0 l.part) ≡ last_named l.name [] (parts (inside l.text))

abbrev pub decreases-loop-next : goal.decreases-loop-next
decreases-loop-next l = length l.part

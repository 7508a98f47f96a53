use Rattle.std.proofs.Common.{◌≡◌, length}
use Rattle.vc_explain.specs.Parts.{spells}
use Rattle.vc_explain.proofs.parts.spells.Given as goal

abbrev pub invariant-loop-byte : goal.invariant-loop-byte
invariant-loop-byte l = spells l.left l.rest ≡ spells l.name l.text

abbrev pub decreases-loop-byte : goal.decreases-loop-byte
decreases-loop-byte l = length l.left

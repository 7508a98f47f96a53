use Rattle.std.proofs.Common.{◌≡◌, length}
use Rattle.vc_explain.specs.Parts.{past_blanks}
use Rattle.vc_explain.proofs.parts.past_blanks.Given as goal

abbrev pub invariant-loop-byte : goal.invariant-loop-byte
invariant-loop-byte l = past_blanks l.rest ≡ past_blanks l.text

abbrev pub decreases-loop-byte : goal.decreases-loop-byte
decreases-loop-byte l = length l.rest

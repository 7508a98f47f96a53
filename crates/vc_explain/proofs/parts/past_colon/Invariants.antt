use Rattle.std.proofs.Common.{◌≡◌, length}
use Rattle.vc_explain.specs.declared.quoting.Quoting.TheVariants.{Outside}
use Rattle.vc_explain.specs.Parts.{past_colon}
use Rattle.vc_explain.proofs.parts.past_colon.Given as goal

abbrev pub invariant-loop-byte : goal.invariant-loop-byte
invariant-loop-byte l = past_colon l.quoting l.rest ≡ past_colon Outside l.text

abbrev pub decreases-loop-byte : goal.decreases-loop-byte
decreases-loop-byte l = length l.rest

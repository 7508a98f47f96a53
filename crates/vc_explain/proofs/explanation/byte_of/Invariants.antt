use Rattle.std.proofs.Common.{◌≤◌, length}
use Rattle.vc_explain.proofs.explanation.byte_of.Given as goal

abbrev pub decreases-loop-byte : goal.decreases-loop-byte
decreases-loop-byte l = length l.rest

abbrev pub invariant-loop-byte : goal.invariant-loop-byte
invariant-loop-byte l = length l.rest ≤ length l.text

use Rattle.std.proofs.Common.{◌≡◌, ◌+◌, ◌≤◌, length}
use Rattle.vc_explain.specs.declared.quoting.Quoting.TheVariants.{Outside}
use Rattle.vc_explain.specs.Parts.{parts_after}
use Rattle.vc_explain.proofs.parts.next_part.Given as goal

abbrev pub invariant-loop-byte : goal.invariant-loop-byte
invariant-loop-byte l = record {
  parts : parts_after l.quoting l.depth l.rest ≡ parts_after Outside 0 l.text;
  within : l.depth + length l.rest ≤ length l.text;
}

abbrev pub decreases-loop-byte : goal.decreases-loop-byte
decreases-loop-byte l = length l.rest

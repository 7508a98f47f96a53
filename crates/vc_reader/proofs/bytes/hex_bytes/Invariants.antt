use Rattle.std.proofs.Common.{◌≡◌, length}
use Rattle.vc_reader.specs.Bytes.{hex_bytes}
use Rattle.vc_reader.proofs.Parts.{with_front}
use Rattle.vc_reader.proofs.bytes.hex_bytes.Given as goal

abbrev pub invariant-loop-a : goal.invariant-loop-a
invariant-loop-a l = with_front l.bytes (hex_bytes l.rest) ≡ hex_bytes l.text

abbrev pub decreases-loop-a : goal.decreases-loop-a
decreases-loop-a l = length l.rest

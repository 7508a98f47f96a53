use Rattle.std.proofs.Common.{◌≡◌, ◌++◌, ℕ, List, length}
use Rattle.hex.specs.Hex.{encode_lower}
use Rattle.vc_text.specs.Pieces.{Passes}
use Rattle.vc_text.proofs.digits.put_digits.Given as goal

abbrev pub invariant-loop-rest : goal.invariant-loop-rest
invariant-loop-rest g l =
    (done : List ℕ) × Passes (g.W.Write.contents l.fn.writer) l.fn.piece.items (g.W.Write.contents l.writer) l.piece.items done × (done ++ encode_lower l.rest ≡ encode_lower l.fn.bytes)

abbrev pub decreases-loop-rest : goal.decreases-loop-rest
decreases-loop-rest g l = length l.rest

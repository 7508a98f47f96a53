use Rattle.std.proofs.Common.{◌≡◌, ◌++◌, ℕ, List, drop}
use Rattle.vc_blocks.specs.Messages.{listed}
use Rattle.vc_text.specs.Pieces.{Passes}
use Rattle.vc_text.specs.Traffic.{message_lines}
use Rattle.vc_text.proofs.traffic.put_messages.Given as goal

abbrev pub invariant-loop-n : goal.invariant-loop-n
invariant-loop-n g l =
    (done : List ℕ) × Passes (g.W.Write.contents l.fn.writer) l.fn.piece.items (g.W.Write.contents l.writer) l.piece.items done
    × (done ++ message_lines l.kind l.n (drop l.n (listed l.messages)) ≡ message_lines l.kind 0 (listed l.messages))

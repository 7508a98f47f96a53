use Rattle.std.proofs.Common.{◌≡◌, ◌++◌, ℕ, List, drop}
use Rattle.std.specs.List.{enumerate_from, flat_map}
use Rattle.vc_blocks.specs.Messages.{listed}
use Rattle.vc_text.specs.Pieces.{Passes}
use Rattle.vc_stats.specs.Json.{message_json}
use Rattle.vc_stats.proofs.traffic_json.put_messages.Given as goal

abbrev pub invariant-loop-n : goal.invariant-loop-n
invariant-loop-n g l =
    (done : List ℕ) × Passes (g.W.Write.contents l.fn.writer) l.fn.piece.items (g.W.Write.contents l.writer) l.piece.items done
    × (done ++ flat_map (message_json l.kind) (enumerate_from l.n (drop l.n (listed l.messages))) ≡ flat_map (message_json l.kind) (enumerate_from 0 (listed l.messages)))

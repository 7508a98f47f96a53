use Rattle.std.proofs.Common.{◌≡◌, ◌++◌, ℕ, List, drop, map}
use Rattle.std.specs.List.{enumerate_from, flat_map}
use Rattle.vc_text.specs.Pieces.{Passes}
use Rattle.vc_text.specs.Views.{shown}
use Rattle.vc_stats.specs.Json.{channel_json}
use Rattle.vc_stats.proofs.traffic_json.put_channels.Given as goal

abbrev pub invariant-loop-n : goal.invariant-loop-n
invariant-loop-n g l =
    (done : List ℕ) × Passes (g.W.Write.contents l.fn.writer) l.fn.piece.items (g.W.Write.contents l.writer) l.piece.items done
    × (done ++ flat_map channel_json (enumerate_from l.n (map shown (drop l.n l.views))) ≡ flat_map channel_json (enumerate_from 0 (map shown l.views)))

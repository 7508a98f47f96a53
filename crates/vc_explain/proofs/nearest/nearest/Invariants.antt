use Rattle.std.proofs.Common.{◌≡◌, drop, option_map, None}
use Rattle.vc_explain.specs.Nearest.{nearest_from}
use Rattle.vc_explain.proofs.nearest.nearest.Given as goal

abbrev pub invariant-loop-name : goal.invariant-loop-name
invariant-loop-name l = nearest_from l.text (option_map (λ n. n.now) l.near) (drop l.name-index l.names) ≡ nearest_from l.text None l.names

use Rattle.std.proofs.Common.{◌≡◌, length}
use Rattle.vc_cycles.specs.Private.Round.{LooksAt}
use Rattle.vc_cycles.proofs.round.Round.look.Given as goal

abbrev pub invariant-loop-port : goal.invariant-loop-port
invariant-loop-port l = record {
  many : length l.self.seen.items ≡ 1024;
  looking : LooksAt l.row l.at l.port-index l.initial.self l.self;
}

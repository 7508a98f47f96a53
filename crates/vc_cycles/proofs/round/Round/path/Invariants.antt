use Rattle.std.proofs.Common.{◌≡◌, ◌<◌, ◌++◌, length}
use Rattle.vc_cycles.specs.Private.Round.{way}
use Rattle.vc_cycles.proofs.round.Round.path.Given as goal

abbrev pub invariant-loop-at : goal.invariant-loop-at
invariant-loop-at l = record {
  within : l.at < length l.self.found.items;
  way : way l.self.found.items (length l.self.found.items) l.at ++ l.ports.items
      ≡ way l.self.found.items (length l.self.found.items) l.last;
}

abbrev pub decreases-loop-at : goal.decreases-loop-at
decreases-loop-at l = l.at

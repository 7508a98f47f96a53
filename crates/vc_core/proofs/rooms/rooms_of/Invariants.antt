use Rattle.std.specs.Prelude.{◌≡◌, ◌↔◌, ◌<◌, ℕ, length, get_or}
use Rattle.std.specs.Int.{bit_at}
use Rattle.vc_core.specs.Wiring.{IsWired}
use Rattle.vc_core.proofs.rooms.rooms_of.Given as goal

abbrev pub invariant-loop-actor : goal.invariant-loop-actor
invariant-loop-actor l = record {
  count : length l.rooms ≡ 256;
  told : (actor link : ℕ) → actor < l.actor → link < 32 → (bit_at (get_or l.rooms actor 0) link ≡ 1) ↔ IsWired l.out actor link;
}

use Rattle.std.specs.Prelude.{◌≡◌, ◌↔◌, ◌<◌, ◌≤◌, ℕ}
use Rattle.std.specs.Int.{bit_at}
use Rattle.vc_core.specs.Wiring.{IsWired}
use Rattle.vc_core.proofs.rooms.room_of.Given as goal

abbrev pub invariant-loop-link : goal.invariant-loop-link
invariant-loop-link l = record {
  told : (j : ℕ) → j < l.link → (bit_at l.room j ≡ 1) ↔ IsWired l.out l.actor j;
  rest : (j : ℕ) → l.link ≤ j → bit_at l.room j ≡ 0;
}

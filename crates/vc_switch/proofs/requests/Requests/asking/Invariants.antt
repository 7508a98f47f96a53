use Rattle.std.specs.Prelude.{◌≡◌, ◌↔◌, ℕ, ◌<◌, get_or}
use Rattle.std.specs.Int.{bit_at}
use Rattle.vc_switch.specs.Private.Requests.{HasMore}
use Rattle.vc_switch.proofs.requests.Requests.asking.Given as goal

abbrev pub invariant-loop : goal.invariant-loop
invariant-loop l = record {
  gone : (j : ℕ) → j < l.counter → bit_at l.left j ≡ 0;
  told : (j : ℕ) → j < 32 → bit_at l.left j ≡ 0 → (bit_at l.routes j ≡ 1) ↔ HasMore (get_or l.fn.self j 0) l.fn.busy;
}

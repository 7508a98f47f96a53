use Rattle.std.specs.Prelude.{◌≡◌, ℕ, ◌<◌}
use Rattle.std.specs.Int.{bit_at}
use Rattle.vc_actor.specs.Acts.{SwitchMay}
use Rattle.vc_actor.specs.declared.act.Act.TheVariants.{Put}
use Rattle.vc_actor.proofs.switch_actor.SwitchActor.next_put.Given as goal

abbrev pub invariant-loop : goal.invariant-loop
invariant-loop l = record {
  gone : (j : ℕ) → j < l.counter → bit_at l.left j ≡ 0;
  tried : (j : ℕ) → SwitchMay l.fn.self.switch (Put j) → bit_at l.fn.room j ≡ 1 → bit_at l.left j ≡ 1;
  room : (j : ℕ) → j < 32 → bit_at l.left j ≡ 1 → bit_at l.fn.room j ≡ 1;
}

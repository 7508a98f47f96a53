use Rattle.std.proofs.Common.{◌≡◌, ◌<◌, ◌+◌, ◌*◌, ◌-◌, ◌%◌, ◌^◌, ℕ, sym, ap, ◌∙◌, arith}
use Rattle.std.proofs.Math.Nat.{mul_assoc}
use Rattle.std.proofs.lemmas.Nat.{mul-mod_first, pow-add}
use Rattle.std.proofs.lemmas.Nat.Bits.{ones_shl}
use Rattle.vc_text.proofs.masks.after.Goals as goal

-- a mask of all that is moved, and moved by one more
moved_on : (actor : ℕ) → actor < 64 → ((2 ^ 64 - 1) * 2 ^ actor % 2 ^ 64) * 2 ^ 1 % 2 ^ 64 ≡ 2 ^ 64 - 2 ^ (actor + 1)
moved_on actor low =
    mul-mod_first ((2 ^ 64 - 1) * 2 ^ actor) (2 ^ 1) (2 ^ 64)
    ∙ ap (λ z. z % 2 ^ 64) (mul_assoc (2 ^ 64 - 1) (2 ^ actor) (2 ^ 1) ∙ ap (λ z. (2 ^ 64 - 1) * z) (sym (pow-add 2 actor 1)))
    ∙ ones_shl 64 (actor + 1) (omega arith)

pub returns : goal.returns
returns c = moved_on c.args.actor c.requires

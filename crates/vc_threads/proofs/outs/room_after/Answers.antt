use Rattle.std.proofs.Common.{◌≡◌, ℕ, ◌-◌, ◌*◌, ◌^◌, ◌%◌, bit_and, arith, subst, w32}
use Rattle.std.specs.Int.{bit_at}
use Rattle.std.proofs.lemmas.Nat.Bits.{bit_at_and, bit_at-lt, bit_at_clear_same}
use Rattle.vc_threads.proofs.outs.room_after.Goals as goal

-- a bit of both masks is one of the first
of_both : (a b n : ℕ) → bit_at (bit_and a b) n ≡ 1 → bit_at a n ≡ 1
of_both a b n one = omega (arith, bit_at_and a b n, bit_at-lt a n, one)

pub returns-then-free-gt0 : goal.returns-then-free-gt0
returns-then-free-gt0 c = λ other one. (one, λ same. c.if-free-gt0.true)

pub returns-else-free-gt0 : goal.returns-else-free-gt0
returns-else-free-gt0 c =
    let mask = 4294967295 - 1 * 2 ^ c.args.link % 4294967296 in
    let none = bit_at_clear_same w32 c.args.room c.args.link c.requires in
    λ other one. (
      of_both c.args.room mask other one,
      λ same. let here = subst (λ n. bit_at (bit_and c.args.room mask) n ≡ 1) same one in absurd (omega (arith, none, here)),
    )

-- The message of a value has all that the value has: read again as its kind, it is the same message. A number that is read has 64 bits.
use Rattle.std.proofs.Common.{◌≡◌, ℕ, zero, suc, ◌<◌, ◌-◌, ◌^◌, ℤ, pos, negsuc, Bool, true, false, List, Some, None, if◌then◌else◌, nat_lt, get_or, refl, ap, ◌∙◌, arith}
use Rattle.std.proofs.lemmas.Bool.{lt-ltb}
use Rattle.std.proofs.lemmas.Bool.Decides.{nat_tests}
use Rattle.std.specs.Int.{cast_signed, w64, to_le_bytes, from_le_bytes, cast_unsigned}
use lib.Signed.{mag}
use mir.Val.{sel}
use Rattle.vc_process.specs.Values.{within}
use Rattle.std.proofs.lemmas.Int.{of_z-to_z}
use Rattle.std.proofs.lemmas.Nat.{le_bytes_8}
use Rattle.vc_process.specs.Messages.{number_bytes, number_of}

bytes_small : (n i : ℕ) → get_or (to_le_bytes w64 n) i 0 < 256
bytes_small n zero = omega arith
bytes_small n (suc zero) = omega arith
bytes_small n (suc (suc zero)) = omega arith
bytes_small n (suc (suc (suc zero))) = omega arith
bytes_small n (suc (suc (suc (suc zero)))) = omega arith
bytes_small n (suc (suc (suc (suc (suc zero))))) = omega arith
bytes_small n (suc (suc (suc (suc (suc (suc zero)))))) = omega arith
bytes_small n (suc (suc (suc (suc (suc (suc (suc zero))))))) = omega arith
bytes_small n (suc (suc (suc (suc (suc (suc (suc (suc i)))))))) = omega arith

read_small : (n : ℕ) → from_le_bytes w64 (to_le_bytes w64 n) < 2 ^ 64
read_small n = omega arith

pub number_again : (z : ℤ) → number_bytes (number_of (number_bytes z)) ≡ number_bytes z
unfolding number_bytes number_of
number_again z =
    let n = cast_unsigned w64 z in
    let m = from_le_bytes w64 (to_le_bytes w64 n) in
    ap (to_le_bytes w64) (of_z-to_z w64 m (read_small n)) ∙ le_bytes_8 (to_le_bytes w64 n) m refl (bytes_small n) refl

small_by : (n : ℕ) (b : Bool) → nat_lt n (2 ^ 63) ≡ b → nat_lt (mag (sel b (pos n) (negsuc (2 ^ 64 - suc n)))) (2 ^ 63) ≡ true
small_by n true h = h
small_by n false h = let l : 2 ^ 64 - suc n < 2 ^ 63 = grind (arith, nat_tests, h) in lt-ltb (2 ^ 64 - suc n) (2 ^ 63) l

small : (n : ℕ) → nat_lt (mag (cast_signed w64 n)) (2 ^ 63) ≡ true
small n = small_by n (nat_lt n (2 ^ 63)) refl

pub number_within : (m : List ℕ) → within (number_of m) ≡ Some (number_of m)
unfolding number_of
number_within m = ap (λ (b : Bool). if b then Some (number_of m) else None) (small (from_le_bytes w64 m))

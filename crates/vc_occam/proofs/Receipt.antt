-- A value that fits a variable of its kind is received as it was sent.
use Rattle.std.proofs.Common.{◌≡◌, ◌<◌, ◌^◌, ℤ, pos, negsuc, Bool, true, false, Some, None, if◌then◌else◌, nat_lt, refl, ap, ◌∙◌, arith}
use Rattle.std.proofs.lemmas.Bool.Decides.{nat_tests}
use Rattle.std.proofs.lemmas.Int.{to_z-of_z}
use Rattle.std.proofs.lemmas.Nat.{from_le_bytes-to_le_bytes_8}
use Rattle.std.specs.Int.{cast_signed, cast_unsigned, w64}
use lib.Signed.{mag}
use Rattle.vc_process.specs.Messages.{message, received, number_bytes, number_of}
use Rattle.vc_process.specs.Values.{within}
use Rattle.vc_process.specs.declared.datum.Datum.{Datum}
use Rattle.vc_process.specs.declared.datum.Datum.TheVariants as datum
use Rattle.vc_occam.specs.Traces.{SameKind}

magnitude_by : (z : ℤ) (b : Bool) → nat_lt (mag z) (2 ^ 63) ≡ b → (if b then Some z else None) ≡ Some z → nat_lt (mag z) (2 ^ 63) ≡ true
magnitude_by z true h w = h
magnitude_by z false h w = absurd cc

magnitude : (z : ℤ) → within z ≡ Some z → nat_lt (mag z) (2 ^ 63) ≡ true
magnitude z h = magnitude_by z (nat_lt (mag z) (2 ^ 63)) refl h

word : (z : ℤ) → mag z < 2 ^ 63 → cast_unsigned w64 z < 2 ^ 64
word (pos n) h = omega arith
word (negsuc n) h = omega arith

read_back : (z : ℤ) → mag z < 2 ^ 63 → number_of (number_bytes z) ≡ z
unfolding number_bytes number_of
read_back z m = ap (cast_signed w64) (from_le_bytes-to_le_bytes_8 (cast_unsigned w64 z) (word z m)) ∙ to_z-of_z w64 z (record { sfits = m })

number_kept : (z : ℤ) → within z ≡ Some z → number_of (number_bytes z) ≡ z
number_kept z h = read_back z (let b = magnitude z h in grind (arith, nat_tests))

-- a variable that holds a number receives the message of another as that number
pub number_received : (d : Datum) (w z : ℤ) → d ≡ datum.Int w → mag z < 2 ^ 63 → received d (number_bytes z) ≡ datum.Int z
number_received d w z h m = ap (λ (x : Datum). received x (number_bytes z)) h ∙ ap datum.Int (read_back z m)

pub received_sent : (x d : Datum) → SameKind x d → received d (message x) ≡ x
received_sent (datum.Int z) (datum.Int w) h = ap datum.Int (number_kept z h)
received_sent (datum.Bytes xs) (datum.Bytes ys) h = refl
received_sent (datum.Int z) (datum.Bytes ys) h = absurd h
received_sent (datum.Bytes xs) (datum.Int w) h = absurd h

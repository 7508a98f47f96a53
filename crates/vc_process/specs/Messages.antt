-- Messages: an int travels as 8 bytes, low byte first, and bytes travel as they are (profile).
use Rattle.std.specs.Prelude.{ℕ, ℤ, List}
use Rattle.std.specs.Int.{w64, to_le_bytes, from_le_bytes, cast_signed, cast_unsigned}
use Rattle.vc_process.specs.declared.datum.Datum.{Datum}
use Rattle.vc_process.specs.declared.datum.Datum.TheVariants as datum

-- the 8 bytes of a number
unfoldable pub number_bytes : ℤ → List ℕ
number_bytes z = to_le_bytes w64 (cast_unsigned w64 z)

-- the number of the first 8 bytes, missing ones being 0
unfoldable pub number_of : List ℕ → ℤ
number_of m = cast_signed w64 (from_le_bytes w64 m)

-- the message that carries a value
abbrev pub message : Datum → List ℕ
message (datum.Int z) = number_bytes z
message (datum.Bytes xs) = xs

-- what a message is worth for a variable of this kind
abbrev pub received : Datum → List ℕ → Datum
received (datum.Int z) m = datum.Int (number_of m)
received (datum.Bytes xs) m = datum.Bytes m

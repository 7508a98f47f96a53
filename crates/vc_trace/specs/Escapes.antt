-- A line from elsewhere, as it is printed.
use Rattle.std.specs.Prelude.{ℕ, ◌==◌, ◌&&◌, ◌||◌, nat_le, nat_lt, not, Bool, if◌then◌else◌, List, [], ◌∷◌, ◌++◌, codes}
use Rattle.std.specs.List.{flat_map}
use Rattle.hex.specs.Hex.{encode_lower}

-- a newline, or a printable character of ASCII that is no backslash
abbrev pub is_plain : ℕ → Bool
is_plain byte = (byte == 10) || (nat_le 32 byte && nat_lt byte 127 && not (byte == 92))

-- such a byte is printed as it is, and any other as \x and two digits
abbrev pub escaped_byte : ℕ → List ℕ
escaped_byte byte = if is_plain byte then byte ∷ [] else codes "\\x" ++ encode_lower (byte ∷ [])

abbrev pub escaped : List ℕ → List ℕ
escaped = flat_map escaped_byte

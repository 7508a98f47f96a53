-- What an expression of bytes means, and what a text that names a variable does.
use Rattle.std.specs.Prelude.{ℕ, ◌+◌, ◌-◌, ◌*◌, min, List, [], ◌∷◌, length, nat_le, ◌&&◌, if◌then◌else◌, codes, Result, Ok}
use Rattle.std.specs.Str.{bytes_eq}
use Rattle.serde_json.specs.Data.{Data, string}
use Rattle.vc_process.specs.declared.value_kind.ValueKind.{ValueKind}
use Rattle.vc_process.specs.declared.value_kind.ValueKind.TheVariants.{Bytes}
use Rattle.vc_process.specs.declared.bytes_expression.BytesExpr.{BytesExpr}
use Rattle.vc_process.specs.declared.bytes_expression.BytesExpr.TheVariants.{Lit, Var, Fill}
use Rattle.vc_process.specs.Limits.{same_kind}
use Rattle.vc_plan.specs.declared.node_plan.Variable.{Variable}
use Rattle.vc_reader.specs.declared.path.Step.TheVariants.{Field}
use Rattle.vc_reader.specs.declared.word.Word.TheVariants as word
use Rattle.vc_reader.specs.declared.fault.Why.TheVariants as why
use Rattle.vc_reader.specs.declared.fault.Fault.{Fault}
use Rattle.vc_reader.specs.Reading.{◌>>=◌, wrong, under, cell, row, read_text, read_number, only, by_only}
use Rattle.vc_reader.specs.Names.{one_of}

-- a variable of that kind, by its number
abbrev pub of_kind : ValueKind → ℕ × Variable → Result ℕ Fault
of_kind kind found = if same_kind kind (found.1).kind then Ok (min found.0 255) else wrong why.Kind

abbrev pub read_variable : ValueKind → List Variable → Data → Result ℕ Fault
read_variable kind vars d = one_of (λ v. v.name) vars d >>= of_kind kind

-- a message has at most 65,535 bytes
abbrev pub no_longer : List ℕ → Result (List ℕ) Fault
no_longer bytes = if nat_le (length bytes) 65535 then Ok bytes else wrong why.Range

-- a lower-case hexadecimal digit
abbrev pub hex_digit : ℕ → Result ℕ Fault
hex_digit c = if nat_le 48 c && nat_le c 57 then Ok (c - 48) else (if nat_le 97 c && nat_le c 102 then Ok (c - 87) else wrong why.Kind)

-- pairs of digits
abbrev pub hex_bytes : List ℕ → Result (List ℕ) Fault
hex_bytes [] = Ok []
hex_bytes (a ∷ []) = wrong why.Kind
hex_bytes (a ∷ b ∷ rest) = do
  high ← hex_digit a
  low ← hex_digit b
  others ← hex_bytes rest
  Ok ((16 * high + low) ∷ others)

abbrev pub read_hex : Data → Result BytesExpr Fault
read_hex d = read_text d >>= hex_bytes >>= no_longer >>= λ bytes. Ok (Lit bytes)

abbrev pub read_literal : Data → Result BytesExpr Fault
read_literal d = read_text d >>= no_longer >>= λ bytes. Ok (Lit bytes)

abbrev pub read_fill : Data → Result BytesExpr Fault
read_fill d = do
  _ ← row 2 d
  byte ← cell 0 (read_number 0 255) d
  count ← cell 1 (read_number 0 65535) d
  Ok (Fill byte count)

-- bytes in one of their forms
abbrev pub formed_bytes : List ℕ → Data → Result BytesExpr Fault
formed_bytes form d =
    if bytes_eq form (codes "hex") then under (Field word.Hex) (read_hex d) else
    (if bytes_eq form (codes "text") then under (Field word.Text) (read_literal d) else
    (if bytes_eq form (codes "fill") then under (Field word.Fill) (read_fill d) else
    wrong why.Unknown))

-- a text is a variable, and an object of one field is bytes in that form
abbrev pub read_bytes : List Variable → Data → Result BytesExpr Fault
read_bytes vars (string s) = read_variable Bytes vars (string s) >>= λ n. Ok (Var n)
read_bytes vars d = by_only formed_bytes (only d)

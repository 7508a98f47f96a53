-- What an expression of bytes means, and what a text that names a variable does.
use Rattle.std.specs.Prelude.{ℕ, ◌+◌, ◌*◌, List, [], ◌∷◌, ◌++◌, Result, Ok}
use Rattle.vc_reader.specs.declared.fault.Fault.{Fault}
use Rattle.vc_reader.specs.Reading.{◌>>=◌}
use Rattle.vc_reader.specs.Bytes.{hex_digit}

-- the byte of two digits, and bytes with it behind them
abbrev pub hex_pair : ℕ → ℕ → Result ℕ Fault
hex_pair a b = do
  high ← hex_digit a
  low ← hex_digit b
  Ok (16 * high + low)

abbrev pub pushed : List ℕ → Result ℕ Fault → Result (List ℕ) Fault
pushed before read = read >>= λ x. Ok (before ++ x ∷ [])

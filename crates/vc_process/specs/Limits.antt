-- What a process may be: how deep its expressions are, how long its messages, and which variables it names.
use Rattle.std.specs.Prelude.{ℕ, ◌-◌, Bool, true, false, ◌&&◌, List, length, nat_le, nat_lt, Option, Some, None, slice_get}
use Rattle.vc_process.specs.declared.value_kind.ValueKind.{ValueKind}
use Rattle.vc_process.specs.declared.value_kind.ValueKind.TheVariants as of
use Rattle.vc_process.specs.Syntax.{Exp, Number, Variable, Binary, SizeOf, Literal, Contents, Filled, Given, Whole, Bytes}

-- the expression has at most this depth; a literal, a variable and a size have depth 1
abbrev pub exp_within : Exp → ℕ → Bool
exp_within (Number z) n = nat_lt 0 n
exp_within (Variable v) n = nat_lt 0 n
exp_within (SizeOf v) n = nat_lt 0 n
exp_within (Binary op a b) n = nat_lt 0 n && (exp_within a (n - 1) && exp_within b (n - 1))

abbrev pub given_within : Given → ℕ → Bool
given_within (Whole a) n = exp_within a n
given_within (Bytes t) n = nat_lt 0 n

-- a message has at most 65,535 bytes
abbrev pub given_in_length : Given → Bool
given_in_length (Whole a) = true
given_in_length (Bytes (Literal xs)) = nat_le (length xs) 65535
given_in_length (Bytes (Contents v)) = true
given_in_length (Bytes (Filled b n)) = nat_le n 65535

abbrev pub same_kind : ValueKind → ValueKind → Bool
same_kind of.Int of.Int = true
same_kind of.Bytes of.Bytes = true
same_kind of.Int of.Bytes = false
same_kind of.Bytes of.Int = false

-- there is such a variable, and it holds this kind
abbrev pub is_kind : Option ValueKind → ValueKind → Bool
is_kind None k = false
is_kind (Some j) k = same_kind j k

abbrev pub holds_kind : List ValueKind → ℕ → ValueKind → Bool
holds_kind kinds v k = is_kind (slice_get kinds v) k

-- the variables of an expression are there, and of the kinds that it wants
abbrev pub exp_fits : Exp → List ValueKind → Bool
exp_fits (Number z) kinds = true
exp_fits (Variable v) kinds = holds_kind kinds v of.Int
exp_fits (SizeOf v) kinds = holds_kind kinds v of.Bytes
exp_fits (Binary op a b) kinds = exp_fits a kinds && exp_fits b kinds

abbrev pub given_fits : Given → List ValueKind → Bool
given_fits (Whole a) kinds = exp_fits a kinds
given_fits (Bytes (Literal xs)) kinds = true
given_fits (Bytes (Contents v)) kinds = holds_kind kinds v of.Bytes
given_fits (Bytes (Filled b n)) kinds = true

abbrev pub given_kind : Given → ValueKind
given_kind (Whole a) = of.Int
given_kind (Bytes t) = of.Bytes

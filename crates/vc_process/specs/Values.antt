-- What expressions and conditions are worth. None is a fault.
use Rattle.std.specs.Prelude.{ℕ, zero, suc, ◌^◌, ℤ, pos, negsuc, ◌+ℤ◌, ◌-ℤ◌, ◌*ℤ◌, int_div, int_rem, int_lt, int_le, Bool, true, false, not, List, length, replicate, Option, Some, None, option_and_then, nat_lt, if◌then◌else◌}
use Rattle.std.specs.Ordering.{int_eq}
use lib.Signed.{mag}
use Rattle.vc_process.specs.declared.operator.Op.{Op}
use Rattle.vc_process.specs.declared.operator.Op.TheVariants.{Add, Sub, Mul, Div, Rem}
use Rattle.vc_process.specs.declared.relation.Rel.{Rel}
use Rattle.vc_process.specs.declared.relation.Rel.TheVariants.{Eq, Ne, Lt, Gt, Le, Ge}
use Rattle.vc_process.specs.declared.datum.Datum.{Datum}
use Rattle.vc_process.specs.declared.datum.Datum.TheVariants as datum
use Rattle.vc_process.specs.Syntax.{Exp, Number, Variable, Binary, SizeOf, Test, Constant, Compare, Both, Either, Negate, Text, Literal, Contents, Filled, Given, Whole, Bytes}

-- what each variable holds
abbrev pub Store : Type 0
Store = ℕ → Datum

abbrev pub whole_of : Datum → ℤ
whole_of (datum.Int z) = z
whole_of (datum.Bytes xs) = pos 0

abbrev pub bytes_of : Datum → List ℕ
bytes_of (datum.Int z) = replicate 0 0
bytes_of (datum.Bytes xs) = xs

-- a number of 64 bits with sign, or a fault; the mag of n and of -(n + 1) is n, so -2^63 is within
abbrev pub within : ℤ → Option ℤ
within z = if nat_lt (mag z) (2 ^ 63) then Some z else None

-- both operands, unless one of them is a fault
abbrev pub with_both : {A B : Type 0} → Option A → Option A → (A → A → Option B) → Option B
with_both None b f = None
with_both (Some x) None f = None
with_both (Some x) (Some y) f = f x y

abbrev pub quotient : ℤ → ℤ → Option ℤ
quotient x (pos zero) = None
quotient x (pos (suc n)) = within (int_div x (pos (suc n)))
quotient x (negsuc n) = within (int_div x (negsuc n))

-- the remainder has the left operand's sign, and is a fault where the quotient is
abbrev pub remainder : ℤ → ℤ → Option ℤ
remainder x y = option_and_then (λ _. Some (int_rem x y)) (quotient x y)

abbrev pub result : Op → ℤ → ℤ → Option ℤ
result Add x y = within (x +ℤ y)
result Sub x y = within (x -ℤ y)
result Mul x y = within (x *ℤ y)
result Div x y = quotient x y
result Rem x y = remainder x y

-- the value of an expression
abbrev pub value_of : Exp → Store → Option ℤ
value_of (Number z) e = Some z
value_of (Variable v) e = Some (whole_of (e v))
value_of (Binary op a b) e = with_both (value_of a e) (value_of b e) (result op)
value_of (SizeOf v) e = within (pos (length (bytes_of (e v))))

abbrev pub compares : Rel → ℤ → ℤ → Bool
compares Eq x y = int_eq x y
compares Ne x y = not (int_eq x y)
compares Lt x y = int_lt x y
compares Gt x y = int_lt y x
compares Le x y = int_le x y
compares Ge x y = int_le y x

-- whether a condition holds; the right side counts only where the left doesn't decide
abbrev pub holds : Test → Store → Option Bool
holds (Constant b) e = Some b
holds (Compare rel a b) e = with_both (value_of a e) (value_of b e) (λ x y. Some (compares rel x y))
holds (Both a b) e = option_and_then (λ x. if x then holds b e else Some false) (holds a e)
holds (Either a b) e = option_and_then (λ x. if x then Some true else holds b e) (holds a e)
holds (Negate a) e = option_and_then (λ x. Some (not x)) (holds a e)

-- the bytes of an expression, which is never a fault
abbrev pub text_of : Text → Store → List ℕ
text_of (Literal xs) e = xs
text_of (Contents v) e = bytes_of (e v)
text_of (Filled b n) e = replicate n b

-- what is assigned or output
abbrev pub datum_of : Given → Store → Option Datum
datum_of (Whole a) e = option_and_then (λ z. Some (datum.Int z)) (value_of a e)
datum_of (Bytes a) e = Some (datum.Bytes (text_of a e))

-- what is assigned, where that is bytes
abbrev pub assigned_bytes : Given → Store → Option Datum
assigned_bytes (Whole a) e = None
assigned_bytes (Bytes a) e = Some (datum.Bytes (text_of a e))

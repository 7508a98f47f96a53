-- What an expression of whole numbers means.
use Rattle.std.specs.Prelude.{ℕ, zero, suc, ◌^◌, ℤ, pos, List, nat_lt, ◌==◌, if◌then◌else◌, codes, Result, Ok}
use Rattle.std.specs.Str.{bytes_eq}
use Rattle.serde_json.specs.Data.{Data, number, string, array, unsigned, negative}
use Rattle.vc_process.specs.declared.operator.Op.{Op}
use Rattle.vc_process.specs.declared.operator.Op.TheVariants.{Add, Sub, Mul, Div, Rem}
use Rattle.vc_process.specs.declared.expression.Expr.{Expr}
use Rattle.vc_process.specs.declared.expression.Expr.TheVariants.{Num, Var, Bin, Size}
use Rattle.vc_process.specs.declared.value_kind.ValueKind.TheVariants.{Int, Bytes}
use Rattle.vc_plan.specs.declared.node_plan.Variable.{Variable}
use Rattle.vc_reader.specs.declared.expression.ExprWord.{ExprWord}
use Rattle.vc_reader.specs.declared.expression.ExprWord.TheVariants.{SizeOf, Operator}
use Rattle.vc_reader.specs.declared.fault.Why.TheVariants as why
use Rattle.vc_reader.specs.declared.fault.Fault.{Fault}
use Rattle.vc_reader.specs.Reading.{◌>>=◌, wrong, cell, row, items_in, read_text}
use Rattle.vc_reader.specs.Bytes.{read_variable}

-- a whole number of 64 bits with sign
abbrev pub read_int : Data → Result ℤ Fault
read_int (number (unsigned n)) = if nat_lt n (2 ^ 63) then Ok (pos n) else wrong why.Range
read_int (number (negative z)) = Ok z
read_int _ = wrong why.Kind

-- a literal or a variable
abbrev pub read_leaf : List Variable → Data → Result Expr Fault
read_leaf vars (number n) = read_int (number n) >>= λ z. Ok (Num z)
read_leaf vars (string s) = read_variable Int vars (string s) >>= λ n. Ok (Var n)
read_leaf vars d = wrong why.Kind

-- the word at the head of a list, which says what the list is
abbrev pub expr_word : Data → Result ExprWord Fault
expr_word d = read_text d >>= λ s.
    if bytes_eq s (codes "size") then Ok SizeOf else
    (if bytes_eq s (codes "+") then Ok (Operator Add) else
    (if bytes_eq s (codes "-") then Ok (Operator Sub) else
    (if bytes_eq s (codes "*") then Ok (Operator Mul) else
    (if bytes_eq s (codes "/") then Ok (Operator Div) else
    (if bytes_eq s (codes "\\") then Ok (Operator Rem) else wrong why.Kind)))))

-- the word at the head of a list that has one
abbrev pub head : {A : Type 0} → (Data → Result A Fault) → Data → Result A Fault
head read d = if items_in d == 0 then wrong why.Kind else cell 0 read d

abbrev pub read_size : List Variable → Data → Result Expr Fault
read_size vars d = do
  _ ← row 2 d
  var ← cell 1 (read_variable Bytes vars) d
  Ok (Size var)

abbrev pub read_operation : (Data → Result Expr Fault) → Op → Data → Result Expr Fault
read_operation part op d = do
  _ ← row 3 d
  left ← cell 1 part d
  right ← cell 2 part d
  Ok (Bin op left right)

abbrev pub worded_expr : (Data → Result Expr Fault) → List Variable → ExprWord → Data → Result Expr Fault
worded_expr part vars SizeOf d = read_size vars d
worded_expr part vars (Operator op) d = read_operation part op d

abbrev pub expr_step : (Data → Result Expr Fault) → List Variable → Data → Result Expr Fault
expr_step part vars (array ds) = head expr_word (array ds) >>= λ w. worded_expr part vars w (array ds)
expr_step part vars d = read_leaf vars d

-- an expression that nests no deeper than so many parts in one another
abbrev pub read_expr : ℕ → List Variable → Data → Result Expr Fault
read_expr zero vars d = read_leaf vars d
read_expr (suc depth) vars d = expr_step (read_expr depth vars) vars d

-- JSON nests no deeper than 127
abbrev pub whole_expr : List Variable → Data → Result Expr Fault
whole_expr vars d = read_expr 127 vars d

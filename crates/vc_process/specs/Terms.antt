-- The plain trees of expressions as they are written, and the variables of a list.
use Rattle.std.specs.Prelude.{pos, List, slice_index_or}
use Rattle.vc_process.specs.declared.expression.Expr.{Expr}
use Rattle.vc_process.specs.declared.expression.Expr.TheOpen as expr
use Rattle.vc_process.specs.declared.expression.Expr.TheFolds.{fold-Expr}
use Rattle.vc_process.specs.declared.condition.Cond.{Cond}
use Rattle.vc_process.specs.declared.condition.Cond.TheOpen as cond
use Rattle.vc_process.specs.declared.condition.Cond.TheFolds.{fold-Cond}
use Rattle.vc_process.specs.declared.bytes_expression.BytesExpr.{BytesExpr}
use Rattle.vc_process.specs.declared.bytes_expression.BytesExpr.TheVariants as bytes
use Rattle.vc_process.specs.declared.value.Value.{Value}
use Rattle.vc_process.specs.declared.value.Value.TheVariants as value
use Rattle.vc_process.specs.declared.datum.Datum.{Datum}
use Rattle.vc_process.specs.declared.datum.Datum.TheVariants as datum
use Rattle.vc_process.specs.Syntax.{Exp, Number, Variable, Binary, SizeOf, Test, Constant, Compare, Both, Either, Negate, Text, Literal, Contents, Filled, Given, Whole, Bytes}
use Rattle.vc_process.specs.Values.{Store}

-- the variables in a list; what isn't there counts as 0
abbrev pub store : List Datum → Store
store vars = λ k. slice_index_or vars k (datum.Int (pos 0))

-- an expression, with those within it in their place
abbrev pub exp_layer : expr.Expr-F Exp → Exp
exp_layer (expr.Num z) = Number z
exp_layer (expr.Var v) = Variable v
exp_layer (expr.Bin op a b) = Binary op a b
exp_layer (expr.Size v) = SizeOf v

unfoldable pub exp : Expr → Exp
exp = fold-Expr Exp exp_layer

-- a condition, with those within it in their place
abbrev pub test_layer : cond.Cond-F Test → Test
test_layer (cond.Always b) = Constant b
test_layer (cond.Cmp rel a b) = Compare rel (exp a) (exp b)
test_layer (cond.And a b) = Both a b
test_layer (cond.Or a b) = Either a b
test_layer (cond.Not a) = Negate a

unfoldable pub as_test : Cond → Test
as_test = fold-Cond Test test_layer

abbrev pub text : BytesExpr → Text
text (bytes.Lit xs) = Literal xs
text (bytes.Var v) = Contents v
text (bytes.Fill b n) = Filled b n

abbrev pub given : Value → Given
given (value.Int a) = Whole (exp a)
given (value.Bytes a) = Bytes (text a)

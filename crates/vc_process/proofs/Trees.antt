-- The plain trees of expressions and conditions, variant by variant.
use Rattle.std.proofs.Common.{◌≡◌, ℕ, ℤ, Bool, ap, sym, ◌∙◌}
use Rattle.vc_process.specs.declared.operator.Op.{Op}
use Rattle.vc_process.specs.declared.relation.Rel.{Rel}
use Rattle.vc_process.specs.declared.expression.Expr.{Expr}
use Rattle.vc_process.specs.declared.expression.Expr.TheVariants as expr
use Rattle.vc_process.specs.declared.expression.Expr.TheOpen as exp_layer_of
use Rattle.vc_process.specs.declared.expression.Expr.TheFolds.{fold-roll-Expr}
use Rattle.vc_process.specs.declared.condition.Cond.{Cond}
use Rattle.vc_process.specs.declared.condition.Cond.TheVariants as cond
use Rattle.vc_process.specs.declared.condition.Cond.TheOpen as test_layer_of
use Rattle.vc_process.specs.declared.condition.Cond.TheFolds.{fold-roll-Cond}
use Rattle.vc_process.specs.Syntax.{Exp, Number, Variable, Binary, SizeOf, Test, Constant, Compare, Both, Either, Negate}
use Rattle.vc_process.specs.Terms.{exp, exp_layer, as_test, test_layer}

pub exp_num : (e : Expr) (z : ℤ) → e ≡ expr.Num z → exp e ≡ Number z
unfolding exp
exp_num e z h = ap exp (h ∙ sym (expr.rolls-Num z)) ∙ fold-roll-Expr Exp exp_layer (exp_layer_of.Num z)

pub exp_var : (e : Expr) (v : ℕ) → e ≡ expr.Var v → exp e ≡ Variable v
unfolding exp
exp_var e v h = ap exp (h ∙ sym (expr.rolls-Var v)) ∙ fold-roll-Expr Exp exp_layer (exp_layer_of.Var v)

pub exp_bin : (e : Expr) (op : Op) (a b : Expr) → e ≡ expr.Bin op a b → exp e ≡ Binary op (exp a) (exp b)
unfolding exp
exp_bin e op a b h = ap exp (h ∙ sym (expr.rolls-Bin op a b)) ∙ fold-roll-Expr Exp exp_layer (exp_layer_of.Bin op a b)

pub exp_size : (e : Expr) (v : ℕ) → e ≡ expr.Size v → exp e ≡ SizeOf v
unfolding exp
exp_size e v h = ap exp (h ∙ sym (expr.rolls-Size v)) ∙ fold-roll-Expr Exp exp_layer (exp_layer_of.Size v)

pub test_always : (c : Cond) (b : Bool) → c ≡ cond.Always b → as_test c ≡ Constant b
unfolding as_test
test_always c b h = ap as_test (h ∙ sym (cond.rolls-Always b)) ∙ fold-roll-Cond Test test_layer (test_layer_of.Always b)

pub test_cmp : (c : Cond) (rel : Rel) (a b : Expr) → c ≡ cond.Cmp rel a b → as_test c ≡ Compare rel (exp a) (exp b)
unfolding as_test
test_cmp c rel a b h = ap as_test (h ∙ sym (cond.rolls-Cmp rel a b)) ∙ fold-roll-Cond Test test_layer (test_layer_of.Cmp rel a b)

pub test_and : (c a b : Cond) → c ≡ cond.And a b → as_test c ≡ Both (as_test a) (as_test b)
unfolding as_test
test_and c a b h = ap as_test (h ∙ sym (cond.rolls-And a b)) ∙ fold-roll-Cond Test test_layer (test_layer_of.And a b)

pub test_or : (c a b : Cond) → c ≡ cond.Or a b → as_test c ≡ Either (as_test a) (as_test b)
unfolding as_test
test_or c a b h = ap as_test (h ∙ sym (cond.rolls-Or a b)) ∙ fold-roll-Cond Test test_layer (test_layer_of.Or a b)

pub test_not : (c a : Cond) → c ≡ cond.Not a → as_test c ≡ Negate (as_test a)
unfolding as_test
test_not c a h = ap as_test (h ∙ sym (cond.rolls-Not a)) ∙ fold-roll-Cond Test test_layer (test_layer_of.Not a)

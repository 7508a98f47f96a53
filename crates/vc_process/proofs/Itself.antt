-- What is asked of an assignment, an output or an input, and what an expression is worth.
use Rattle.std.proofs.Common.{◌≡◌, ℕ, ℤ, ◌<◌, ◌&&◌, refl, ap, sym, ◌∙◌, List, length, Option, Some, None}
use Rattle.std.specs.Prelude.{nat_lt, is_some, option_and_then}
use Rattle.std.proofs.lemmas.Bool.{lt-ltb}
use Rattle.vc_process.specs.declared.datum.Datum.TheVariants as datum
use Rattle.vc_process.specs.declared.expression.Expr.{Expr}
use Rattle.vc_process.specs.declared.process.Process.{Process}
use Rattle.vc_process.specs.declared.process.Process.TheVariants as process
use Rattle.vc_process.specs.declared.value.Value.{Value}
use Rattle.vc_process.specs.declared.value.Value.TheVariants as value
use Rattle.vc_process.specs.declared.value_kind.ValueKind.{ValueKind}
use Rattle.vc_process.specs.Private.Questions.{names_itself}
use Rattle.vc_process.specs.InOrder.{number}
use Rattle.vc_process.specs.Numbering.{Numbered}
use Rattle.vc_process.specs.Terms.{exp, given}
use Rattle.vc_process.specs.Values.{Store, datum_of, value_of}
use Rattle.vc_process.proofs.Numbers.{number_receive}

pub receive_fits : (p : Process) (c v n site : ℕ) (kinds : List ValueKind) (x y : ℕ) → p ≡ process.Receive c v → x ≡ c → x < n → y ≡ v → nat_lt y (length kinds) ≡ names_itself kinds n ((number p).tree site)
receive_fits p c v n site kinds x y h e l f =
    ap (λ z. nat_lt z (length kinds)) f ∙ ap (λ b. b && nat_lt v (length kinds)) (sym (lt-ltb x n l) ∙ ap (λ z. nat_lt z n) e) ∙ sym (ap (λ (m : Numbered). names_itself kinds n (m.tree site)) (number_receive p c v h))

pub has_whole : (a : Value) (e : Expr) (s : Store) → a ≡ value.Int e → is_some (datum_of (given a) s) ≡ is_some (value_of (exp e) s)
has_whole a e s h = ap (λ b. is_some (datum_of (given b) s)) h ∙ some (value_of (exp e) s)
  where
    some : (o : Option ℤ) → is_some (option_and_then (λ z. Some (datum.Int z)) o) ≡ is_some o
    some (Some z) = refl
    some None = refl

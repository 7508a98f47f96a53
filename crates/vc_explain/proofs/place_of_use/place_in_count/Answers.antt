use Rattle.std.proofs.Common.{◌≡◌, ◌∙◌, ◌∷◌, ◌++◌, []}
use Rattle.vc_process.specs.Terms.{exp}
use Rattle.vc_process.specs.Usage.{in_exp}
use Rattle.vc_reader.specs.declared.path.Step.TheVariants.{Field}
use Rattle.vc_reader.specs.declared.word.Word.TheVariants as word
use Rattle.vc_explain.specs.Uses.{change, expression, first_marked, first_of, items_at, place_if, uses_of_count}
use Rattle.vc_explain.proofs.Own.{marks_three}
use Rattle.vc_explain.proofs.Sought.{if_ok}
use Rattle.vc_explain.proofs.place_of_use.place_in_count.Goals as goal

pub returns : goal.returns
returns c =
    let list = c.args.at.now ++ Field word.For ∷ [] in
    let own = marks_three c.args.wanted list (change c.args.var) (expression (in_exp (exp c.args.base.now))) (expression (in_exp (exp c.args.count.now))) c.has_change.result c.has_expression.result c.has_expression-2.result
    c.has_change.ensures c.has_expression.ensures c.has_expression-2.ensures in
    if_ok c.marked_at.result (λ found. found ≡ first_marked list 0 (c.has_change.result ∷ c.has_expression.result ∷ c.has_expression-2.result ∷ []))
    (λ found. found ≡ first_of (place_if c.args.wanted) (items_at list 0 (uses_of_count c.args.var (exp c.args.base.now) (exp c.args.count.now)))) (λ found h. h ∙ own) c.marked_at.ensures

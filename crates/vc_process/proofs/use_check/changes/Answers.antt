use Rattle.std.proofs.Common.{◌≡◌, ◌∙◌, Bool, true, false, not, ap, refl, []}
use Rattle.vc_process.specs.InOrder.{number}
use Rattle.vc_process.specs.Usage.{changes}
use Rattle.vc_process.proofs.Questions.{keeps_is}
use Rattle.vc_process.proofs.use_check.changes.Goals as goal

not_not : (b : Bool) → not (not b) ≡ b
not_not true = refl
not_not false = refl

pub returns : goal.returns
returns c = λ site.
    let p = (number c.args.process.now).tree site in
    ap not (c.everywhere.ensures site ∙ keeps_is [] c.args.var p) ∙ not_not (changes p c.args.var)

use Rattle.std.proofs.Common.{◌≡◌, Some, ap, sym, ◌∙◌}
use Rattle.std.proofs.lemmas.Bool.Decides.{Decides-eqb, Decides-like}
use Rattle.vc_threads.proofs.merged_runs.comes_at.Goals as goal

pub returns-in-Some : goal.returns-in-Some
returns-in-Some c =
    let at = c.in-Some.at in
    let stamp = c.args.stamp in
    Decides-like _ (λ e. c.in-Some.is ∙ ap Some e) (λ next. let both : Some at ≡ Some stamp = sym c.in-Some.is ∙ next in cc) (Decides-eqb at stamp)

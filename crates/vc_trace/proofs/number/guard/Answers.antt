use Rattle.std.proofs.Common.{Some, ap, sym, ◌∙◌}
use Rattle.std.proofs.lemmas.Slice.Eq.{bytes_eq-Decides}
use Rattle.vc_trace.proofs.NameWords.{dash_only}
use Rattle.vc_trace.proofs.number.guard.Goals as goal

pub returns-then-eq : goal.returns-then-eq
returns-then-eq c = λ guard is here.
    let dash = (bytes_eq-Decides _ _).0 (sym c.if-eq.ensures) ∙ c.as_slice.ensures in
    ap Some (dash_only guard c.args.word.now is here dash)

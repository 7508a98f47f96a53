use Rattle.std.proofs.Common.{Err, subst, sym}
use Rattle.vc_label_run.proofs.Writing.{labels_none}
use Rattle.vc_label_run.specs.Labels.{Labels}
use Rattle.vc_label_text.specs.Labelled.{IsRefusal}
use Rattle.vc_label_run.proofs.run.run_label.Goals as goal

pub returns : goal.returns
returns g c =
    let known = g.R.Read.remaining c.args.reader.now in
    let old = g.W.Write.contents c.args.writer.now in
    let why = c.in-Err.refused in
    subst (λ fault. Labels known old old (Err fault)) (sym c.from.ensures)
    (labels_none known old c.in_ok-text.text.items why c.in_ok-text.ensures.all (subst (λ t. IsRefusal t why) c.as_slice.ensures.value c.in-Err.ensures.refused))

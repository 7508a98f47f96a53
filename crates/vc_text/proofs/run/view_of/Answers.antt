use Rattle.std.proofs.Common.{ap, ◌∙◌, length}
use Rattle.std.proofs.lemmas.Option.{slice_get_within}
use Rattle.vc_text.proofs.run.view_of.Goals as goal

pub returns : goal.returns
returns c = λ p x is there.
    let less = slice_get_within p.channels c.args.chan x there in
    λ i. record {
      name = c.name.ensures.is p x is there i;
      kind = c.kind.ensures.is p x is there i;
      offered = (c.len.ensures ∙ ap length (c.offered.ensures.shows p is less)) i;
      taken = c.taken.ensures.shows p is less i;
      finished = c.finished.ensures.shows p is less i;
      is_stopped = c.stopped.ensures.shows p is less i;
    }

use Rattle.std.proofs.Common.{inr}
use Rattle.vc_label_text.proofs.Refusals.{refused_of}
use Rattle.vc_label_text.proofs.labeller.judged.Goals as goal

pub returns-in-Err-clause-refused : goal.returns-in-Err-clause-refused
returns-in-Err-clause-refused c = inr ((c.args.bare.now, c.requires), (c.as_slice.result.now, c.in-Err.ensures))

pub returns-in-Err-check-clause-refused : goal.returns-in-Err-check-clause-refused
returns-in-Err-check-clause-refused c =
    let is = refused_of c.as_slice.result.now c.in-Ok.plan c.in-Err-check.refusal c.in-Ok.ensures c.in-Err-check.ensures.verdict in
    ((c.args.bare.now, c.requires), is.0, is.1)

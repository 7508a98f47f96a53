use Rattle.vc_explain.proofs.Told.{told_none}
use Rattle.vc_explain.proofs.explanation.explain.Goals as goal

pub returns-in_ok-tell_refusal-in-Err : goal.returns-in_ok-tell_refusal-in-Err
returns-in_ok-tell_refusal-in-Err c =
    told_none c.args.text.now c.in-Err.fault c.in_ok-tell_refusal-in-Err.field-0.items c.requires c.in-Err.ensures c.in_ok-tell_refusal-in-Err.ensures

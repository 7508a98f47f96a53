use Rattle.std.proofs.Common.{◌≡◌, subst}
use Rattle.serde_json.specs.Data.{null}
use Rattle.vc_text.specs.declared.fault.RunFault.TheVariants.{Plan}
use Rattle.vc_explain.specs.Explanation.{refusal_told}
use Rattle.vc_explain.proofs.Told.{told_whole}
use Rattle.vc_explain.proofs.explanation.explain_whole.Goals as goal

pub returns-in_ok-tell_plan-in-Err : goal.returns-in_ok-tell_plan-in-Err
returns-in_ok-tell_plan-in-Err c =
    let text = c.args.text.now in
    let told = c.in_ok-tell_plan-in-Err.field-0.items in
    told_whole text c.args.plan c.in-Err.refusal c.in_ok-found-in-Err.found.items told c.requires.limit c.requires.read c.in-Err.ensures.verdict c.in_ok-tell_plan-in-Err.ensures.0
    c.in_ok-found-in-Err.ensures (subst (λ f. told ≡ refusal_told text 0 null f (Plan c.in-Err.refusal)) c.as_slice.ensures.value c.in_ok-tell_plan-in-Err.ensures.1)

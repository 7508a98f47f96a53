use Rattle.std.proofs.Common.{◌≡◌, subst}
use Rattle.serde_json.specs.Data.{null}
use Rattle.vc_text.specs.declared.fault.RunFault.TheVariants.{Plan}
use Rattle.vc_explain.specs.Explanation.{refusal_told}
use Rattle.vc_explain.proofs.Told.{told_short}
use Rattle.vc_explain.proofs.explanation.explain_short.Goals as goal

pub returns : goal.returns
returns c =
    let text = c.args.text.now in
    let told = c.in_ok-tell_plan.field-0.items in
    told_short text c.args.refusal c.in-Ok.bare c.in_ok-found.found.items c.in_ok-found-2.found.items told c.requires.limit c.requires.read c.in_ok-tell_plan.ensures.0 c.in-Ok.ensures
    c.in_ok-found.ensures c.in_ok-found-2.ensures (subst (λ f. told ≡ refusal_told text 0 null f (Plan c.args.refusal)) c.as_slice.ensures.value c.in_ok-tell_plan.ensures.1)

use Rattle.std.proofs.Common.{◌≡◌, ◌∙◌, List, ap, sym}
use Rattle.std.specs.Prelude.{ℕ}
use Rattle.vc_plan.specs.Limits.{kinds_of}
use Rattle.vc_process.specs.declared.value_kind.ValueKind.{ValueKind}
use Rattle.vc_process.specs.InOrder.{number}
use Rattle.vc_process.specs.Numbering.{written}
use Rattle.vc_process.specs.Syntax.{Proc}
use Rattle.vc_process.proofs.Numbers.{written_is}
use Rattle.vc_reader.specs.declared.path.Step.{Step}
use Rattle.vc_explain.specs.declared.wanted.Rights.{Rights}
use Rattle.vc_explain.specs.declared.wanted.Wanted.TheVariants.{Misuse}
use Rattle.vc_explain.specs.Misuses.{misuse_by, rights}
use Rattle.vc_explain.specs.Uses.{place}
use Rattle.vc_explain.proofs.Sought.{if_ok}
use Rattle.vc_explain.proofs.misuse.misuse_by.Goals as goal

pub returns : goal.returns
returns c =
    let p = c.args.node.now.process in
    let may = rights c.args.plan.now c.args.chan c.args.channel.now c.args.number in
    let kinds : c.as_slice-2.result.now ≡ kinds_of c.args.node.now.vars = c.as_slice-2.ensures ∙ c.in_ok-kinds.ensures ∙ ap kinds_of c.as_slice.ensures in
    if_ok c.place_of.result (λ found. (site : ℕ) → found ≡ place (Misuse c.rights.result) c.as_slice-2.result.now ((number p).tree site) c.process_path.result) (λ found. found ≡ misuse_by c.args.plan.now c.args.chan c.args.channel.now c.args.number c.args.node.now)
    (λ found h. h 0 ∙ ap (λ (r : Rights). place (Misuse r) c.as_slice-2.result.now ((number p).tree 0) c.process_path.result) c.rights.ensures ∙ ap (λ (ks : List ValueKind). place (Misuse may) ks ((number p).tree 0) c.process_path.result) kinds
    ∙ ap (λ (q : Proc). place (Misuse may) (kinds_of c.args.node.now.vars) q c.process_path.result) (sym (written_is p)) ∙ ap (λ (at : List Step). place (Misuse may) (kinds_of c.args.node.now.vars) (written p) at) c.process_path.ensures) c.place_of.ensures

use Rattle.std.proofs.Common.{◌≡◌, ◌∙◌, List, Some, ap, sym}
use Rattle.std.specs.Prelude.{ℕ}
use Rattle.vc_plan.specs.declared.channel.Channel.{Channel}
use Rattle.vc_plan.specs.declared.node_plan.Variable.{Variable}
use Rattle.vc_process.specs.InOrder.{number}
use Rattle.vc_process.specs.Numbering.{written}
use Rattle.vc_process.specs.Syntax.{Proc}
use Rattle.vc_process.proofs.Numbers.{written_is}
use Rattle.vc_reader.specs.declared.path.Step.{Step}
use Rattle.vc_explain.specs.declared.offence.Named.{Named}
use Rattle.vc_explain.specs.Offences.{channel_named, named, offence, offence_by, variable_named}
use Rattle.vc_explain.proofs.Sought.{if_ok}
use Rattle.vc_explain.proofs.offence.offence_by.Goals as goal

pub returns : goal.returns
returns c =
    let p = c.args.node.now.process in
    let name = c.args.name.now in
    let these : Named = record { chan = c.channel_named.result; var = c.variable_named.result } in
    let channel : c.channel_named.result ≡ channel_named c.args.plan.now.channels name = c.channel_named.ensures ∙ ap (λ (cs : List Channel). channel_named cs name) c.as_slice.ensures in
    let variable : c.variable_named.result ≡ variable_named c.args.node.now.vars name = c.variable_named.ensures ∙ ap (λ (vs : List Variable). variable_named vs name) c.as_slice-2.ensures in
    let both : these ≡ named c.args.plan.now.channels c.args.node.now.vars name = ap (λ o. record { chan = o; var = c.variable_named.result }) channel ∙ ap (λ o. record { chan = channel_named c.args.plan.now.channels name; var = o }) variable in
    if_ok c.first_found.result (λ found. (site : ℕ) → found ≡ offence these ((number p).tree site) c.process_path.result) (λ found. found ≡ offence_by c.args.plan.now.channels c.args.number name (Some c.args.node.now))
    (λ found h. h 0 ∙ ap (λ (n : Named). offence n ((number p).tree 0) c.process_path.result) both ∙ ap (λ (q : Proc). offence (named c.args.plan.now.channels c.args.node.now.vars name) q c.process_path.result) (sym (written_is p))
    ∙ ap (λ (at : List Step). offence (named c.args.plan.now.channels c.args.node.now.vars name) (written p) at) c.process_path.ensures) c.first_found.ensures

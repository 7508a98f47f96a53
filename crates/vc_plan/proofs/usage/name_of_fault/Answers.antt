use Rattle.std.proofs.Common.{arith, ap, length, subst}
use Rattle.std.proofs.lemmas.List.{length-map}
use Rattle.vc_process.specs.UseFaults.{IsUseFault}
use Rattle.vc_process.specs.Numbering.{written}
use Rattle.vc_plan.specs.declared.node_plan.Variable.{Variable}
use Rattle.vc_plan.specs.Limits.{kinds_of}
use Rattle.vc_plan.proofs.Names.{offence_there}
use Rattle.vc_plan.proofs.usage.name_of_fault.Goals as goal

pub name_of_channel-requires : goal.name_of_channel-requires
name_of_channel-requires c =
    let fault = subst (IsUseFault (written c.args.node.now.process)) c.in-Chan.is c.requires.fault in
    let there = offence_there (kinds_of c.args.node.now.vars) (length c.args.plan.now.channels) fault c.requires.names in
    let l = ap length c.as_slice.ensures in
    omega (arith, there, l)

pub name_of_variable-requires : goal.name_of_variable-requires
name_of_variable-requires c =
    let fault = subst (IsUseFault (written c.args.node.now.process)) c.in-Var.is c.requires.fault in
    let there = offence_there (kinds_of c.args.node.now.vars) (length c.args.plan.now.channels) fault c.requires.names in
    let l = ap length c.as_slice-in-Var.ensures in
    let m = length-map c.args.node.now.vars (λ (v : Variable). v.kind) in
    omega (arith, there, l, m)

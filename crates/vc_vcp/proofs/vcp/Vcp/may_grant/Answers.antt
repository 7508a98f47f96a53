use Rattle.std.proofs.Common.{◌<◌, ◌≤◌, arith, subst}
use Rattle.std.proofs.lemmas.Bool.{le-ltb}
use Rattle.vc_vcp.specs.State.{State, IsWired}
use Rattle.vc_vcp.proofs.Beyond.{grant_there, in_past, no_may_grant}
use Rattle.vc_vcp.proofs.Passes.{ins_read}
use Rattle.vc_vcp.proofs.vcp.Vcp.may_grant.Goals as goal

pub returns-then-at-lt-LINKS-clause-can : goal.returns-then-at-lt-LINKS-clause-can
returns-then-at-lt-LINKS-clause-can c =
    let x = c.self.inside in
    let o : State = record { outputs = x.outputs.items; inputs = x.inputs.items; outs = x.outs.items; ins = x.ins.items; strays = x.strays } in
    let s = c.args.self.now in
    let less : c.args.link < 4 = omega (arith, c.if-at-lt-LINKS.true, c.from-at.ensures) in
    let here = ins_read s o c.from-at.result c.args.link c.index.result.now c.self.view_is c.from-at.ensures c.self.invariant.four_in less c.index.ensures in
    grant_there s c.args.link _ c.may_grant.result (subst IsWired c.self.view_is c.self.invariant) here c.may_grant.ensures

pub returns-else-at-lt-LINKS-clause-may : goal.returns-else-at-lt-LINKS-clause-may
returns-else-at-lt-LINKS-clause-may c =
    let s = c.args.self.now in
    let past : 4 ≤ c.args.link = omega (arith, c.if-at-lt-LINKS.false, c.from-at.ensures) in
    rw (le-ltb c.from-at.result 4 c.if-at-lt-LINKS.false) (no_may_grant s c.args.link (in_past s c.args.link c.links.ensures.ends.1 past))

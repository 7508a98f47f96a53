use Rattle.std.proofs.Common.{◌<◌, ◌≤◌, ◌≢◌, ◌↔◌, IsTrue, [], arith, sym, subst}
use mathlib.Core.Bool.{not}
use Rattle.std.proofs.lemmas.Bool.{le-ltb}
use Rattle.vc_vcp.specs.State.{State, IsWired}
use Rattle.vc_vcp.proofs.Arrivals.{pass_iff}
use Rattle.vc_vcp.proofs.Beyond.{in_past, no_pass, no_waits}
use Rattle.vc_vcp.proofs.Enablement.{none_iff}
use Rattle.vc_vcp.proofs.Passes.{ins_read, receiver_at}
use Rattle.vc_vcp.proofs.vcp.Vcp.may_pass.Goals as goal

pub returns-then-at-lt-LINKS-clause-can : goal.returns-then-at-lt-LINKS-clause-can
returns-then-at-lt-LINKS-clause-can c =
    let x = c.self.inside in
    let o : State = record { outputs = x.outputs.items; inputs = x.inputs.items; outs = x.outs.items; ins = x.ins.items; strays = x.strays } in
    let s = c.args.self.now in
    let less : c.args.link < 4 = omega (arith, c.if-at-lt-LINKS.true, c.from-at.ensures) in
    let into = c.index.result.now in
    let here = ins_read s o c.from-at.result c.args.link into c.self.view_is c.from-at.ensures c.self.invariant.four_in less c.index.ensures in
    let waits = subst (λ r. IsTrue (not c.is_empty.result) ↔ (r.buffer ≢ [])) (sym (receiver_at s c.args.link into here)) (none_iff c.is_empty.result into.receiver.buffer c.is_empty.ensures) in
    pass_iff s c.args.link into (not c.is_empty.result) (subst IsWired c.self.view_is c.self.invariant) here waits

pub returns-else-at-lt-LINKS-clause-waits : goal.returns-else-at-lt-LINKS-clause-waits
returns-else-at-lt-LINKS-clause-waits c =
    let s = c.args.self.now in
    let past : 4 ≤ c.args.link = omega (arith, c.if-at-lt-LINKS.false, c.from-at.ensures) in
    rw (le-ltb c.from-at.result 4 c.if-at-lt-LINKS.false) (no_waits s c.args.link (in_past s c.args.link c.links.ensures.ends.1 past))

pub returns-else-at-lt-LINKS-clause-can : goal.returns-else-at-lt-LINKS-clause-can
returns-else-at-lt-LINKS-clause-can c =
    let s = c.args.self.now in
    let past : 4 ≤ c.args.link = omega (arith, c.if-at-lt-LINKS.false, c.from-at.ensures) in
    rw (le-ltb c.from-at.result 4 c.if-at-lt-LINKS.false) (no_pass s c.args.link (in_past s c.args.link c.links.ensures.ends.1 past))

use Rattle.std.proofs.Common.{ℕ, List, drop, MatchOption, sym, subst}
use Rattle.vc_machine.specs.Machine.{BodyLeaves}
use Rattle.vc_network.specs.Plan.{net_of}
use Rattle.vc_accepted.specs.NetworkOf.{network_of}
use Rattle.vc_core.specs.State.{state_of}
use Rattle.vc_core.proofs.Onward.{no_way, no_first, no_out, by_way}
use Rattle.vc_core.proofs.network.Network.way_on.Goals as goal

pub returns-in_err-switch-clause-leaves : goal.returns-in_err-switch-clause-leaves
returns-in_err-switch-clause-leaves c = λ p is.
    let net = net_of (network_of p) in
    let b = c.args.body.now in
    subst (λ o. MatchOption o ((out : ℕ) (left : List ℕ) → BodyLeaves net c.args.switch b out left → ⊥) (λ way. BodyLeaves net c.args.switch b way.0 (drop way.1 b))) (sym c.from_residual.ensures)
    (no_way p (state_of c.args.self.now) c.args.switch b is c.in_err-switch.ensures)

pub returns-in_err-link-clause-leaves : goal.returns-in_err-link-clause-leaves
returns-in_err-link-clause-leaves c = λ p is.
    let net = net_of (network_of p) in
    let b = c.args.body.now in
    subst (λ o. MatchOption o ((out : ℕ) (left : List ℕ) → BodyLeaves net c.args.switch b out left → ⊥) (λ way. BodyLeaves net c.args.switch b way.0 (drop way.1 b))) (sym c.from_residual-in_err-link.ensures)
    (no_first p (state_of c.args.self.now) c.args.switch c.in_ok-switch.field-0.now b is c.in_ok-switch.ensures c.in_err-link.ensures)

pub returns-in_err-way_out-clause-leaves : goal.returns-in_err-way_out-clause-leaves
returns-in_err-way_out-clause-leaves c = λ p is.
    let net = net_of (network_of p) in
    let b = c.args.body.now in
    subst (λ o. MatchOption o ((out : ℕ) (left : List ℕ) → BodyLeaves net c.args.switch b out left → ⊥) (λ way. BodyLeaves net c.args.switch b way.0 (drop way.1 b))) (sym c.from_residual-in_err-way_out.ensures)
    (λ out left leaves. no_out p (state_of c.args.self.now) c.args.switch c.in_ok-link.link c.in_ok-switch.field-0.now b (drop c.in_ok-link.from b) is c.in_ok-switch.ensures c.in_ok-link.ensures.1 (c.in_err-way_out.ensures p is))

pub returns-clause-leaves : goal.returns-clause-leaves
returns-clause-leaves c = λ p is.
    let b = c.args.body.now in
    by_way p (state_of c.args.self.now) c.args.switch c.in_ok-link.link c.in_ok-way_out.field-0 c.in_ok-switch.field-0.now b (drop c.in_ok-link.from b) is c.in_ok-switch.ensures c.in_ok-link.ensures.1 (c.in_ok-way_out.ensures p is)

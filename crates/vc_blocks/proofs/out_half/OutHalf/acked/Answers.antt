use Rattle.std.proofs.Common.{ap}
use Rattle.vc_blocks.proofs.UnderWay.{after_last, after_more, is_finished, is_more}
use Rattle.vc_blocks.proofs.out_half.OutHalf.acked.Goals as goal

pub returns-then-self-clause-after : goal.returns-then-self-clause-after
returns-then-self-clause-after c =
    let x = c.self.inside in
    let none = after_last x.busy x.message x.count x.piece c.self.invariant c.args.self.now.unacked (ap (λ z. z.unacked) c.self.view_is) c.requires c.if-self.true in
    let route = ap (λ z. z.route) c.self.view_is in
    (λ i. record { route = route i; unacked = none i })

pub returns-then-self-clause-result : goal.returns-then-self-clause-result
returns-then-self-clause-result c =
    let x = c.self.inside in
    is_finished x.busy x.message x.count x.piece c.self.invariant c.args.self.now.unacked (ap (λ z. z.unacked) c.self.view_is) c.requires c.if-self.true

pub returns-else-self-clause-after : goal.returns-else-self-clause-after
returns-else-self-clause-after c =
    let x = c.self.inside in
    let more = after_more x.busy x.message x.piece c.args.self.now.unacked (ap (λ z. z.unacked) c.self.view_is) c.requires in
    let route = ap (λ z. z.route) c.self.view_is in
    (λ i. record { route = route i; unacked = more i })

pub returns-else-self-clause-result : goal.returns-else-self-clause-result
returns-else-self-clause-result c =
    let x = c.self.inside in
    is_more x.busy x.message x.count x.piece c.self.invariant c.args.self.now.unacked (ap (λ z. z.unacked) c.self.view_is) c.requires c.if-self.false

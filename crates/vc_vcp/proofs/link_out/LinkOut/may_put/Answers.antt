use Rattle.std.proofs.Common.{◌≡◌, ◌==◌, ◌∙◌, sym, ap, length, deque_len, rules}
use Rattle.vc_vcp.proofs.PutLemmas.{can_put_where, empty_iff}
use Rattle.vc_vcp.proofs.link_out.LinkOut.may_put.Goals as goal

pub returns-then-may_send-clause-can : goal.returns-then-may_send-clause-can
returns-then-may_send-clause-can c =
    let x = c.self.inside in
    let len : deque_len x.queue ≡ length x.queue.items = search rules in
    can_put_where c.args.self.now x.queue.items x.sent x.credit c.is_empty.result (sym c.self.view_is) (c.may_send.ensures.0 c.if-may_send.true) c.self.invariant (empty_iff c.is_empty.result x.queue.items (c.is_empty.ensures ∙ ap (λ n. n == 0) len))

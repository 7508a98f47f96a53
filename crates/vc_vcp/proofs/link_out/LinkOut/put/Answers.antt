use Rattle.std.proofs.Common.{◌≡◌, sym, subst, rules, slice_get, Some, None}
use Rattle.vc_tokens.specs.CodeTokens.{token}
use Rattle.vc_vcp.specs.Private.LinkOut.{PutsFront}
use Rattle.vc_vcp.proofs.PutLemmas.{byte_at, mark_at}
use Rattle.vc_vcp.proofs.link_out.LinkOut.put.Goals as goal

pub returns-in-Some : goal.returns-in-Some
returns-in-Some c =
    let x = c.self.inside in
    let read : slice_get c.index-packet.result.now.body x.sent ≡ Some c.in-Some.byte = search rules in
    byte_at c.args.self.now x.queue.items x.sent x.credit c.spend.new.self c.in-Some.byte c.index-packet.result.now (sym c.self.view_is) c.requires.packet c.requires.credit (search rules) read c.spend.ensures

pub returns-in-None : goal.returns-in-None
returns-in-None c =
    let x = c.self.inside in
    let read : slice_get c.index-packet.result.now.body x.sent ≡ None = search rules in
    subst (PutsFront c.args.self.now (token c.from.result)) (sym c.leave.ensures)
    (mark_at c.args.self.now x.queue.items x.sent x.credit c.spend.new.self c.index-packet.result.now (token c.from.result) (sym c.self.view_is) c.requires.packet c.requires.credit (search rules) read c.self.invariant c.spend.ensures c.from.ensures)

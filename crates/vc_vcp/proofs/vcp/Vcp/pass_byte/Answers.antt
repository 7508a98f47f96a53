use Rattle.std.proofs.Common.{◌≡◌, ◌<◌, None, true, false, length, sym, subst, arith, slice_set}
use Rattle.std.proofs.lemmas.Option.{slice_get_read}
use Rattle.vc_packets.specs.Counters.{one_more}
use Rattle.vc_vcp.specs.Links.{Passes}
use Rattle.vc_vcp.specs.VcpView.{seen, ends_of}
use Rattle.vc_vcp.specs.State.{State, IsLinkIn, limit_of}
use Rattle.vc_vcp.proofs.Passes.{byte_passes, byte_drops}
use Rattle.vc_vcp.proofs.Preservation.{all-at}
use Rattle.vc_vcp.proofs.vcp.Vcp.pass_byte.Goals as goal

pub returns-then-not-pass_byte-clause-passes : goal.returns-then-not-pass_byte-clause-passes
returns-then-not-pass_byte-clause-passes c =
    let x = c.self.inside in
    let o : State = record { outputs = x.outputs.items; inputs = x.inputs.items; outs = x.outs.items; ins = x.ins.items; strays = x.strays } in
    let k = c.from-at.result in
    let a = c.index_mut.result.now in
    let within : k < 4 = omega arith in
    let here = slice_get_read x.ins.items 4 k a (sym c.self.invariant.four_in) within c.index_mut.ensures.value in
    let limit = (all-at (IsLinkIn (limit_of x.ins.items)) x.ins.items k a c.self.invariant.ins here).limit in
    let full = λ (room : length a.passed < a.limit). (let t : c.pass_byte.result ≡ true = c.pass_byte.ensures.room.1 room in let f : c.pass_byte.result ≡ false = c.if-not-pass_byte.true in absurd (cc)) in
    let new : State = record o { ins = slice_set x.ins.items k c.pass_byte.new.self; strays = one_more x.strays } in
    subst (λ z. Passes (limit_of c.args.self.now.ins) (ends_of c.args.self.now) (seen c.args.self.now) c.args.link None (seen z)) (sym c.drop_one.ensures)
    (subst (λ z. Passes (limit_of z.ins) (ends_of z) (seen z) c.args.link None (seen new)) c.self.view_is
    (subst (λ j. Passes (limit_of x.ins.items) (ends_of o) (seen o) j None (seen new)) c.from-at.ensures
    (byte_drops o k c.args.byte (limit_of x.ins.items) a c.pass_byte.new.self here limit c.pass_byte.ensures.front full c.if-not-pass_byte.ensures.dropped)))

pub returns-else-not-pass_byte-clause-passes : goal.returns-else-not-pass_byte-clause-passes
returns-else-not-pass_byte-clause-passes c =
    let x = c.self.inside in
    let o : State = record { outputs = x.outputs.items; inputs = x.inputs.items; outs = x.outs.items; ins = x.ins.items; strays = x.strays } in
    let k = c.from-at.result in
    let a = c.index_mut.result.now in
    let within : k < 4 = omega arith in
    let here = slice_get_read x.ins.items 4 k a (sym c.self.invariant.four_in) within c.index_mut.ensures.value in
    let limit = (all-at (IsLinkIn (limit_of x.ins.items)) x.ins.items k a c.self.invariant.ins here).limit in
    let new : State = record o { ins = slice_set x.ins.items k c.pass_byte.new.self } in
    subst (λ z. Passes (limit_of z.ins) (ends_of z) (seen z) c.args.link None (seen new)) c.self.view_is
    (subst (λ j. Passes (limit_of x.ins.items) (ends_of o) (seen o) j None (seen new)) c.from-at.ensures
    (byte_passes o k c.args.byte (limit_of x.ins.items) a c.pass_byte.new.self here limit c.pass_byte.ensures.front (c.pass_byte.ensures.room.0 c.if-not-pass_byte.false) c.if-not-pass_byte.ensures.added))

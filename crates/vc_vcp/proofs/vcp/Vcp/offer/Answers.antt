use Rattle.std.proofs.Common.{◌≡◌, ◌<◌, refl, sym, ◌∙◌, subst, ap, length, slice_get, Some, [], OnOk, OnErr}
use Rattle.std.proofs.lemmas.Option.{slice_get_read}
use Rattle.vc_vcp.specs.State.{State, IsOutput}
use Rattle.vc_vcp.proofs.Preservation.{wired-output, all-at}
use Rattle.vc_vcp.specs.Names.{named}
use Rattle.vc_vcp.specs.VcpView.{seen, ends_of, carrier_of, IsKept}
use Rattle.vc_vcp.specs.Steps.{Offers}
use Rattle.vc_vcp.proofs.KeyedLemmas.{named_has}
use Rattle.vc_vcp.proofs.ListWrites.{same_read, on_ok, on_err}
use Rattle.vc_vcp.proofs.EndChanges.{with_output, offers, kept-output, links-output, output_back}
use Rattle.vc_vcp.proofs.vcp.Vcp.offer.Goals as goal

pub invariant_of-self : goal.invariant_of-self
invariant_of-self c =
    let x = c.self.inside in
    let o : State = record { outputs = x.outputs.items; inputs = x.inputs.items; outs = x.outs.items; ins = x.ins.items; strays = x.strays } in
    let i = c.in-Some.at in
    let a = c.index_mut.result.now in
    let here = slice_get_read x.outputs.items (length x.outputs.items) i a refl (subst (λ z. i < length z) c.deref.ensures.value c.in-Some.ensures.within) c.index_mut.ensures.value in
    wired-output o i c.from-link.result a c.offer.new.self c.offer.new.queue c.self.invariant here c.offer.ensures.stays (c.offer.ensures.is (all-at IsOutput x.outputs.items i a c.self.invariant.outputs here))

pub returns-clause-offers : goal.returns-clause-offers
returns-clause-offers c =
    let x = c.self.inside in
    let o : State = record { outputs = x.outputs.items; inputs = x.inputs.items; outs = x.outs.items; ins = x.ins.items; strays = x.strays } in
    let own = c.self.invariant.names in
    let i = c.in-Some.at in
    let k = c.from-link.result in
    let a = c.index_mut.result.now in
    let q = c.index_mut-in-Some.result.now in
    let within : i < length x.outputs.items = subst (λ z. i < length z) c.deref.ensures.value c.in-Some.ensures.within in
    let here = slice_get_read x.outputs.items (length x.outputs.items) i a refl within c.index_mut.ensures.value in
    let read = slice_get_read x.outputs.items (length x.outputs.items) i c.index.result.now refl within c.index.ensures in
    let same = same_read x.outputs.items i c.index.result.now a read here in
    let along : k ≡ a.link = c.from-link.ensures ∙ ap (λ z. z.link) same in
    let four : a.link < 4 = (all-at IsOutput x.outputs.items i a c.self.invariant.outputs here).link in
    let less : k < 4 = subst (λ z. z < 4) (sym along) four in
    let out = slice_get_read x.outs.items 4 k q (sym c.self.invariant.four_out) less c.index_mut-in-Some.ensures.value in
    let found : slice_get x.outputs.items i ≡ named (λ x. x.chan) c.args.chan x.outputs.items = subst (λ z. slice_get z i ≡ named (λ x. x.chan) c.args.chan z) c.deref.ensures.value c.in-Some.ensures.found in
    let asked = subst (λ z. named (λ x. x.chan) c.args.chan z.outputs ≡ Some c.requires.output) (sym c.self.view_is) c.requires.here in
    let idle = subst (λ z. z.half.unacked ≡ []) (same_read x.outputs.items i c.requires.output a (found ∙ asked) here) c.requires.idle in
    subst (λ z. OnOk c.offer.result (Offers (ends_of z) (carrier_of z) c.args.chan c.args.message (seen (with_output o i c.offer.new.self k c.offer.new.queue)).carrier)) c.self.view_is
    (on_ok c.offer.result
    (offers o i k c.args.chan c.args.message a c.offer.new.self q c.offer.new.queue own here (named_has (λ x. x.chan) c.args.chan x.outputs.items a (sym found ∙ here)) along out idle)
    c.offer.ensures.ok)

pub returns-clause-kept : goal.returns-clause-kept
returns-clause-kept c =
    let x = c.self.inside in
    let o : State = record { outputs = x.outputs.items; inputs = x.inputs.items; outs = x.outs.items; ins = x.ins.items; strays = x.strays } in
    let own = c.self.invariant.names in
    let i = c.in-Some.at in
    let a = c.index_mut.result.now in
    let here = slice_get_read x.outputs.items (length x.outputs.items) i a refl (subst (λ z. i < length z) c.deref.ensures.value c.in-Some.ensures.within) c.index_mut.ensures.value in
    subst (λ z. IsKept z (with_output o i c.offer.new.self c.from-link.result c.offer.new.queue)) c.self.view_is
    (kept-output o i c.from-link.result a c.offer.new.self c.offer.new.queue own here c.offer.ensures.stays)

pub returns-clause-links : goal.returns-clause-links
returns-clause-links c =
    let x = c.self.inside in
    let o : State = record { outputs = x.outputs.items; inputs = x.inputs.items; outs = x.outs.items; ins = x.ins.items; strays = x.strays } in
    let i = c.in-Some.at in
    let k = c.from-link.result in
    let q = c.index_mut-in-Some.result.now in
    let read = slice_get_read x.outputs.items (length x.outputs.items) i c.index.result.now refl (subst (λ z. i < length z) c.deref.ensures.value c.in-Some.ensures.within) c.index.ensures in
    let less : k < 4 = subst (λ z. z < 4) (sym c.from-link.ensures) (all-at IsOutput x.outputs.items i c.index.result.now c.self.invariant.outputs read).link in
    let out = slice_get_read x.outs.items 4 k q (sym c.self.invariant.four_out) less c.index_mut-in-Some.ensures.value in
    subst (λ z. (seen (with_output o i c.offer.new.self k c.offer.new.queue)).link ≡ (seen z).link) c.self.view_is
    (links-output o i k c.offer.new.self q c.offer.new.queue out c.offer.ensures.sender)

pub returns-clause-err : goal.returns-clause-err
returns-clause-err c =
    let x = c.self.inside in
    let o : State = record { outputs = x.outputs.items; inputs = x.inputs.items; outs = x.outs.items; ins = x.ins.items; strays = x.strays } in
    let i = c.in-Some.at in
    let a = c.index_mut.result.now in
    let here = slice_get_read x.outputs.items (length x.outputs.items) i a refl (subst (λ z. i < length z) c.deref.ensures.value c.in-Some.ensures.within) c.index_mut.ensures.value in
    let k = c.from-link.result in
    let q = c.index_mut-in-Some.result.now in
    let read = slice_get_read x.outputs.items (length x.outputs.items) i c.index.result.now refl (subst (λ z. i < length z) c.deref.ensures.value c.in-Some.ensures.within) c.index.ensures in
    let less : k < 4 = subst (λ z. z < 4) (sym c.from-link.ensures) (all-at IsOutput x.outputs.items i c.index.result.now c.self.invariant.outputs read).link in
    let out = slice_get_read x.outs.items 4 k q (sym c.self.invariant.four_out) less c.index_mut-in-Some.ensures.value in
    subst (λ z. OnErr c.offer.result (with_output o i c.offer.new.self k c.offer.new.queue ≡ z)) c.self.view_is
    (on_err c.offer.result (output_back o i k a c.offer.new.self q c.offer.new.queue here out) c.offer.ensures.err c.offer.ensures.err_queue)

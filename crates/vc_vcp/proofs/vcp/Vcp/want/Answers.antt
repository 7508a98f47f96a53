use Rattle.std.proofs.Common.{◌≡◌, ◌<◌, false, Some, IfOk, OnErr, slice_get, slice_set, refl, sym, ap, ◌∙◌, subst, length}
use Rattle.std.proofs.lemmas.Option.{slice_get_read}
use Rattle.vc_vcp.specs.Names.{named}
use Rattle.vc_vcp.specs.VcpView.{seen, ends_of, carrier_of, Inputs, IsKept}
use Rattle.vc_vcp.specs.State.{State, IsInput}
use Rattle.vc_vcp.proofs.InputChanges.{inputs_ok, kept-input}
use Rattle.vc_vcp.proofs.KeyedLemmas.{named_has}
use Rattle.vc_vcp.proofs.ListWrites.{same_read, on_err}
use Rattle.vc_vcp.proofs.EndChanges.{with_input, links-input, input_back}
use Rattle.vc_vcp.proofs.Preservation.{wired-input, wired-outs, all-at}
use Rattle.vc_vcp.proofs.vcp.Vcp.want.Goals as goal

pub invariant_of-self : goal.invariant_of-self
invariant_of-self c =
    let x = c.self.inside in
    let o : State = record { outputs = x.outputs.items; inputs = x.inputs.items; outs = x.outs.items; ins = x.ins.items; strays = x.strays } in
    let i = c.in-Some.at in
    let a = c.index_mut.result.now in
    let here = slice_get_read x.inputs.items (length x.inputs.items) i a refl (subst (λ z. i < length z) c.deref.ensures.value c.in-Some.ensures.within) c.index_mut.ensures.value in
    wired-outs (record o { inputs = slice_set x.inputs.items i c.want.new.self }) c.from-link.result c.want.new.queue
    (wired-input o i a c.want.new.self c.self.invariant here c.want.ensures.stays (c.want.ensures.is (all-at IsInput x.inputs.items i a c.self.invariant.inputs here)))

pub returns-clause-inputs : goal.returns-clause-inputs
returns-clause-inputs c =
    let x = c.self.inside in
    let o : State = record { outputs = x.outputs.items; inputs = x.inputs.items; outs = x.outs.items; ins = x.ins.items; strays = x.strays } in
    let own = c.self.invariant.names in
    let i = c.in-Some.at in
    let k = c.from-link.result in
    let a = c.index_mut.result.now in
    let q = c.index_mut-in-Some.result.now in
    let here = slice_get_read x.inputs.items (length x.inputs.items) i a refl (subst (λ z. i < length z) c.deref.ensures.value c.in-Some.ensures.within) c.index_mut.ensures.value in
    let is = all-at IsInput x.inputs.items i a c.self.invariant.inputs here in
    let read = slice_get_read x.inputs.items (length x.inputs.items) i c.index.result.now refl (subst (λ z. i < length z) c.deref.ensures.value c.in-Some.ensures.within) c.index.ensures in
    let along : k ≡ a.link = c.from-link.ensures ∙ ap (λ z. z.link) (same_read x.inputs.items i c.index.result.now a read here) in
    let less : k < 4 = subst (λ z. z < 4) (sym along) is.link in
    let out = slice_get_read x.outs.items 4 k q (sym c.self.invariant.four_out) less c.index_mut-in-Some.ensures.value in
    let found : slice_get x.inputs.items i ≡ named (λ x. x.chan) c.args.chan x.inputs.items = subst (λ z. slice_get z i ≡ named (λ x. x.chan) c.args.chan z) c.deref.ensures.value c.in-Some.ensures.found in
    let asked = subst (λ z. named (λ x. x.chan) c.args.chan z.inputs ≡ Some c.requires.input) (sym c.self.view_is) c.requires.here in
    let same = same_read x.inputs.items i c.requires.input a (found ∙ asked) here in
    let idle = subst (λ z. z.half.wants ≡ false) same c.requires.idle in
    let going = subst (λ z. z.half.stopped ≡ false) same c.requires.not_stopped in
    subst (λ z. IfOk c.want.result (λ w. Inputs (ends_of z) (carrier_of z) c.args.chan w (seen (with_input o i c.want.new.self k c.want.new.queue)).carrier)) c.self.view_is
    (inputs_ok o i k c.args.chan a c.want.new.self q c.want.new.queue c.want.result own here (named_has (λ x. x.chan) c.args.chan x.inputs.items a (sym found ∙ here)) along out idle going is.held c.want.ensures.want c.want.ensures.input c.want.ensures.queue)

pub returns-clause-kept : goal.returns-clause-kept
returns-clause-kept c =
    let x = c.self.inside in
    let o : State = record { outputs = x.outputs.items; inputs = x.inputs.items; outs = x.outs.items; ins = x.ins.items; strays = x.strays } in
    let own = c.self.invariant.names in
    let i = c.in-Some.at in
    let k = c.from-link.result in
    let a = c.index_mut.result.now in
    let q = c.index_mut-in-Some.result.now in
    let here = slice_get_read x.inputs.items (length x.inputs.items) i a refl (subst (λ z. i < length z) c.deref.ensures.value c.in-Some.ensures.within) c.index_mut.ensures.value in
    subst (λ z. IsKept z (with_input o i c.want.new.self k c.want.new.queue)) c.self.view_is
    (kept-input o i k a c.want.new.self c.want.new.queue own here c.want.ensures.stays)

pub returns-clause-links : goal.returns-clause-links
returns-clause-links c =
    let x = c.self.inside in
    let o : State = record { outputs = x.outputs.items; inputs = x.inputs.items; outs = x.outs.items; ins = x.ins.items; strays = x.strays } in
    let i = c.in-Some.at in
    let k = c.from-link.result in
    let q = c.index_mut-in-Some.result.now in
    let read = slice_get_read x.inputs.items (length x.inputs.items) i c.index.result.now refl (subst (λ z. i < length z) c.deref.ensures.value c.in-Some.ensures.within) c.index.ensures in
    let less : k < 4 = subst (λ z. z < 4) (sym c.from-link.ensures) (all-at IsInput x.inputs.items i c.index.result.now c.self.invariant.inputs read).link in
    let out = slice_get_read x.outs.items 4 k q (sym c.self.invariant.four_out) less c.index_mut-in-Some.ensures.value in
    subst (λ z. (seen (with_input o i c.want.new.self k c.want.new.queue)).link ≡ (seen z).link) c.self.view_is
    (links-input o i k c.want.new.self q c.want.new.queue out c.want.ensures.sender)

pub returns-clause-err : goal.returns-clause-err
returns-clause-err c =
    let x = c.self.inside in
    let o : State = record { outputs = x.outputs.items; inputs = x.inputs.items; outs = x.outs.items; ins = x.ins.items; strays = x.strays } in
    let i = c.in-Some.at in
    let a = c.index_mut.result.now in
    let here = slice_get_read x.inputs.items (length x.inputs.items) i a refl (subst (λ z. i < length z) c.deref.ensures.value c.in-Some.ensures.within) c.index_mut.ensures.value in
    let k = c.from-link.result in
    let q = c.index_mut-in-Some.result.now in
    let read = slice_get_read x.inputs.items (length x.inputs.items) i c.index.result.now refl (subst (λ z. i < length z) c.deref.ensures.value c.in-Some.ensures.within) c.index.ensures in
    let less : k < 4 = subst (λ z. z < 4) (sym c.from-link.ensures) (all-at IsInput x.inputs.items i c.index.result.now c.self.invariant.inputs read).link in
    let out = slice_get_read x.outs.items 4 k q (sym c.self.invariant.four_out) less c.index_mut-in-Some.ensures.value in
    subst (λ z. OnErr c.want.result (with_input o i c.want.new.self k c.want.new.queue ≡ z)) c.self.view_is
    (on_err c.want.result (input_back o i k a c.want.new.self q c.want.new.queue here out) c.want.ensures.err c.want.ensures.err_queue)

use Rattle.std.proofs.Common.{◌≡◌, ◌<◌, ◌∙◌, [], false, true, None, Some, slice_get, sym, ap, refl, subst, length}
use Rattle.std.proofs.lemmas.Option.{slice_get_read}
use Rattle.vc_vcp.specs.Names.{named}
use Rattle.vc_vcp.specs.VcpView.{seen, IsKept, taken_of}
use Rattle.vc_vcp.specs.Private.VcpView.{Acks, advance_told}
use Rattle.vc_vcp.specs.State.{State, HaveOwnNames, IsOutput}
use Rattle.vc_vcp.proofs.KeyedLemmas.{named_has}
use Rattle.vc_vcp.proofs.ListWrites.{same_read}
use Rattle.vc_vcp.proofs.EndChanges.{with_output, kept-output, links-output}
use Rattle.vc_vcp.proofs.Strays.{ack_strays, idle_none, idle_some}
use Rattle.vc_vcp.proofs.Takes.{acks_ok}
use Rattle.vc_vcp.proofs.Preservation.{wired-output, all-at}
use Rattle.vc_vcp.proofs.vcp.Vcp.acked.Goals as goal

pub returns-in_default-clause-arrives : goal.returns-in_default-clause-arrives
returns-in_default-clause-arrives c =
    let own = subst (λ z. HaveOwnNames z.outputs z.inputs) c.self.view_is c.self.invariant.names in
    let x = c.self.inside in
    let s = c.args.self.now in
    let none = subst (λ z. named (λ x. x.block) c.args.block z.outputs ≡ None) c.self.view_is
    (subst (λ z. named (λ x. x.block) c.args.block z ≡ None) c.deref.ensures.value c.in_default.ensures.found) in
    ack_strays s c.stray.new.self c.args.block (taken_of c.stray.result) own (idle_none s c.args.block none) c.stray.ensures.stray c.stray.ensures.counted

pub returns-then-is_idle-clause-arrives : goal.returns-then-is_idle-clause-arrives
returns-then-is_idle-clause-arrives c =
    let own = subst (λ z. HaveOwnNames z.outputs z.inputs) c.self.view_is c.self.invariant.names in
    let x = c.self.inside in
    let s = c.args.self.now in
    let i = c.in-Some.at in
    let a = c.index.result.now in
    let within : i < length x.outputs.items = subst (λ z. i < length z) c.deref.ensures.value c.in-Some.ensures.within in
    let here = slice_get_read x.outputs.items (length x.outputs.items) i a refl within c.index.ensures in
    let found : slice_get x.outputs.items i ≡ named (λ x. x.block) c.args.block x.outputs.items = subst (λ z. slice_get z i ≡ named (λ x. x.block) c.args.block z) c.deref.ensures.value c.in-Some.ensures.found in
    let some = subst (λ z. named (λ x. x.block) c.args.block z.outputs ≡ Some a) c.self.view_is (sym found ∙ here) in
    ack_strays s c.stray-then-is_idle.new.self c.args.block (taken_of c.stray-then-is_idle.result) own
    (idle_some s c.args.block a some (c.is_idle.ensures.0 c.if-is_idle.true)) c.stray-then-is_idle.ensures.stray c.stray-then-is_idle.ensures.counted

pub invariant_of-self : goal.invariant_of-self
invariant_of-self c =
    let x = c.self.inside in
    let o : State = record { outputs = x.outputs.items; inputs = x.inputs.items; outs = x.outs.items; ins = x.ins.items; strays = x.strays } in
    let i = c.in-Some.at in
    let a = c.index_mut.result.now in
    let here = slice_get_read x.outputs.items (length x.outputs.items) i a refl (subst (λ z. i < length z) c.deref.ensures.value c.in-Some.ensures.within) c.index_mut.ensures.value in
    wired-output o i c.from-link.result a c.acked.new.self c.acked.new.queue c.self.invariant here c.acked.ensures.stays (c.acked.ensures.is (all-at IsOutput x.outputs.items i a c.self.invariant.outputs here))

pub invariant_of-self-2 : goal.invariant_of-self-2
invariant_of-self-2 c =
    let x = c.self.inside in
    let o : State = record { outputs = x.outputs.items; inputs = x.inputs.items; outs = x.outs.items; ins = x.ins.items; strays = x.strays } in
    let i = c.in-Some.at in
    let a = c.index_mut.result.now in
    let here = slice_get_read x.outputs.items (length x.outputs.items) i a refl (subst (λ z. i < length z) c.deref.ensures.value c.in-Some.ensures.within) c.index_mut.ensures.value in
    wired-output o i c.from-link.result a c.acked.new.self c.acked.new.queue c.self.invariant here c.acked.ensures.stays (c.acked.ensures.is (all-at IsOutput x.outputs.items i a c.self.invariant.outputs here))

pub returns-clause-arrives : goal.returns-clause-arrives
returns-clause-arrives c =
    let x = c.self.inside in
    let o : State = record { outputs = x.outputs.items; inputs = x.inputs.items; outs = x.outs.items; ins = x.ins.items; strays = x.strays } in
    let own = c.self.invariant.names in
    let i = c.in-Some.at in
    let k = c.from-link.result in
    let a = c.index_mut.result.now in
    let q = c.index_mut-2.result.now in
    let within : i < length x.outputs.items = subst (λ z. i < length z) c.deref.ensures.value c.in-Some.ensures.within in
    let here = slice_get_read x.outputs.items (length x.outputs.items) i a refl within c.index_mut.ensures.value in
    let is = all-at IsOutput x.outputs.items i a c.self.invariant.outputs here in
    let one = same_read x.outputs.items i c.index.result.now a (slice_get_read x.outputs.items (length x.outputs.items) i c.index.result.now refl within c.index.ensures) here in
    let two = same_read x.outputs.items i c.index-2.result.now a (slice_get_read x.outputs.items (length x.outputs.items) i c.index-2.result.now refl within c.index-2.ensures) here in
    let three = same_read x.outputs.items i c.index-3.result.now a (slice_get_read x.outputs.items (length x.outputs.items) i c.index-3.result.now refl within c.index-3.ensures) here in
    let along : k ≡ a.link = c.from-link.ensures ∙ ap (λ z. z.link) two in
    let less : k < 4 = subst (λ z. z < 4) (sym along) is.link in
    let out = slice_get_read x.outs.items 4 k q (sym c.self.invariant.four_out) less c.index_mut-2.ensures.value in
    let found : slice_get x.outputs.items i ≡ named (λ x. x.block) c.args.block x.outputs.items = subst (λ z. slice_get z i ≡ named (λ x. x.block) c.args.block z) c.deref.ensures.value c.in-Some.ensures.found in
    let e = c.in_ok-advance.ensures in
    let busy = λ (none : a.half.unacked ≡ []). (let t : c.is_idle.result ≡ true = c.is_idle.ensures.1 (ap (λ z. z.half.unacked) one ∙ none) in let f : c.is_idle.result ≡ false = c.if-is_idle.false in absurd (cc)) in
    subst (λ z. Acks z c.args.block (taken_of c.of_advance.result) (with_output o i c.acked.new.self k c.acked.new.queue)) c.self.view_is
    (acks_ok o i k c.args.block a c.acked.new.self q c.acked.new.queue c.in_ok-advance.advance (taken_of c.of_advance.result) own here (named_has (λ x. x.block) c.args.block x.outputs.items a (sym found ∙ here)) along out busy is.offered e.advance e.output e.queue
    (c.of_advance.ensures ∙ ap (λ z. advance_told z.chan c.in_ok-advance.advance) three))

pub returns-clause-links : goal.returns-clause-links
returns-clause-links c =
    let x = c.self.inside in
    let o : State = record { outputs = x.outputs.items; inputs = x.inputs.items; outs = x.outs.items; ins = x.ins.items; strays = x.strays } in
    let i = c.in-Some.at in
    let k = c.from-link.result in
    let a = c.index-2.result.now in
    let q = c.index_mut-2.result.now in
    let within : i < length x.outputs.items = subst (λ z. i < length z) c.deref.ensures.value c.in-Some.ensures.within in
    let here = slice_get_read x.outputs.items (length x.outputs.items) i a refl within c.index-2.ensures in
    let less : k < 4 = subst (λ z. z < 4) (sym c.from-link.ensures) (all-at IsOutput x.outputs.items i a c.self.invariant.outputs here).link in
    let out = slice_get_read x.outs.items 4 k q (sym c.self.invariant.four_out) less c.index_mut-2.ensures.value in
    subst (λ z. (seen (with_output o i c.acked.new.self k c.acked.new.queue)).link ≡ (seen z).link) c.self.view_is
    (links-output o i k c.acked.new.self q c.acked.new.queue out c.acked.ensures.sender)

pub returns-clause-kept : goal.returns-clause-kept
returns-clause-kept c =
    let x = c.self.inside in
    let o : State = record { outputs = x.outputs.items; inputs = x.inputs.items; outs = x.outs.items; ins = x.ins.items; strays = x.strays } in
    let own = c.self.invariant.names in
    let i = c.in-Some.at in
    let a = c.index_mut.result.now in
    let here = slice_get_read x.outputs.items (length x.outputs.items) i a refl (subst (λ z. i < length z) c.deref.ensures.value c.in-Some.ensures.within) c.index_mut.ensures.value in
    subst (λ z. IsKept z (with_output o i c.acked.new.self c.from-link.result c.acked.new.queue)) c.self.view_is
    (kept-output o i c.from-link.result a c.acked.new.self c.acked.new.queue own here c.acked.ensures.stays)

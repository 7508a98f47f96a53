use Rattle.std.proofs.Common.{◌≡◌, ◌<◌, false, Some, slice_get, slice_set, refl, sym, ◌∙◌, subst, length}
use Rattle.std.proofs.lemmas.Option.{slice_get_read}
use Rattle.vc_vcp.specs.declared.input.Input.{Input}
use Rattle.vc_vcp.specs.Names.{named}
use Rattle.vc_vcp.specs.VcpView.{seen, ends_of, carrier_of, IsKept}
use Rattle.vc_vcp.specs.Steps.{Stops}
use Rattle.vc_vcp.specs.State.{State, IsInput}
use Rattle.vc_vcp.proofs.KeyedLemmas.{named_has}
use Rattle.vc_vcp.proofs.ListWrites.{same_read}
use Rattle.vc_vcp.proofs.Stops.{stops, kept-stop}
use Rattle.vc_vcp.proofs.Preservation.{wired-input, stopped_input, all-at}
use Rattle.vc_vcp.proofs.vcp.Vcp.stopch.Goals as goal

pub invariant_of-self : goal.invariant_of-self
invariant_of-self c =
    let x = c.self.inside in
    let o : State = record { outputs = x.outputs.items; inputs = x.inputs.items; outs = x.outs.items; ins = x.ins.items; strays = x.strays } in
    let i = c.in-Some.at in
    let a = c.index_mut.result.now in
    let here = slice_get_read x.inputs.items (length x.inputs.items) i a refl (subst (λ z. i < length z) c.deref.ensures.value c.in-Some.ensures.within) c.index_mut.ensures.value in
    wired-input o i a (record a { half = c.stop.new.self }) c.self.invariant here (record { chan = refl; link = refl; block = refl; route = refl })
    (stopped_input a c.stop.new.self c.stop.ensures (all-at IsInput x.inputs.items i a c.self.invariant.inputs here))

pub returns-clause-stops : goal.returns-clause-stops
returns-clause-stops c =
    let x = c.self.inside in
    let o : State = record { outputs = x.outputs.items; inputs = x.inputs.items; outs = x.outs.items; ins = x.ins.items; strays = x.strays } in
    let own = c.self.invariant.names in
    let i = c.in-Some.at in
    let a = c.index_mut.result.now in
    let new : Input = record a { half = c.stop.new.self } in
    let here = slice_get_read x.inputs.items (length x.inputs.items) i a refl (subst (λ z. i < length z) c.deref.ensures.value c.in-Some.ensures.within) c.index_mut.ensures.value in
    let found : slice_get x.inputs.items i ≡ named (λ x. x.chan) c.args.chan x.inputs.items = subst (λ z. slice_get z i ≡ named (λ x. x.chan) c.args.chan z) c.deref.ensures.value c.in-Some.ensures.found in
    let asked = subst (λ z. named (λ x. x.chan) c.args.chan z.inputs ≡ Some c.requires.input) (sym c.self.view_is) c.requires.here in
    let idle = subst (λ z. z.half.wants ≡ false) (same_read x.inputs.items i c.requires.input a (found ∙ asked) here) c.requires.idle in
    subst (λ z. Stops (ends_of z) (carrier_of z) c.args.chan (seen (record o { inputs = slice_set x.inputs.items i new })).carrier) c.self.view_is
    (stops o i c.args.chan a new own here (named_has (λ x. x.chan) c.args.chan x.inputs.items a (sym found ∙ here)) idle (λ t. record a { half = c.stop.ensures t }))

pub returns-clause-kept : goal.returns-clause-kept
returns-clause-kept c =
    let x = c.self.inside in
    let o : State = record { outputs = x.outputs.items; inputs = x.inputs.items; outs = x.outs.items; ins = x.ins.items; strays = x.strays } in
    let own = c.self.invariant.names in
    let i = c.in-Some.at in
    let a = c.index_mut.result.now in
    let new : Input = record a { half = c.stop.new.self } in
    let here = slice_get_read x.inputs.items (length x.inputs.items) i a refl (subst (λ z. i < length z) c.deref.ensures.value c.in-Some.ensures.within) c.index_mut.ensures.value in
    subst (λ z. IsKept z (record o { inputs = slice_set x.inputs.items i new })) c.self.view_is
    (kept-stop o i a new own here (record { chan = refl; link = refl; block = refl; route = refl }))

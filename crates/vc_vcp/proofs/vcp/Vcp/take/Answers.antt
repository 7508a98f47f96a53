use Rattle.std.proofs.Common.{◌≡◌, arith, subst, length}
use Rattle.vc_vcp.specs.Private.Bound.{IsStray, with_inputs}
use Rattle.vc_vcp.specs.VcpView.{ends_of, seen, carrier_of, IsKept, taken_of}
use Rattle.vc_vcp.specs.State.{State, IsAckOf}
use Rattle.vc_vcp.specs.Steps.{Arrives}
use Rattle.vc_vcp.proofs.ArrivalChanges.{written, stays-written, arrives-written}
use Rattle.vc_vcp.proofs.ListWrites.{if_ok}
use Rattle.vc_vcp.proofs.Strays.{stray_is}
use Rattle.vc_vcp.proofs.vcp.Vcp.take.Goals as goal

pub invariant_of-self : goal.invariant_of-self
invariant_of-self c =
    let x = c.self.inside in
    let o : State = record { outputs = x.outputs.items; inputs = x.inputs.items; outs = x.outs.items; ins = x.ins.items; strays = x.strays } in
    let inputs : length c.arrive.new.inputs ≡ x.inputs.len = omega arith in
    let outs : length c.arrive.new.outs ≡ x.outs.len = omega arith in
    (stays-written o c.deref_mut.result.now c.deref_mut-in-Input.result.now c.arrive.new.inputs c.arrive.new.outs x.inputs.len x.outs.len c.deref_mut.ensures.value c.deref_mut-in-Input.ensures.value inputs outs c.self.invariant c.arrive.ensures.stays).wired

pub returns-in-Output-clause-arrives : goal.returns-in-Output-clause-arrives
returns-in-Output-clause-arrives c =
    let packet : record { body = c.as_slice-body.result.now; mark = c.args.packet.now.mark } ≡ c.args.packet.now = λ j. record { body = c.as_slice-body.ensures j; mark = c.args.packet.now.mark } in
    if_ok c.acked.result (λ t acks. acks c.args.packet.now (subst (λ p. IsAckOf c.in-Output.block p) packet c.in-Output.ensures)) c.acked.ensures.arrives

pub returns-in-Input-clause-arrives : goal.returns-in-Input-clause-arrives
returns-in-Input-clause-arrives c =
    let x = c.self.inside in
    let o : State = record { outputs = x.outputs.items; inputs = x.inputs.items; outs = x.outs.items; ins = x.ins.items; strays = x.strays } in
    let inputs : length c.arrive.new.inputs ≡ x.inputs.len = omega arith in
    let outs : length c.arrive.new.outs ≡ x.outs.len = omega arith in
    let new : State = with_inputs o (written x.inputs.items c.arrive.new.inputs x.inputs.len) (written x.outs.items c.arrive.new.outs x.outs.len) in
    if_ok c.arrive.result (λ t arrives. subst (λ z. Arrives (ends_of z) (carrier_of z) c.args.packet.now (taken_of t) (carrier_of new)) c.self.view_is
    (arrives-written o c.deref_mut.result.now c.deref_mut-in-Input.result.now c.arrive.new.inputs c.arrive.new.outs x.inputs.len x.outs.len c.as_slice-body.result.now c.args.packet.now (taken_of t) c.deref_mut.ensures.value c.deref_mut-in-Input.ensures.value inputs outs c.self.invariant
    c.as_slice-body.ensures arrives)) c.arrive.ensures.arrives

pub returns-in-Input-clause-links : goal.returns-in-Input-clause-links
returns-in-Input-clause-links c =
    let x = c.self.inside in
    let o : State = record { outputs = x.outputs.items; inputs = x.inputs.items; outs = x.outs.items; ins = x.ins.items; strays = x.strays } in
    let inputs : length c.arrive.new.inputs ≡ x.inputs.len = omega arith in
    let outs : length c.arrive.new.outs ≡ x.outs.len = omega arith in
    let new : State = with_inputs o (written x.inputs.items c.arrive.new.inputs x.inputs.len) (written x.outs.items c.arrive.new.outs x.outs.len) in
    subst (λ z. (seen new).link ≡ (seen z).link) c.self.view_is (stays-written o c.deref_mut.result.now c.deref_mut-in-Input.result.now c.arrive.new.inputs c.arrive.new.outs x.inputs.len x.outs.len c.deref_mut.ensures.value c.deref_mut-in-Input.ensures.value inputs outs c.self.invariant c.arrive.ensures.stays).links

pub returns-in-Input-clause-kept : goal.returns-in-Input-clause-kept
returns-in-Input-clause-kept c =
    let x = c.self.inside in
    let o : State = record { outputs = x.outputs.items; inputs = x.inputs.items; outs = x.outs.items; ins = x.ins.items; strays = x.strays } in
    let inputs : length c.arrive.new.inputs ≡ x.inputs.len = omega arith in
    let outs : length c.arrive.new.outs ≡ x.outs.len = omega arith in
    let new : State = with_inputs o (written x.inputs.items c.arrive.new.inputs x.inputs.len) (written x.outs.items c.arrive.new.outs x.outs.len) in
    subst (λ z. IsKept z new) c.self.view_is (stays-written o c.deref_mut.result.now c.deref_mut-in-Input.result.now c.arrive.new.inputs c.arrive.new.outs x.inputs.len x.outs.len c.deref_mut.ensures.value c.deref_mut-in-Input.ensures.value inputs outs c.self.invariant c.arrive.ensures.stays).kept

pub returns-in-Nowhere-clause-arrives : goal.returns-in-Nowhere-clause-arrives
returns-in-Nowhere-clause-arrives c =
    let packet : record { body = c.as_slice-body.result.now; mark = c.args.packet.now.mark } ≡ c.args.packet.now = λ j. record { body = c.as_slice-body.ensures j; mark = c.args.packet.now.mark } in
    stray_is c.args.self.now c.stray.new.self c.args.packet.now (taken_of c.stray.result) (subst (λ p. IsStray c.args.self.now p) packet c.in-Nowhere.ensures) c.stray.ensures.stray c.stray.ensures.counted

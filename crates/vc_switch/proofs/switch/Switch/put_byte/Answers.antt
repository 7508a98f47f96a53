use Rattle.std.proofs.Common.{◌≡◌, ◌<◌, sym, ap, ◌∙◌, subst, arith, slice_get, slice_set, length, Some, ◌+◌}
use Rattle.std.proofs.lemmas.Option.{slice_get_read, slice_get_within}
use Rattle.vc_switch.specs.State.{State, IsSwitch, plan_of, output_of, source_at}
use Rattle.vc_switch.specs.SwitchView.{seen}
use Rattle.vc_switch.specs.Private.SwitchView.{IsBoundTo}
use Rattle.vc_tokens.specs.Tokens.{Byte}
use Rattle.vc_switch.specs.Able.{CanPut}
use Rattle.vc_switch.specs.Waiting.{Wormhole}
use Rattle.vc_switch.specs.Switch.{Sends}
use Rattle.vc_switch.proofs.ListWrites.{read_there}
use Rattle.vc_switch.proofs.Preservation.{switch_two}
use Rattle.vc_switch.proofs.Puts.{sends_byte, link_advanced, can_there}
use Rattle.vc_switch.proofs.switch.Switch.put_byte.Goals as goal

pub advance-requires-clause-within : goal.advance-requires-clause-within
advance-requires-clause-within c =
    let x = c.self.inside in
    let s = c.args.self.now in
    let o : State = record { table = x.table; ranges = x.ranges.items; deletes = x.deletes.items; inputs = x.inputs.items; outputs = x.outputs.items; lost = x.lost } in
    let v : o ≡ s = c.self.view_is in
    let w : IsSwitch o = c.self.invariant in
    let k = c.from.result in
    let u = c.requires.bound in
    let here_k : slice_get x.inputs.items k ≡ Some u.input = subst (λ l. slice_get x.inputs.items l ≡ Some u.input) (sym c.from.ensures) (subst (λ z. slice_get z.inputs c.args.source ≡ Some u.input) (sym v) u.here) in
    let a = c.index_mut.result.now in
    let same : u.input ≡ a = read_there x.inputs.items k u.input a here_k c.index_mut.ensures.value in
    let next : slice_get a.got.passed (c.args.bound.from + c.args.bound.sent) ≡ Some c.args.byte = c.requires.next a (u.here ∙ ap Some same) in
    let less : c.args.bound.from + c.args.bound.sent < length a.got.passed = slice_get_within a.got.passed (c.args.bound.from + c.args.bound.sent) c.args.byte next in
    less

pub spend-requires : goal.spend-requires
spend-requires c =
    let x = c.self.inside in
    let s = c.args.self.now in
    let o : State = record { table = x.table; ranges = x.ranges.items; deletes = x.deletes.items; inputs = x.inputs.items; outputs = x.outputs.items; lost = x.lost } in
    let v : o ≡ s = c.self.view_is in
    let w : IsSwitch o = c.self.invariant in
    let k = c.from.result in
    let u = c.requires.bound in
    let here_k : slice_get x.inputs.items k ≡ Some u.input = subst (λ l. slice_get x.inputs.items l ≡ Some u.input) (sym c.from.ensures) (subst (λ z. slice_get z.inputs c.args.source ≡ Some u.input) (sym v) u.here) in
    let a = c.index_mut.result.now in
    let same : u.input ≡ a = read_there x.inputs.items k u.input a here_k c.index_mut.ensures.value in
    let next : slice_get a.got.passed (c.args.bound.from + c.args.bound.sent) ≡ Some c.args.byte = c.requires.next a (u.here ∙ ap Some same) in
    let less : c.args.bound.from + c.args.bound.sent < length a.got.passed = slice_get_within a.got.passed (c.args.bound.from + c.args.bound.sent) c.args.byte next in
    let j = c.from-2.result in
    let low : j < 32 = omega arith in
    let p = c.index_mut-2.result.now in
    let there = slice_get_read x.outputs.items 32 j p (sym c.self.invariant.output_links) low c.index_mut-2.ensures.value in
    let source : source_at x.outputs.items j ≡ Some k = subst (λ i. source_at x.outputs.items i ≡ Some k) (sym c.from-2.ensures) (subst (λ z. source_at z.outputs c.args.output ≡ Some k) (sym v) (u.source ∙ ap Some (sym c.from.ensures))) in
    let t : IsBoundTo o j k c.args.bound = record { input = a; here = here_k ∙ ap Some same; bound = subst (λ z. z.bound ≡ Some c.args.bound) same u.bound; source = source } in
    let may : CanPut (plan_of o) (seen o) j = subst (CanPut (plan_of o) (seen o)) (sym c.from-2.ensures) (subst (λ z. CanPut (plan_of z) (seen z) c.args.output) (sym v) c.requires.may) in
    let credit : 0 < p.credit = (can_there o j k c.args.bound p w t there may).0 in
    credit

pub invariant_of-self : goal.invariant_of-self
invariant_of-self c =
    let x = c.self.inside in
    let s = c.args.self.now in
    let o : State = record { table = x.table; ranges = x.ranges.items; deletes = x.deletes.items; inputs = x.inputs.items; outputs = x.outputs.items; lost = x.lost } in
    let v : o ≡ s = c.self.view_is in
    let w : IsSwitch o = c.self.invariant in
    let k = c.from.result in
    let u = c.requires.bound in
    let here_k : slice_get x.inputs.items k ≡ Some u.input = subst (λ l. slice_get x.inputs.items l ≡ Some u.input) (sym c.from.ensures) (subst (λ z. slice_get z.inputs c.args.source ≡ Some u.input) (sym v) u.here) in
    let a = c.index_mut.result.now in
    let same : u.input ≡ a = read_there x.inputs.items k u.input a here_k c.index_mut.ensures.value in
    let next : slice_get a.got.passed (c.args.bound.from + c.args.bound.sent) ≡ Some c.args.byte = c.requires.next a (u.here ∙ ap Some same) in
    let less : c.args.bound.from + c.args.bound.sent < length a.got.passed = slice_get_within a.got.passed (c.args.bound.from + c.args.bound.sent) c.args.byte next in
    let j = c.from-2.result in
    let low : j < 32 = omega arith in
    let p = c.index_mut-2.result.now in
    let there = slice_get_read x.outputs.items 32 j p (sym c.self.invariant.output_links) low c.index_mut-2.ensures.value in
    let source : source_at x.outputs.items j ≡ Some k = subst (λ i. source_at x.outputs.items i ≡ Some k) (sym c.from-2.ensures) (subst (λ z. source_at z.outputs c.args.output ≡ Some k) (sym v) (u.source ∙ ap Some (sym c.from.ensures))) in
    let t : IsBoundTo o j k c.args.bound = record { input = a; here = here_k ∙ ap Some same; bound = subst (λ z. z.bound ≡ Some c.args.bound) same u.bound; source = source } in
    let may : CanPut (plan_of o) (seen o) j = subst (CanPut (plan_of o) (seen o)) (sym c.from-2.ensures) (subst (λ z. CanPut (plan_of z) (seen z) c.args.output) (sym v) c.requires.may) in
    let credit : 0 < p.credit = (can_there o j k c.args.bound p w t there may).0 in
    switch_two o k j x.lost a c.advance.new.self p c.spend.new.self w t.here (link_advanced o j k c.args.bound c.advance.new.self w t less c.advance.ensures)
    (ap (λ z. output_of z.bound) c.advance.ensures ∙ sym (ap output_of t.bound)) there (ap (λ z. z.source) c.spend.ensures)

pub returns-clause-sends : goal.returns-clause-sends
returns-clause-sends c =
    let x = c.self.inside in
    let s = c.args.self.now in
    let o : State = record { table = x.table; ranges = x.ranges.items; deletes = x.deletes.items; inputs = x.inputs.items; outputs = x.outputs.items; lost = x.lost } in
    let v : o ≡ s = c.self.view_is in
    let w : IsSwitch o = c.self.invariant in
    let k = c.from.result in
    let u = c.requires.bound in
    let here_k : slice_get x.inputs.items k ≡ Some u.input = subst (λ l. slice_get x.inputs.items l ≡ Some u.input) (sym c.from.ensures) (subst (λ z. slice_get z.inputs c.args.source ≡ Some u.input) (sym v) u.here) in
    let a = c.index_mut.result.now in
    let same : u.input ≡ a = read_there x.inputs.items k u.input a here_k c.index_mut.ensures.value in
    let next : slice_get a.got.passed (c.args.bound.from + c.args.bound.sent) ≡ Some c.args.byte = c.requires.next a (u.here ∙ ap Some same) in
    let less : c.args.bound.from + c.args.bound.sent < length a.got.passed = slice_get_within a.got.passed (c.args.bound.from + c.args.bound.sent) c.args.byte next in
    let j = c.from-2.result in
    let low : j < 32 = omega arith in
    let p = c.index_mut-2.result.now in
    let there = slice_get_read x.outputs.items 32 j p (sym c.self.invariant.output_links) low c.index_mut-2.ensures.value in
    let source : source_at x.outputs.items j ≡ Some k = subst (λ i. source_at x.outputs.items i ≡ Some k) (sym c.from-2.ensures) (subst (λ z. source_at z.outputs c.args.output ≡ Some k) (sym v) (u.source ∙ ap Some (sym c.from.ensures))) in
    let t : IsBoundTo o j k c.args.bound = record { input = a; here = here_k ∙ ap Some same; bound = subst (λ z. z.bound ≡ Some c.args.bound) same u.bound; source = source } in
    let may : CanPut (plan_of o) (seen o) j = subst (CanPut (plan_of o) (seen o)) (sym c.from-2.ensures) (subst (λ z. CanPut (plan_of z) (seen z) c.args.output) (sym v) c.requires.may) in
    let credit : 0 < p.credit = (can_there o j k c.args.bound p w t there may).0 in
    let new : State = record o { inputs = slice_set x.inputs.items k c.advance.new.self; outputs = slice_set x.outputs.items j c.spend.new.self } in
    subst (λ z. Sends (plan_of z) Wormhole (seen z) c.args.output (Byte c.args.byte) (seen new)) v
    (subst (λ i. Sends (plan_of o) Wormhole (seen o) i (Byte c.args.byte) (seen new)) c.from-2.ensures
    (sends_byte o j k c.args.byte c.args.bound p c.spend.new.self c.advance.new.self w t there credit next c.advance.ensures c.spend.ensures))

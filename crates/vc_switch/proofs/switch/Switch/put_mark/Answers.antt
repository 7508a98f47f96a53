use Rattle.std.proofs.Common.{◌≡◌, ◌<◌, sym, ap, ◌∙◌, subst, arith, true, false, slice_get, slice_set, length, Some, None, ◌+◌}
use Rattle.std.proofs.lemmas.Option.{slice_get_read}
use Rattle.vc_tokens.specs.CodeTokens.{token}
use Rattle.vc_switch.specs.State.{State, IsSwitch, plan_of, source_at}
use Rattle.vc_switch.specs.SwitchView.{seen}
use Rattle.vc_switch.specs.Private.SwitchView.{IsBoundTo}
use Rattle.vc_switch.specs.Able.{CanPut}
use Rattle.vc_switch.specs.Waiting.{Wormhole}
use Rattle.vc_switch.specs.Switch.{Sends}
use Rattle.vc_switch.proofs.ListWrites.{read_there, some_at}
use Rattle.vc_switch.proofs.Puts.{sends_mark, switch_freed, can_there, nothing_next}
use Rattle.vc_switch.proofs.switch.Switch.put_mark.Goals as goal

pub unreachable-requires : goal.unreachable-requires
unreachable-requires c =
    let x = c.self.inside in
    let s = c.args.self.now in
    let o : State = record { table = x.table; ranges = x.ranges.items; deletes = x.deletes.items; inputs = x.inputs.items; outputs = x.outputs.items; lost = x.lost } in
    let v : o ≡ s = c.self.view_is in
    let w : IsSwitch o = c.self.invariant in
    let k = c.from-at.result in
    let u = c.requires.bound in
    let here_k : slice_get x.inputs.items k ≡ Some u.input = subst (λ l. slice_get x.inputs.items l ≡ Some u.input) (sym c.from-at.ensures) (subst (λ z. slice_get z.inputs c.args.source ≡ Some u.input) (sym v) u.here) in
    let read : u.input ≡ c.index.result.now = read_there x.inputs.items k u.input c.index.result.now here_k c.index.ensures in
    let ws = subst IsSwitch v w in
    let within : c.args.output < length s.outputs = subst (λ n. c.args.output < n) (sym ws.output_links) c.requires.output in
    let p = some_at s.outputs c.args.output within in
    let has = (can_there s c.args.output c.args.source c.args.bound p.0 ws u p.1 c.requires.may).1 in
    let none = nothing_next u.input c.args.bound (c.requires.next u.input u.here) (ap (λ z. z.mark) read ∙ c.in-None.is) in
    let q : true ≡ false = sym has ∙ none in
    absurd (cc)

pub invariant_of-self : goal.invariant_of-self
invariant_of-self c =
    let x = c.self.inside in
    let s = c.args.self.now in
    let o : State = record { table = x.table; ranges = x.ranges.items; deletes = x.deletes.items; inputs = x.inputs.items; outputs = x.outputs.items; lost = x.lost } in
    let v : o ≡ s = c.self.view_is in
    let w : IsSwitch o = c.self.invariant in
    let k = c.from-at.result in
    let u = c.requires.bound in
    let here_k : slice_get x.inputs.items k ≡ Some u.input = subst (λ l. slice_get x.inputs.items l ≡ Some u.input) (sym c.from-at.ensures) (subst (λ z. slice_get z.inputs c.args.source ≡ Some u.input) (sym v) u.here) in
    let read : u.input ≡ c.index.result.now = read_there x.inputs.items k u.input c.index.result.now here_k c.index.ensures in
    let a = c.index_mut.result.now in
    let same : u.input ≡ a = read_there x.inputs.items k u.input a here_k c.index_mut.ensures.value in
    let next : slice_get a.got.passed (c.args.bound.from + c.args.bound.sent) ≡ None = c.requires.next a (u.here ∙ ap Some same) in
    let mark : a.mark ≡ Some c.in-Some.mark = ap (λ z. z.mark) (sym same ∙ read) ∙ c.in-Some.is in
    let j = c.from.result in
    let low : j < 32 = omega arith in
    let p = c.index_mut-in-Some.result.now in
    let there = slice_get_read x.outputs.items 32 j p (sym c.self.invariant.output_links) low c.index_mut-in-Some.ensures.value in
    let source : source_at x.outputs.items j ≡ Some k = subst (λ i. source_at x.outputs.items i ≡ Some k) (sym c.from.ensures) (subst (λ z. source_at z.outputs c.args.output ≡ Some k) (sym v) (u.source ∙ ap Some (sym c.from-at.ensures))) in
    let t : IsBoundTo o j k c.args.bound = record { input = a; here = here_k ∙ ap Some same; bound = subst (λ z. z.bound ≡ Some c.args.bound) same u.bound; source = source } in
    let may : CanPut (plan_of o) (seen o) j = subst (CanPut (plan_of o) (seen o)) (sym c.from.ensures) (subst (λ z. CanPut (plan_of z) (seen z) c.args.output) (sym v) c.requires.may) in
    let credit : 0 < p.credit = (can_there o j k c.args.bound p w t there may).0 in
    switch_freed o j k c.args.bound p c.release-in-Some.new.self c.release.new.self w t there c.release.ensures c.release-in-Some.ensures

pub returns-clause-sends : goal.returns-clause-sends
returns-clause-sends c =
    let x = c.self.inside in
    let s = c.args.self.now in
    let o : State = record { table = x.table; ranges = x.ranges.items; deletes = x.deletes.items; inputs = x.inputs.items; outputs = x.outputs.items; lost = x.lost } in
    let v : o ≡ s = c.self.view_is in
    let w : IsSwitch o = c.self.invariant in
    let k = c.from-at.result in
    let u = c.requires.bound in
    let here_k : slice_get x.inputs.items k ≡ Some u.input = subst (λ l. slice_get x.inputs.items l ≡ Some u.input) (sym c.from-at.ensures) (subst (λ z. slice_get z.inputs c.args.source ≡ Some u.input) (sym v) u.here) in
    let read : u.input ≡ c.index.result.now = read_there x.inputs.items k u.input c.index.result.now here_k c.index.ensures in
    let a = c.index_mut.result.now in
    let same : u.input ≡ a = read_there x.inputs.items k u.input a here_k c.index_mut.ensures.value in
    let next : slice_get a.got.passed (c.args.bound.from + c.args.bound.sent) ≡ None = c.requires.next a (u.here ∙ ap Some same) in
    let mark : a.mark ≡ Some c.in-Some.mark = ap (λ z. z.mark) (sym same ∙ read) ∙ c.in-Some.is in
    let j = c.from.result in
    let low : j < 32 = omega arith in
    let p = c.index_mut-in-Some.result.now in
    let there = slice_get_read x.outputs.items 32 j p (sym c.self.invariant.output_links) low c.index_mut-in-Some.ensures.value in
    let source : source_at x.outputs.items j ≡ Some k = subst (λ i. source_at x.outputs.items i ≡ Some k) (sym c.from.ensures) (subst (λ z. source_at z.outputs c.args.output ≡ Some k) (sym v) (u.source ∙ ap Some (sym c.from-at.ensures))) in
    let t : IsBoundTo o j k c.args.bound = record { input = a; here = here_k ∙ ap Some same; bound = subst (λ z. z.bound ≡ Some c.args.bound) same u.bound; source = source } in
    let may : CanPut (plan_of o) (seen o) j = subst (CanPut (plan_of o) (seen o)) (sym c.from.ensures) (subst (λ z. CanPut (plan_of z) (seen z) c.args.output) (sym v) c.requires.may) in
    let credit : 0 < p.credit = (can_there o j k c.args.bound p w t there may).0 in
    let new : State = record o { inputs = slice_set x.inputs.items k c.release.new.self; outputs = slice_set x.outputs.items j c.release-in-Some.new.self } in
    let m = token c.from-in-Some.result in
    subst (λ z. Sends (plan_of z) Wormhole (seen z) c.args.output m (seen new)) v
    (subst (λ i. Sends (plan_of o) Wormhole (seen o) i m (seen new)) c.from.ensures
    (sends_mark o j k c.in-Some.mark m c.args.bound p c.release-in-Some.new.self c.release.new.self w t there credit next mark c.from-in-Some.ensures c.release.ensures c.release-in-Some.ensures))

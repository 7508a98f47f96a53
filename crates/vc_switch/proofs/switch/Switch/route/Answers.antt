use Rattle.std.proofs.Common.{◌≡◌, ◌<◌, ◌≤◌, sym, ap, ◌∙◌, subst, arith, false, slice_set, length, Some, ◌+◌}
use Rattle.std.proofs.lemmas.Option.{slice_get_read}
use Rattle.vc_switch.specs.State.{State, IsSwitch, plan_of}
use Rattle.vc_packets.specs.Functions.{shown_or}
use Rattle.vc_switch.specs.SwitchView.{seen}
use Rattle.vc_switch.proofs.ListWrites.{same_read}
use Rattle.vc_switch.specs.Able.{CanRoute}
use Rattle.vc_switch.specs.Waiting.{Wormhole}
use Rattle.vc_switch.specs.Switch.{Routes}
use Rattle.vc_switch.specs.Front.{front_of}
use Rattle.vc_switch.specs.Private.Front.{start_of}
use Rattle.vc_switch.proofs.Routes.{under_way, switch_routed, routes, choices_none, route_leaves}
use Rattle.vc_switch.proofs.switch.Switch.route.Goals as goal

pub unreachable-requires : goal.unreachable-requires
unreachable-requires c =
    let x = c.self.inside in
    let s = c.args.self.now in
    let o : State = record { table = x.table; ranges = x.ranges.items; deletes = x.deletes.items; inputs = x.inputs.items; outputs = x.outputs.items; lost = x.lost } in
    let v : o ≡ s = c.self.view_is in
    let w : IsSwitch o = c.self.invariant in
    let k = c.from-at.result in
    let within : k < 32 = omega arith in
    let a = c.index.result.now in
    let reads = slice_get_read x.inputs.items 32 k a (sym c.self.invariant.input_links) within c.index.ensures in
    let got = c.find_front.ensures.front ∙ ap (front_of x.table) c.bytes.ensures in
    let may : CanRoute (plan_of o) (seen o) k c.args.output = subst (λ l. CanRoute (plan_of o) (seen o) l c.args.output) (sym c.from-at.ensures) (subst (λ z. CanRoute (plan_of z) (seen z) c.args.input c.args.output) (sym v) c.requires.may) in
    choices_none o k a reads (sym got ∙ c.in-None.is) c.args.output (route_leaves (plan_of o) (seen o) k c.args.output may)

pub invariant_of-self : goal.invariant_of-self
invariant_of-self c =
    let x = c.self.inside in
    let s = c.args.self.now in
    let o : State = record { table = x.table; ranges = x.ranges.items; deletes = x.deletes.items; inputs = x.inputs.items; outputs = x.outputs.items; lost = x.lost } in
    let v : o ≡ s = c.self.view_is in
    let w : IsSwitch o = c.self.invariant in
    let k = c.from-at.result in
    let within : k < 32 = omega arith in
    let a = c.index.result.now in
    let reads = slice_get_read x.inputs.items 32 k a (sym c.self.invariant.input_links) within c.index.ensures in
    let got = c.find_front.ensures.front ∙ ap (front_of x.table) c.bytes.ensures in
    let may : CanRoute (plan_of o) (seen o) k c.args.output = subst (λ l. CanRoute (plan_of o) (seen o) l c.args.output) (sym c.from-at.ensures) (subst (λ z. CanRoute (plan_of z) (seen z) c.args.input c.args.output) (sym v) c.requires.may) in
    let j = c.from-out.result in
    let less : j < 32 = omega arith in
    let may_j : CanRoute (plan_of o) (seen o) k j = subst (CanRoute (plan_of o) (seen o) k) (sym c.from-out.ensures) may in
    let b = c.index_mut.result.now in
    let here = slice_get_read x.inputs.items 32 k b (sym c.self.invariant.input_links) within c.index_mut.ensures.value in
    let p = c.index_mut-in-Some.result.now in
    let there = slice_get_read x.outputs.items 32 j p (sym c.self.invariant.output_links) less c.index_mut-in-Some.ensures.value in
    let f = c.in-Some.front in
    let d = c.index-in-Some.result.now in
    let delete = slice_get_read x.deletes.items 32 j d (sym c.self.invariant.delete_links) less c.index-in-Some.ensures in
    let e = same_read x.inputs.items k a b reads here in
    let front : front_of x.table b.got.passed ≡ Some f = ap (λ z. front_of x.table z.got.passed) (sym e) ∙ sym got ∙ c.in-Some.is in
    let long : f.at + 2 ≤ length b.got.passed = subst (λ z. f.at + 2 ≤ length z.got.passed) e (subst (λ z. f.at + 2 ≤ length z) c.bytes.ensures c.in-Some.ensures.within) in
    let is : c.bind.new.self ≡ record b { bound = Some (record { output = j; from = start_of d f; sent = 0 }) } = c.bind.ensures ∙ (λ t. record b { bound = Some (record { output = sym c.from-out.ensures t; from = c.leaves_from-from.ensures t; sent = 0 }) }) in
    let source : c.bind-in-Some.new.self ≡ record p { source = Some k } = c.bind-in-Some.ensures ∙ (λ t. record p { source = Some (sym c.from-at.ensures t) }) in
    switch_routed o k j (start_of d f) b c.bind.new.self p c.bind-in-Some.new.self w here there may_j (under_way o k j b f d here front (ap (shown_or false (λ z. z)) delete) long may_j) is source

pub returns-clause-routes : goal.returns-clause-routes
returns-clause-routes c =
    let x = c.self.inside in
    let s = c.args.self.now in
    let o : State = record { table = x.table; ranges = x.ranges.items; deletes = x.deletes.items; inputs = x.inputs.items; outputs = x.outputs.items; lost = x.lost } in
    let v : o ≡ s = c.self.view_is in
    let w : IsSwitch o = c.self.invariant in
    let k = c.from-at.result in
    let within : k < 32 = omega arith in
    let a = c.index.result.now in
    let reads = slice_get_read x.inputs.items 32 k a (sym c.self.invariant.input_links) within c.index.ensures in
    let got = c.find_front.ensures.front ∙ ap (front_of x.table) c.bytes.ensures in
    let may : CanRoute (plan_of o) (seen o) k c.args.output = subst (λ l. CanRoute (plan_of o) (seen o) l c.args.output) (sym c.from-at.ensures) (subst (λ z. CanRoute (plan_of z) (seen z) c.args.input c.args.output) (sym v) c.requires.may) in
    let j = c.from-out.result in
    let less : j < 32 = omega arith in
    let may_j : CanRoute (plan_of o) (seen o) k j = subst (CanRoute (plan_of o) (seen o) k) (sym c.from-out.ensures) may in
    let b = c.index_mut.result.now in
    let here = slice_get_read x.inputs.items 32 k b (sym c.self.invariant.input_links) within c.index_mut.ensures.value in
    let p = c.index_mut-in-Some.result.now in
    let there = slice_get_read x.outputs.items 32 j p (sym c.self.invariant.output_links) less c.index_mut-in-Some.ensures.value in
    let f = c.in-Some.front in
    let d = c.index-in-Some.result.now in
    let delete = slice_get_read x.deletes.items 32 j d (sym c.self.invariant.delete_links) less c.index-in-Some.ensures in
    let e = same_read x.inputs.items k a b reads here in
    let front : front_of x.table b.got.passed ≡ Some f = ap (λ z. front_of x.table z.got.passed) (sym e) ∙ sym got ∙ c.in-Some.is in
    let long : f.at + 2 ≤ length b.got.passed = subst (λ z. f.at + 2 ≤ length z.got.passed) e (subst (λ z. f.at + 2 ≤ length z) c.bytes.ensures c.in-Some.ensures.within) in
    let is : c.bind.new.self ≡ record b { bound = Some (record { output = j; from = start_of d f; sent = 0 }) } = c.bind.ensures ∙ (λ t. record b { bound = Some (record { output = sym c.from-out.ensures t; from = c.leaves_from-from.ensures t; sent = 0 }) }) in
    let source : c.bind-in-Some.new.self ≡ record p { source = Some k } = c.bind-in-Some.ensures ∙ (λ t. record p { source = Some (sym c.from-at.ensures t) }) in
    let new : State = record o { inputs = slice_set x.inputs.items k c.bind.new.self; outputs = slice_set x.outputs.items j c.bind-in-Some.new.self } in
    subst (λ z. Routes (plan_of z) Wormhole (seen z) c.args.input c.args.output (seen new)) v
    (subst (λ i. Routes (plan_of o) Wormhole (seen o) c.args.input i (seen new)) c.from-out.ensures
    (subst (λ i. Routes (plan_of o) Wormhole (seen o) i j (seen new)) c.from-at.ensures
    (routes o k j (start_of d f) b c.bind.new.self p c.bind-in-Some.new.self w here there may_j is source)))

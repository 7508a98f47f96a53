use Rattle.std.proofs.Common.{◌≡◌, ◌<◌, sym, ap, ◌∙◌, subst, arith, slice_set, None}
use Rattle.std.proofs.lemmas.Option.{slice_get_read}
use Rattle.vc_switch.specs.Switch.{Passes, drawn}
use Rattle.vc_switch.specs.State.{State, interval_of, plan_of, limit_of, output_of}
use Rattle.vc_switch.specs.SwitchView.{seen}
use Rattle.vc_switch.proofs.Fronts.{bound_front}
use Rattle.vc_switch.proofs.ListChanges.{input_at}
use Rattle.vc_packets.specs.Counters.{one_more}
use Rattle.vc_switch.proofs.Preservation.{link_in, switch_in}
use Rattle.vc_switch.proofs.Steps.{header_at, mark_passes, mark_loses, link_whole, link_lost}
use Rattle.vc_switch.proofs.switch.Switch.pass_mark.Goals as goal

pub invariant_of-self : goal.invariant_of-self
invariant_of-self c =
    let x = c.self.inside in
    let o : State = record { table = x.table; ranges = x.ranges.items; deletes = x.deletes.items; inputs = x.inputs.items; outputs = x.outputs.items; lost = x.lost } in
    let k = c.from-at.result in
    let a = c.index_mut.result.now in
    let within : k < 32 = omega arith in
    let here = slice_get_read x.inputs.items 32 k a (sym c.self.invariant.input_links) within c.index_mut.ensures.value in
    let r = c.index.result.now in
    let range = slice_get_read x.ranges.items 32 k r (sym c.self.invariant.range_links) within c.index.ensures in
    let drew = header_at o k a.word r range in
    let is = c.if-not-pass_mark.ensures.dropped in
    switch_in o k x.lost a c.pass_mark.new.self c.self.invariant here (link_lost (plan_of o) (limit_of x.inputs.items) c.args.mark (drawn (interval_of r) a.word) a c.pass_mark.new.self (link_in o k a c.self.invariant here) c.pass_mark.ensures.front c.if-not-pass_mark.ensures.none is) (ap (λ z. output_of z.bound) is)

pub invariant_of-self-else-not-pass_mark : goal.invariant_of-self-else-not-pass_mark
invariant_of-self-else-not-pass_mark c =
    let x = c.self.inside in
    let o : State = record { table = x.table; ranges = x.ranges.items; deletes = x.deletes.items; inputs = x.inputs.items; outputs = x.outputs.items; lost = x.lost } in
    let k = c.from-at.result in
    let a = c.index_mut.result.now in
    let within : k < 32 = omega arith in
    let here = slice_get_read x.inputs.items 32 k a (sym c.self.invariant.input_links) within c.index_mut.ensures.value in
    let r = c.index.result.now in
    let range = slice_get_read x.ranges.items 32 k r (sym c.self.invariant.range_links) within c.index.ensures in
    let drew = header_at o k a.word r range in
    let is = c.if-not-pass_mark.ensures.whole in
    switch_in o k x.lost a c.pass_mark.new.self c.self.invariant here (link_whole (plan_of o) (limit_of x.inputs.items) c.args.mark (drawn (interval_of r) a.word) a c.pass_mark.new.self (link_in o k a c.self.invariant here) c.pass_mark.ensures.front is) (ap (λ z. output_of z.bound) is)

pub returns-then-not-pass_mark-clause-passes : goal.returns-then-not-pass_mark-clause-passes
returns-then-not-pass_mark-clause-passes c =
    let x = c.self.inside in
    let o : State = record { table = x.table; ranges = x.ranges.items; deletes = x.deletes.items; inputs = x.inputs.items; outputs = x.outputs.items; lost = x.lost } in
    let k = c.from-at.result in
    let a = c.index_mut.result.now in
    let within : k < 32 = omega arith in
    let here = slice_get_read x.inputs.items 32 k a (sym c.self.invariant.input_links) within c.index_mut.ensures.value in
    let r = c.index.result.now in
    let range = slice_get_read x.ranges.items 32 k r (sym c.self.invariant.range_links) within c.index.ensures in
    let drew = header_at o k a.word r range in
    let going = sym (ap (λ z. z.mark) (input_at o k a here)) ∙ subst (λ z. ((seen z).input k).mark ≡ None) (sym c.self.view_is) (subst (λ j. ((seen c.args.self.now).input j).mark ≡ None) (sym c.from-at.ensures) c.requires.open) in
    subst (λ z. Passes (limit_of c.args.self.now.inputs) (plan_of c.args.self.now) (seen c.args.self.now) c.args.link (seen z)) (sym c.drop_one.ensures)
    (subst (λ z. Passes (limit_of z.inputs) (plan_of z) (seen z) c.args.link (seen (record o { inputs = slice_set x.inputs.items k c.pass_mark.new.self; lost = one_more x.lost }))) c.self.view_is
    (subst (λ j. Passes (limit_of x.inputs.items) (plan_of o) (seen o) j (seen (record o { inputs = slice_set x.inputs.items k c.pass_mark.new.self; lost = one_more x.lost }))) c.from-at.ensures
    (mark_loses o k c.args.mark (drawn (interval_of r) a.word) a c.pass_mark.new.self c.self.invariant here drew going c.pass_mark.ensures.front c.if-not-pass_mark.ensures.none c.if-not-pass_mark.ensures.dropped)))

pub returns-else-not-pass_mark-clause-passes : goal.returns-else-not-pass_mark-clause-passes
returns-else-not-pass_mark-clause-passes c =
    let x = c.self.inside in
    let o : State = record { table = x.table; ranges = x.ranges.items; deletes = x.deletes.items; inputs = x.inputs.items; outputs = x.outputs.items; lost = x.lost } in
    let k = c.from-at.result in
    let a = c.index_mut.result.now in
    let within : k < 32 = omega arith in
    let here = slice_get_read x.inputs.items 32 k a (sym c.self.invariant.input_links) within c.index_mut.ensures.value in
    let r = c.index.result.now in
    let range = slice_get_read x.ranges.items 32 k r (sym c.self.invariant.range_links) within c.index.ensures in
    let drew = header_at o k a.word r range in
    let going = sym (ap (λ z. z.mark) (input_at o k a here)) ∙ subst (λ z. ((seen z).input k).mark ≡ None) (sym c.self.view_is) (subst (λ j. ((seen c.args.self.now).input j).mark ≡ None) (sym c.from-at.ensures) c.requires.open) in
    subst (λ z. Passes (limit_of z.inputs) (plan_of z) (seen z) c.args.link (seen (record o { inputs = slice_set x.inputs.items k c.pass_mark.new.self }))) c.self.view_is
    (subst (λ j. Passes (limit_of x.inputs.items) (plan_of o) (seen o) j (seen (record o { inputs = slice_set x.inputs.items k c.pass_mark.new.self }))) c.from-at.ensures
    (mark_passes o k c.args.mark c.if-not-pass_mark.ensures.group.0 (drawn (interval_of r) a.word) a c.pass_mark.new.self c.self.invariant here drew going c.pass_mark.ensures.front c.if-not-pass_mark.ensures.group.1 c.if-not-pass_mark.ensures.whole))

pub pass_mark-requires-clause-bound : goal.pass_mark-requires-clause-bound
pass_mark-requires-clause-bound c =
    let x = c.self.inside in
    let o : State = record { table = x.table; ranges = x.ranges.items; deletes = x.deletes.items; inputs = x.inputs.items; outputs = x.outputs.items; lost = x.lost } in
    let k = c.from-at.result in
    let a = c.index_mut.result.now in
    let here = slice_get_read x.inputs.items 32 k a (sym c.self.invariant.input_links) (subst (λ z. z < 32) (sym c.from-at.ensures) c.requires.link) c.index_mut.ensures.value in
    bound_front (plan_of o) a.got.passed a.bound (link_in o k a c.self.invariant here).bound

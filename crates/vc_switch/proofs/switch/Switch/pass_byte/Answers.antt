use Rattle.std.proofs.Common.{◌≡◌, ◌<◌, sym, ap, ◌∙◌, subst, arith, true, slice_set, None}
use Rattle.std.proofs.lemmas.Option.{slice_get_read}
use Rattle.vc_switch.specs.Switch.{Passes, drawn}
use Rattle.vc_switch.specs.State.{State, interval_of, plan_of, limit_of, output_of}
use Rattle.vc_switch.specs.SwitchView.{seen}
use Rattle.vc_switch.proofs.ListChanges.{input_at}
use Rattle.vc_packets.specs.Counters.{one_more}
use Rattle.vc_switch.proofs.Preservation.{link_in, switch_in}
use Rattle.vc_switch.proofs.Steps.{header_at, byte_passes, byte_drops, link_byte, link_dropped}
use Rattle.vc_switch.proofs.switch.Switch.pass_byte.Goals as goal

pub invariant_of-self : goal.invariant_of-self
invariant_of-self c =
    let x = c.self.inside in
    let o : State = record { table = x.table; ranges = x.ranges.items; deletes = x.deletes.items; inputs = x.inputs.items; outputs = x.outputs.items; lost = x.lost } in
    let k = c.from-at.result in
    let a = c.index_mut.result.now in
    let within : k < 32 = omega arith in
    let here = slice_get_read x.inputs.items 32 k a (sym c.self.invariant.input_links) within c.index_mut.ensures.value in
    let r = c.index.result.now in
    let range = slice_get_read x.ranges.items 32 k r (sym c.self.invariant.range_links) within c.index.ensures in
    let drew = header_at o k a.word r range in
    let is = c.if-not-pass_byte.ensures.dropped in
    switch_in o k x.lost a c.pass_byte.new.self c.self.invariant here (link_dropped (plan_of o) (limit_of x.inputs.items) c.args.byte (drawn (interval_of r) a.word) a c.pass_byte.new.self (link_in o k a c.self.invariant here) c.pass_byte.ensures.front is) (ap (λ z. output_of z.bound) is)

pub invariant_of-self-else-not-pass_byte : goal.invariant_of-self-else-not-pass_byte
invariant_of-self-else-not-pass_byte c =
    let x = c.self.inside in
    let o : State = record { table = x.table; ranges = x.ranges.items; deletes = x.deletes.items; inputs = x.inputs.items; outputs = x.outputs.items; lost = x.lost } in
    let k = c.from-at.result in
    let a = c.index_mut.result.now in
    let within : k < 32 = omega arith in
    let here = slice_get_read x.inputs.items 32 k a (sym c.self.invariant.input_links) within c.index_mut.ensures.value in
    let r = c.index.result.now in
    let range = slice_get_read x.ranges.items 32 k r (sym c.self.invariant.range_links) within c.index.ensures in
    let drew = header_at o k a.word r range in
    let is = c.if-not-pass_byte.ensures.added in
    switch_in o k x.lost a c.pass_byte.new.self c.self.invariant here (link_byte (plan_of o) (limit_of x.inputs.items) c.args.byte (drawn (interval_of r) a.word) a c.pass_byte.new.self (link_in o k a c.self.invariant here) c.pass_byte.ensures.front is) (ap (λ z. output_of z.bound) is)

pub returns-then-not-pass_byte-clause-passes : goal.returns-then-not-pass_byte-clause-passes
returns-then-not-pass_byte-clause-passes c =
    let x = c.self.inside in
    let o : State = record { table = x.table; ranges = x.ranges.items; deletes = x.deletes.items; inputs = x.inputs.items; outputs = x.outputs.items; lost = x.lost } in
    let k = c.from-at.result in
    let a = c.index_mut.result.now in
    let within : k < 32 = omega arith in
    let here = slice_get_read x.inputs.items 32 k a (sym c.self.invariant.input_links) within c.index_mut.ensures.value in
    let r = c.index.result.now in
    let range = slice_get_read x.ranges.items 32 k r (sym c.self.invariant.range_links) within c.index.ensures in
    let drew = header_at o k a.word r range in
    let going = sym (ap (λ z. z.mark) (input_at o k a here)) ∙ subst (λ z. ((seen z).input k).mark ≡ None) (sym c.self.view_is) (subst (λ j. ((seen c.args.self.now).input j).mark ≡ None) (sym c.from-at.ensures) c.requires.open) in
    subst (λ z. Passes (limit_of c.args.self.now.inputs) (plan_of c.args.self.now) (seen c.args.self.now) c.args.link (seen z)) (sym c.drop_one.ensures)
    (subst (λ z. Passes (limit_of z.inputs) (plan_of z) (seen z) c.args.link (seen (record o { inputs = slice_set x.inputs.items k c.pass_byte.new.self; lost = one_more x.lost }))) c.self.view_is
    (subst (λ j. Passes (limit_of x.inputs.items) (plan_of o) (seen o) j (seen (record o { inputs = slice_set x.inputs.items k c.pass_byte.new.self; lost = one_more x.lost }))) c.from-at.ensures
    (byte_drops o k c.args.byte (drawn (interval_of r) a.word) a c.pass_byte.new.self c.self.invariant here drew going c.pass_byte.ensures.front (λ room. (let t : c.pass_byte.result ≡ true = c.pass_byte.ensures.room.1 room in absurd (cc))) c.if-not-pass_byte.ensures.dropped)))

pub returns-else-not-pass_byte-clause-passes : goal.returns-else-not-pass_byte-clause-passes
returns-else-not-pass_byte-clause-passes c =
    let x = c.self.inside in
    let o : State = record { table = x.table; ranges = x.ranges.items; deletes = x.deletes.items; inputs = x.inputs.items; outputs = x.outputs.items; lost = x.lost } in
    let k = c.from-at.result in
    let a = c.index_mut.result.now in
    let within : k < 32 = omega arith in
    let here = slice_get_read x.inputs.items 32 k a (sym c.self.invariant.input_links) within c.index_mut.ensures.value in
    let r = c.index.result.now in
    let range = slice_get_read x.ranges.items 32 k r (sym c.self.invariant.range_links) within c.index.ensures in
    let drew = header_at o k a.word r range in
    let going = sym (ap (λ z. z.mark) (input_at o k a here)) ∙ subst (λ z. ((seen z).input k).mark ≡ None) (sym c.self.view_is) (subst (λ j. ((seen c.args.self.now).input j).mark ≡ None) (sym c.from-at.ensures) c.requires.open) in
    subst (λ z. Passes (limit_of z.inputs) (plan_of z) (seen z) c.args.link (seen (record o { inputs = slice_set x.inputs.items k c.pass_byte.new.self }))) c.self.view_is
    (subst (λ j. Passes (limit_of x.inputs.items) (plan_of o) (seen o) j (seen (record o { inputs = slice_set x.inputs.items k c.pass_byte.new.self }))) c.from-at.ensures
    (byte_passes o k c.args.byte (drawn (interval_of r) a.word) a c.pass_byte.new.self c.self.invariant here drew going c.pass_byte.ensures.front (c.pass_byte.ensures.room.0 c.if-not-pass_byte.false) c.if-not-pass_byte.ensures.added))

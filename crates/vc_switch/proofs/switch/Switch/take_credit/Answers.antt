use Rattle.std.proofs.Common.{◌≡◌, ◌<◌, sym, ap, subst, arith, true}
use Rattle.std.proofs.lemmas.Option.{slice_get_read}
use Rattle.vc_switch.specs.Switch.{Comes}
use Rattle.vc_switch.specs.State.{State, plan_of, limit_of, output_of}
use Rattle.vc_switch.specs.SwitchView.{seen}
use Rattle.vc_switch.proofs.ListChanges.{told}
use Rattle.vc_tokens.specs.Tokens.{Fct}
use Rattle.vc_switch.proofs.Preservation.{link_in, switch_two}
use Rattle.vc_switch.proofs.Steps.{fct_due, fct_dropped, link_word}
use Rattle.vc_switch.proofs.switch.Switch.take_credit.Goals as goal

pub invariant_of-self : goal.invariant_of-self
invariant_of-self c =
    let x = c.self.inside in
    let o : State = record { table = x.table; ranges = x.ranges.items; deletes = x.deletes.items; inputs = x.inputs.items; outputs = x.outputs.items; lost = x.lost } in
    let k = c.from-at.result in
    let a = c.index_mut.result.now in
    let within : k < 32 = omega arith in
    let here = slice_get_read x.inputs.items 32 k a (sym c.self.invariant.input_links) within c.index_mut.ensures.value in
    let p = c.index_mut-2.result.now in
    let there = slice_get_read x.outputs.items 32 k p (sym c.self.invariant.output_links) within c.index_mut-2.ensures.value in
    let is = c.draw.ensures in
    let out = c.if-not-accept.ensures.dropped in
    switch_two o k k x.lost a c.draw.new.self p c.accept.new.self c.self.invariant here (link_word (plan_of o) (limit_of x.inputs.items) c.args.word a c.draw.new.self (link_in o k a c.self.invariant here) is) (ap (λ z. output_of z.bound) is) there (ap (λ z. z.source) out)

pub invariant_of-self-else-not-accept : goal.invariant_of-self-else-not-accept
invariant_of-self-else-not-accept c =
    let x = c.self.inside in
    let o : State = record { table = x.table; ranges = x.ranges.items; deletes = x.deletes.items; inputs = x.inputs.items; outputs = x.outputs.items; lost = x.lost } in
    let k = c.from-at.result in
    let a = c.index_mut.result.now in
    let within : k < 32 = omega arith in
    let here = slice_get_read x.inputs.items 32 k a (sym c.self.invariant.input_links) within c.index_mut.ensures.value in
    let p = c.index_mut-2.result.now in
    let there = slice_get_read x.outputs.items 32 k p (sym c.self.invariant.output_links) within c.index_mut-2.ensures.value in
    let is = c.draw.ensures in
    let out = c.if-not-accept.ensures.credited in
    switch_two o k k x.lost a c.draw.new.self p c.accept.new.self c.self.invariant here (link_word (plan_of o) (limit_of x.inputs.items) c.args.word a c.draw.new.self (link_in o k a c.self.invariant here) is) (ap (λ z. output_of z.bound) is) there (ap (λ z. z.source) out)

pub returns-then-not-accept-clause-comes : goal.returns-then-not-accept-clause-comes
returns-then-not-accept-clause-comes c =
    let x = c.self.inside in
    let o : State = record { table = x.table; ranges = x.ranges.items; deletes = x.deletes.items; inputs = x.inputs.items; outputs = x.outputs.items; lost = x.lost } in
    let k = c.from-at.result in
    let a = c.index_mut.result.now in
    let within : k < 32 = omega arith in
    let here = slice_get_read x.inputs.items 32 k a (sym c.self.invariant.input_links) within c.index_mut.ensures.value in
    let p = c.index_mut-2.result.now in
    let there = slice_get_read x.outputs.items 32 k p (sym c.self.invariant.output_links) within c.index_mut-2.ensures.value in
    subst (λ z. Comes (seen c.args.self.now) c.args.link c.args.word Fct (seen z)) (sym c.drop_one.ensures)
    (told (λ s l n. Comes s l c.args.word Fct n) o c.args.self.now k c.args.link _ c.self.view_is c.from-at.ensures
    (fct_dropped o k c.args.word a c.draw.new.self p c.accept.new.self here there c.draw.ensures (λ low. (let t : c.accept.result ≡ true = c.accept.ensures.due.1 low in absurd (cc))) c.if-not-accept.ensures.dropped))

pub returns-else-not-accept-clause-comes : goal.returns-else-not-accept-clause-comes
returns-else-not-accept-clause-comes c =
    let x = c.self.inside in
    let o : State = record { table = x.table; ranges = x.ranges.items; deletes = x.deletes.items; inputs = x.inputs.items; outputs = x.outputs.items; lost = x.lost } in
    let k = c.from-at.result in
    let a = c.index_mut.result.now in
    let within : k < 32 = omega arith in
    let here = slice_get_read x.inputs.items 32 k a (sym c.self.invariant.input_links) within c.index_mut.ensures.value in
    let p = c.index_mut-2.result.now in
    let there = slice_get_read x.outputs.items 32 k p (sym c.self.invariant.output_links) within c.index_mut-2.ensures.value in
    told (λ s l n. Comes s l c.args.word Fct n) o c.args.self.now k c.args.link _ c.self.view_is c.from-at.ensures
    (fct_due o k c.args.word a c.draw.new.self p c.accept.new.self here there c.draw.ensures (c.accept.ensures.due.0 c.if-not-accept.false) c.if-not-accept.ensures.credited)

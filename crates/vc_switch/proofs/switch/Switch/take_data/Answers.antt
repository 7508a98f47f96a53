use Rattle.std.proofs.Common.{◌≡◌, ◌<◌, sym, ap, subst, arith, true}
use Rattle.std.proofs.lemmas.Option.{slice_get_read}
use Rattle.vc_tokens.specs.CodeTokens.{token}
use Rattle.vc_switch.specs.Switch.{Comes}
use Rattle.vc_switch.specs.State.{State, plan_of, limit_of, output_of}
use Rattle.vc_switch.specs.SwitchView.{seen}
use Rattle.vc_switch.proofs.ListChanges.{told}
use Rattle.vc_switch.proofs.Preservation.{link_in, switch_in}
use Rattle.vc_switch.proofs.Steps.{data_due, data_dropped, link_came, link_word}
use Rattle.vc_switch.proofs.switch.Switch.take_data.Goals as goal

pub invariant_of-self : goal.invariant_of-self
invariant_of-self c =
    let x = c.self.inside in
    let o : State = record { table = x.table; ranges = x.ranges.items; deletes = x.deletes.items; inputs = x.inputs.items; outputs = x.outputs.items; lost = x.lost } in
    let k = c.from.result in
    let a = c.index_mut.result.now in
    let within : k < 32 = omega arith in
    let here = slice_get_read x.inputs.items 32 k a (sym c.self.invariant.input_links) within c.index_mut.ensures.value in
    let is = c.if-not-accept.ensures.dropped in
    switch_in o k x.lost a c.accept.new.self c.self.invariant here (link_word (plan_of o) (limit_of x.inputs.items) c.args.word a c.accept.new.self (link_in o k a c.self.invariant here) is) (ap (λ z. output_of z.bound) is)

pub invariant_of-self-else-not-accept : goal.invariant_of-self-else-not-accept
invariant_of-self-else-not-accept c =
    let x = c.self.inside in
    let o : State = record { table = x.table; ranges = x.ranges.items; deletes = x.deletes.items; inputs = x.inputs.items; outputs = x.outputs.items; lost = x.lost } in
    let k = c.from.result in
    let a = c.index_mut.result.now in
    let within : k < 32 = omega arith in
    let here = slice_get_read x.inputs.items 32 k a (sym c.self.invariant.input_links) within c.index_mut.ensures.value in
    let is = c.if-not-accept.ensures.added in
    switch_in o k x.lost a c.accept.new.self c.self.invariant here (link_came (plan_of o) (limit_of x.inputs.items) c.args.word a c.accept.new.self (token c.args.came) c.requires.place (link_in o k a c.self.invariant here) is) (ap (λ z. output_of z.bound) is)

pub returns-then-not-accept-clause-comes : goal.returns-then-not-accept-clause-comes
returns-then-not-accept-clause-comes c =
    let x = c.self.inside in
    let o : State = record { table = x.table; ranges = x.ranges.items; deletes = x.deletes.items; inputs = x.inputs.items; outputs = x.outputs.items; lost = x.lost } in
    let k = c.from.result in
    let a = c.index_mut.result.now in
    let within : k < 32 = omega arith in
    let here = slice_get_read x.inputs.items 32 k a (sym c.self.invariant.input_links) within c.index_mut.ensures.value in
    subst (λ z. Comes (seen c.args.self.now) c.args.link c.args.word (token c.args.came) (seen z)) (sym c.drop_one.ensures)
    (told (λ s l n. Comes s l c.args.word (token c.args.came) n) o c.args.self.now k c.args.link _ c.self.view_is c.from.ensures
    (data_dropped o k c.args.word a c.accept.new.self (token c.args.came) c.requires.place here (λ place. (let t : c.accept.result ≡ true = c.accept.ensures.due.1 place in absurd (cc))) c.if-not-accept.ensures.dropped))

pub returns-else-not-accept-clause-comes : goal.returns-else-not-accept-clause-comes
returns-else-not-accept-clause-comes c =
    let x = c.self.inside in
    let o : State = record { table = x.table; ranges = x.ranges.items; deletes = x.deletes.items; inputs = x.inputs.items; outputs = x.outputs.items; lost = x.lost } in
    let k = c.from.result in
    let a = c.index_mut.result.now in
    let within : k < 32 = omega arith in
    let here = slice_get_read x.inputs.items 32 k a (sym c.self.invariant.input_links) within c.index_mut.ensures.value in
    told (λ s l n. Comes s l c.args.word (token c.args.came) n) o c.args.self.now k c.args.link _ c.self.view_is c.from.ensures
    (data_due o k c.args.word a c.accept.new.self (token c.args.came) c.requires.place here (c.accept.ensures.due.0 c.if-not-accept.false) c.if-not-accept.ensures.added)

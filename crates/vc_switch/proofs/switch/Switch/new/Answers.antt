use Rattle.std.proofs.Common.{◌≡◌, subst, sym, ap, ◌∙◌}
use Rattle.vc_switch.specs.State.{State, IsSwitch, plan_of, limit_of}
use Rattle.vc_switch.specs.SwitchView.{seen}
use Rattle.vc_switch.proofs.OpeningState.{begun, begun_switch, begun_seen, begun_plan, begun_limit}
use Rattle.vc_switch.proofs.switch.Switch.new.Goals as goal

pub invariant_of-result : goal.invariant_of-result
invariant_of-result c =
    let ranges = c.in_ok-ranges.ensures.ranges in
    let all = c.in_ok-ranges.ensures.deletions in
    let n : State = record { table = c.args.plan.table; ranges = c.in_ok-ranges.ranges.items; deletes = c.in_ok-ranges.deletes.items; inputs = c.in_ok-inputs.inputs.items; outputs = c.in_ok-inputs.outputs.items; lost = 0 } in
    let is : n ≡ begun c.args.plan c.args.body_limit =
    (λ i. record { table = c.args.plan.table; ranges = ranges i; deletes = all i; inputs = c.in_ok-inputs.ensures.inputs i; outputs = c.in_ok-inputs.ensures.outputs i; lost = 0 }) in
    subst IsSwitch (sym is) (begun_switch c.args.plan c.args.body_limit c.rows-rows.ensures.lawful c.requires.limit c.requires.random)

pub returns-clause-seen : goal.returns-clause-seen
returns-clause-seen c =
    let ranges = c.in_ok-ranges.ensures.ranges in
    let all = c.in_ok-ranges.ensures.deletions in
    let n : State = record { table = c.args.plan.table; ranges = c.in_ok-ranges.ranges.items; deletes = c.in_ok-ranges.deletes.items; inputs = c.in_ok-inputs.inputs.items; outputs = c.in_ok-inputs.outputs.items; lost = 0 } in
    let is : n ≡ begun c.args.plan c.args.body_limit =
    (λ i. record { table = c.args.plan.table; ranges = ranges i; deletes = all i; inputs = c.in_ok-inputs.ensures.inputs i; outputs = c.in_ok-inputs.ensures.outputs i; lost = 0 }) in
    ap seen is ∙ begun_seen c.args.plan c.args.body_limit

pub returns-clause-plan : goal.returns-clause-plan
returns-clause-plan c =
    let ranges = c.in_ok-ranges.ensures.ranges in
    let all = c.in_ok-ranges.ensures.deletions in
    let n : State = record { table = c.args.plan.table; ranges = c.in_ok-ranges.ranges.items; deletes = c.in_ok-ranges.deletes.items; inputs = c.in_ok-inputs.inputs.items; outputs = c.in_ok-inputs.outputs.items; lost = 0 } in
    let is : n ≡ begun c.args.plan c.args.body_limit =
    (λ i. record { table = c.args.plan.table; ranges = ranges i; deletes = all i; inputs = c.in_ok-inputs.ensures.inputs i; outputs = c.in_ok-inputs.ensures.outputs i; lost = 0 }) in
    ap plan_of is ∙ begun_plan c.args.plan c.args.body_limit c.requires.delete c.requires.random

pub returns-clause-limit : goal.returns-clause-limit
returns-clause-limit c =
    let ranges = c.in_ok-ranges.ensures.ranges in
    let all = c.in_ok-ranges.ensures.deletions in
    let n : State = record { table = c.args.plan.table; ranges = c.in_ok-ranges.ranges.items; deletes = c.in_ok-ranges.deletes.items; inputs = c.in_ok-inputs.inputs.items; outputs = c.in_ok-inputs.outputs.items; lost = 0 } in
    let is : n ≡ begun c.args.plan c.args.body_limit =
    (λ i. record { table = c.args.plan.table; ranges = ranges i; deletes = all i; inputs = c.in_ok-inputs.ensures.inputs i; outputs = c.in_ok-inputs.ensures.outputs i; lost = 0 }) in
    ap (λ z. limit_of z.inputs) is ∙ begun_limit c.args.plan c.args.body_limit

use Rattle.std.proofs.Common.{◌≡◌, ◌+◌, ◌*◌, ◌∙◌, ap, sym, arith, get_or, rules, Some}
use Rattle.vc_labels.specs.declared.action.Action.TheVariants.{Portal}
use Rattle.vc_labels.specs.Interval.{action_for}
use Rattle.vc_switch.specs.declared.front.Front.{Front}
use Rattle.vc_switch.specs.Front.{front_of}
use Rattle.vc_switch.proofs.Fronts.{headed, moved_none, moved_past}
use Rattle.vc_switch.proofs.front.find_front.Goals as goal

pub loop-rest-init : goal.loop-rest-init
loop-rest-init c = (moved_none (front_of c.args.table.now c.args.body.now), omega arith)

pub returns-in-Some-Out-clause-has : goal.returns-in-Some-Out-clause-has
returns-in-Some-Out-clause-has c =
    let f : Front = record { at = c.loop-rest.at; first = c.in-Some-Out.first; last = c.in-Some-Out.last } in
    let is : front_of c.args.table.now c.args.body.now ≡ Some f = search rules in
    headed c.args.table.now c.args.body.now f (λ k. omega (arith, c.type_inv.body k)) is

pub loop-rest-preserved : goal.loop-rest-preserved
loop-rest-preserved c =
    let rest = c.loop-rest.rest.now in
    let pair : c.from_be_bytes.result ≡ 256 * get_or rest 0 0 + get_or rest 1 0 = let is = c.from_be_bytes.ensures in omega (arith, is) in
    let portal : action_for c.args.table.now (256 * get_or rest 0 0 + get_or rest 1 0) ≡ Some Portal =
    ap (action_for c.args.table.now) (sym pair) ∙ sym c.in-Some-Portal.ensures.action ∙ ap Some c.in-Some-Portal.field-0-is in
    moved_past c.args.table.now c.args.body.now rest c.loop-rest.at c.loop-rest.invariant (omega (arith, c.in-len2-up.len_at_least)) portal

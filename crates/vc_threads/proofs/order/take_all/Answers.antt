use Rattle.std.proofs.Common.{◌++◌, [], ◌∷◌, ◌+◌, ◌≤◌, length, slice_get, get_or, ap, sym, subst, ◌∙◌, arith, length-append}
use Rattle.std.proofs.lemmas.Option.{slice_get-get_or}
use Rattle.vc_core.proofs.WayTable.{few}
use Rattle.vc_plan.specs.declared.port.Spot.TheVariants.{Node}
use Rattle.vc_plan.specs.declared.port.Wire.{Wire}
use Rattle.vc_threads.specs.Private.Order.{IsPort, EndsTaken, MeetAt, LeftAt, LeftOn}
use Rattle.vc_threads.specs.Order.{OnWays}
use Rattle.vc_threads.specs.Rings.{IsOnWire}
use Rattle.vc_threads.proofs.RingViews.{ends_same, meet_later, left_before, left_more}
use Rattle.vc_threads.proofs.Remainders.{IsBefore, two_fresh, one_fresh, first_taken, second_taken}
use Rattle.vc_threads.proofs.order.take_all.Goals as goal

pub loop-wire-init : goal.loop-wire-init
loop-wire-init c = record { taken = ends_same (IsOnWire c.args.plan.now 0) c.args.ends; count = ap length c.new-left.ensures.items; left = λ i w less at. absurd (omega (arith, less)) }

pub take_way-requires-clause-ring : goal.take_way-requires-clause-ring
take_way-requires-clause-ring c =
    let p = c.args.plan.now in
    let ws = c.as_slice-wire-items.result.now in
    let i = c.loop-wire.wire-index in
    let w : Wire = get_or ws i (record { one = record { spot = Node 0; link = 0 }; two = record { spot = Node 0; link = 0 } }) in
    let less = c.loop-wire-test.true in
    let n = ap length c.as_slice-wire-items.ensures in
    let at = ap (λ xs. slice_get xs i) (sym c.as_slice-wire-items.ensures) ∙ slice_get-get_or ws i (record { one = record { spot = Node 0; link = 0 }; two = record { spot = Node 0; link = 0 } }) less in
    let r = c.requires.rings i w (omega (arith, less, n)) at in
    subst (λ n. MeetAt n c.loop-wire.ends w.one w.two) (sym c.len-nodes.ensures) (meet_later (IsOnWire p i) (length p.nodes) c.args.ends c.loop-wire.ends w.one w.two c.loop-wire.invariant.taken r.0)

pub take_way-requires-in-loop-wire-clause-ring : goal.take_way-requires-in-loop-wire-clause-ring
take_way-requires-in-loop-wire-clause-ring c =
    let p = c.args.plan.now in
    let e = c.args.ends in
    let mid = c.take_way.new.ends in
    let ws = c.as_slice-wire-items.result.now in
    let i = c.loop-wire.wire-index in
    let w : Wire = get_or ws i (record { one = record { spot = Node 0; link = 0 }; two = record { spot = Node 0; link = 0 } }) in
    let less = c.loop-wire-test.true in
    let n = ap length c.as_slice-wire-items.ensures in
    let at = ap (λ xs. slice_get xs i) (sym c.as_slice-wire-items.ensures) ∙ slice_get-get_or ws i (record { one = record { spot = Node 0; link = 0 }; two = record { spot = Node 0; link = 0 } }) less in
    let r = c.requires.rings i w (omega (arith, less, n)) at in
    let one = subst (λ n. EndsTaken (IsPort n w.two) c.loop-wire.ends mid) c.len-nodes.ensures c.in_ok-take_way.ensures.taken in
    let first = first_taken p c.requires.plan i w at e c.loop-wire.ends mid c.loop-wire.invariant.taken one in
    subst (λ n. MeetAt n mid w.two w.one) (sym c.len-nodes.ensures) (meet_later (IsBefore p i w) (length p.nodes) e mid w.two w.one first r.1)

pub loop-wire-preserved : goal.loop-wire-preserved
loop-wire-preserved c =
    let p = c.args.plan.now in
    let n = length p.nodes in
    let e = c.args.ends in
    let l = c.loop-wire.ends in
    let mid = c.take_way.new.ends in
    let new = c.take_way-in-loop-wire.new.ends in
    let ws = c.as_slice-wire-items.result.now in
    let i = c.loop-wire.wire-index in
    let w : Wire = get_or ws i (record { one = record { spot = Node 0; link = 0 }; two = record { spot = Node 0; link = 0 } }) in
    let less = c.loop-wire-test.true in
    let at = ap (λ xs. slice_get xs i) (sym c.as_slice-wire-items.ensures) ∙ slice_get-get_or ws i (record { one = record { spot = Node 0; link = 0 }; two = record { spot = Node 0; link = 0 } }) less in
    let left = c.loop-wire.left.items in
    let u = c.in_ok-take_way.field-0 in
    let v = c.in_ok-take_way-2.field-0 in
    let before = c.loop-wire.invariant.taken in
    let count = c.loop-wire.invariant.count in
    let one = subst (λ n. EndsTaken (IsPort n w.two) l mid) c.len-nodes.ensures c.in_ok-take_way.ensures.taken in
    let two = subst (λ n. EndsTaken (IsPort n w.one) mid new) c.len-nodes.ensures c.in_ok-take_way-2.ensures.taken in
    let first = first_taken p c.requires.plan i w at e l mid before one in
    let more = c.in_ok-push-2.ensures.items ∙ ap (λ xs. xs ++ v ∷ []) c.in_ok-push.ensures.items in
    record {
      taken = second_taken p c.requires.plan i w at e mid new first two;
      count = let a = ap length more in let b = length-append (left ++ u ∷ []) (v ∷ []) in let d = length-append left (u ∷ []) in omega (arith, a, b, d, count);
      left = subst (λ xs. OnWays (LeftOn n e xs) p.wires (i + 1)) (sym more)
          (left_more n e p.wires i w left u v at count c.loop-wire.invariant.left
          (left_before (IsOnWire p i) n e l u.items w.one w.two before (two_fresh p c.requires.plan i w at) (subst (λ n. LeftAt n l u.items w.one w.two) c.len-nodes.ensures c.in_ok-take_way.ensures.left))
          (left_before (IsBefore p i w) n e mid v.items w.two w.one first (one_fresh p c.requires.plan i w at) (subst (λ n. LeftAt n mid v.items w.two w.one) c.len-nodes.ensures c.in_ok-take_way-2.ensures.left)));
    }

pub returns : goal.returns
returns c =
    let p = c.args.plan.now in
    let all = c.loop-wire-test.false in
    let end = c.loop-wire.auto.wire-index-end in
    let same = ap length c.as_slice-wire-items.ensures in
    let count = c.loop-wire.invariant.count in
    record {
      count = omega (arith, all, end, same, count);
      left = subst (λ n. OnWays (LeftOn (length p.nodes) c.args.ends c.loop-wire.left.items) p.wires n) (omega (arith, all, end, same)) c.loop-wire.invariant.left;
    }

pub take_way-requires-clause-nodes : goal.take_way-requires-clause-nodes
take_way-requires-clause-nodes c = subst (λ n. n ≤ 32) (sym c.len-nodes.ensures) (few c.args.plan.now c.requires.plan).0

pub take_way-requires-in-loop-wire-clause-nodes : goal.take_way-requires-in-loop-wire-clause-nodes
take_way-requires-in-loop-wire-clause-nodes c = subst (λ n. n ≤ 32) (sym c.len-nodes.ensures) (few c.args.plan.now c.requires.plan).0

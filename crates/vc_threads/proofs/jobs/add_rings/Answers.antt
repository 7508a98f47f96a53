use Rattle.std.proofs.Common.{length, slice_get, get_or, refl, ap, sym, subst, ◌∙◌, ◌≤◌, arith}
use Rattle.std.proofs.lemmas.Option.{slice_get-get_or}
use Rattle.vc_core.proofs.WayTable.{few}
use Rattle.vc_plan.specs.declared.port.Port.{Port}
use Rattle.vc_plan.specs.declared.port.Spot.TheVariants.{Node}
use Rattle.vc_plan.specs.declared.port.Wire.{Wire}
use Rattle.vc_threads.specs.Private.Rings.{AddsRing, AreWired, CanAddRing}
use Rattle.vc_threads.proofs.FreeWays.{count_kept, free_first, free_second}
use Rattle.vc_threads.proofs.Rings.{wired_more, wired_none}
use Rattle.vc_threads.proofs.jobs.add_rings.Goals as goal

pub loop-wire-init : goal.loop-wire-init
loop-wire-init c = record { fit = c.requires.fit; same = refl; wired = wired_none c.args.plan.now c.args.jobs.now.items c.requires.bare }

pub add_ring-requires-clause-free : goal.add_ring-requires-clause-free
add_ring-requires-clause-free c =
    let p = c.args.plan.now in
    let i = c.loop-wire.wire-index in
    let ws = c.as_slice-wire-items.result.now in
    let none : Port = record { spot = Node 0; link = 0 } in
    let w : Wire = get_or ws i (record { one = none; two = none }) in
    let js = c.loop-wire.jobs.items in
    let at = ap (λ xs. slice_get xs i) (sym c.as_slice-wire-items.ensures) ∙ slice_get-get_or ws i (record { one = none; two = none }) c.loop-wire-test.true in
    subst (λ n. CanAddRing n js w.one w.two) (sym c.len-nodes.ensures)
    (free_first p c.requires.plan i w at js c.loop-wire.invariant.wired (count_kept js c.args.jobs.now.items c.loop-wire.invariant.same ∙ c.requires.count))

pub add_ring-requires-in-loop-wire-clause-free : goal.add_ring-requires-in-loop-wire-clause-free
add_ring-requires-in-loop-wire-clause-free c =
    let p = c.args.plan.now in
    let i = c.loop-wire.wire-index in
    let ws = c.as_slice-wire-items.result.now in
    let none : Port = record { spot = Node 0; link = 0 } in
    let w : Wire = get_or ws i (record { one = none; two = none }) in
    let js = c.loop-wire.jobs.items in
    let mid = c.add_ring.new.jobs.items in
    let at = ap (λ xs. slice_get xs i) (sym c.as_slice-wire-items.ensures) ∙ slice_get-get_or ws i (record { one = none; two = none }) c.loop-wire-test.true in
    subst (λ n. CanAddRing n mid w.two w.one) (sym c.len-nodes.ensures)
    (free_second p c.requires.plan i w at js mid c.loop-wire.invariant.wired (subst (λ n. AddsRing n js w.one w.two mid) c.len-nodes.ensures c.in_ok-add_ring.ensures.ring)
    (count_kept mid c.args.jobs.now.items (c.in_ok-add_ring.ensures.same ∙ c.loop-wire.invariant.same) ∙ c.requires.count))

pub loop-wire-preserved : goal.loop-wire-preserved
loop-wire-preserved c =
    let p = c.args.plan.now in
    let i = c.loop-wire.wire-index in
    let ws = c.as_slice-wire-items.result.now in
    let less = c.loop-wire-test.true in
    let none : Port = record { spot = Node 0; link = 0 } in
    let w : Wire = get_or ws i (record { one = none; two = none }) in
    let js = c.loop-wire.jobs.items in
    let mid = c.add_ring.new.jobs.items in
    let new = c.add_ring-in-loop-wire.new.jobs.items in
    record {
      fit = c.in_ok-add_ring-2.ensures.fit;
      same = c.in_ok-add_ring-2.ensures.same ∙ (c.in_ok-add_ring.ensures.same ∙ c.loop-wire.invariant.same);
      wired = wired_more p i w (ap (λ xs. slice_get xs i) (sym c.as_slice-wire-items.ensures) ∙ slice_get-get_or ws i (record { one = none; two = none }) less)
          js mid new c.loop-wire.invariant.wired
          (subst (λ n. AddsRing n js w.one w.two mid) c.len-nodes.ensures c.in_ok-add_ring.ensures.ring)
          (subst (λ n. AddsRing n mid w.two w.one new) c.len-nodes.ensures c.in_ok-add_ring-2.ensures.ring);
    }

pub returns-clause-wired : goal.returns-clause-wired
returns-clause-wired c =
    let all = c.loop-wire-test.false in
    let end = c.loop-wire.auto.wire-index-end in
    let same = ap length c.as_slice-wire-items.ensures in
    subst (λ n. AreWired c.args.plan.now n c.loop-wire.jobs.items) (omega (arith, all, end, same)) c.loop-wire.invariant.wired

pub add_ring-requires-clause-nodes : goal.add_ring-requires-clause-nodes
add_ring-requires-clause-nodes c = subst (λ n. n ≤ 32) (sym c.len-nodes.ensures) (few c.args.plan.now c.requires.plan).0

pub add_ring-requires-in-loop-wire-clause-nodes : goal.add_ring-requires-in-loop-wire-clause-nodes
add_ring-requires-in-loop-wire-clause-nodes c = subst (λ n. n ≤ 32) (sym c.len-nodes.ensures) (few c.args.plan.now c.requires.plan).0

pub add_ring-requires-clause-fit : goal.add_ring-requires-clause-fit
add_ring-requires-clause-fit c = c.loop-wire.invariant.fit

pub add_ring-requires-in-loop-wire-clause-fit : goal.add_ring-requires-in-loop-wire-clause-fit
add_ring-requires-in-loop-wire-clause-fit c = c.in_ok-add_ring.ensures.fit

pub returns-clause-fit : goal.returns-clause-fit
returns-clause-fit c = c.loop-wire.invariant.fit

pub returns-clause-same : goal.returns-clause-same
returns-clause-same c = c.loop-wire.invariant.same

use Rattle.std.proofs.Common.{◌≡◌, ◌+◌, ◌*◌, ◌≤◌, length, take, get_or, slice_get, None, Some, sym, ap, ◌∙◌, subst, add-one, arith, rules}
use Rattle.std.proofs.lemmas.List.{length-replicate, take_all}
use Rattle.std.proofs.lemmas.Option.{slice_get-get_or}
use Rattle.std.proofs.Math.ListN.{replicate}
use Rattle.vc_plan.specs.declared.port.Wire.{Wire}
use Rattle.vc_plan.specs.declared.port.Spot.TheVariants.{Node}
use Rattle.vc_accepted.specs.ActorWays.{way_out}
use Rattle.vc_core.specs.Private.OutgoingTable.{left}
use Rattle.vc_core.specs.Wiring.{out_at}
use Rattle.vc_core.proofs.WayTable.{are_few, none_leaves, next_long, next_tells}
use Rattle.vc_core.proofs.outgoing_ways.ways_out.Goals as goal

-- what is read past the wires
none : Wire
none = record { one = record { spot = Node 0; link = 0 }; two = record { spot = Node 0; link = 0 } }

pub overflow_add-actors : goal.overflow_add-actors
overflow_add-actors c =
    let few = are_few c.args.plan.now c.requires in
    let nodes = few.nodes in
    let switches = few.switches in
    let counted = c.len-nodes.ensures in
    let counts = c.len.ensures in
    omega arith

pub overflow_mul-actors : goal.overflow_mul-actors
overflow_mul-actors c =
    let few = are_few c.args.plan.now c.requires in
    let nodes = few.nodes in
    let switches = few.switches in
    let counted = c.len-nodes.ensures in
    let counts = c.len.ensures in
    omega arith

pub loop-i-init : goal.loop-i-init
loop-i-init c =
    let p = c.args.plan.now in
    let n = (c.len-nodes.result + c.len.result) * 32 in
    let all : c.in_ok-out.out.items ≡ replicate n None = c.in_ok-out.ensures.items_if_clones_equal (λ y copies. search rules) in
    record {
      long = ap length all ∙ length-replicate n None ∙ (λ i. (c.len-nodes.ensures i + c.len.ensures i) * 32);
      tells = λ actor link. ap (λ z. out_at z actor link) all ∙ none_leaves n actor link;
    }

pub returns-clause-tells : goal.returns-clause-tells
returns-clause-tells c = λ actor link.
    let p = c.args.plan.now in
    let past = subst (λ xs. length xs ≤ c.loop-i.i) c.as_slice-wire-items.ensures c.loop-i-test.false in
    c.loop-i.invariant.tells actor link ∙ ap (way_out (length p.nodes) actor link 0) (take_all c.loop-i.i p.wires past)

pub returns-clause-long : goal.returns-clause-long
returns-clause-long c = c.loop-i.invariant.long

pub overflow_cast-way : goal.overflow_cast-way
overflow_cast-way c =
    let few = (are_few c.args.plan.now c.requires).wires in
    let same = ap length c.as_slice-wire-items.ensures in
    let less = c.loop-i-test.true in
    omega arith

pub overflow_mul-way : goal.overflow_mul-way
overflow_mul-way c =
    let few = (are_few c.args.plan.now c.requires).wires in
    let same = ap length c.as_slice-wire-items.ensures in
    let less = c.loop-i-test.true in
    omega arith

pub overflow_add-way : goal.overflow_add-way
overflow_add-way c =
    let few = (are_few c.args.plan.now c.requires).wires in
    let same = ap length c.as_slice-wire-items.ensures in
    let less = c.loop-i-test.true in
    omega arith

pub leave-requires : goal.leave-requires
leave-requires c =
    let few = (are_few c.args.plan.now c.requires).nodes in
    let counted = c.len-nodes.ensures in
    omega arith

pub leave-requires-in-loop-i : goal.leave-requires-in-loop-i
leave-requires-in-loop-i c =
    let few = (are_few c.args.plan.now c.requires).nodes in
    let counted = c.len-nodes.ensures in
    omega arith

pub loop-i-preserved : goal.loop-i-preserved
unfolding none
loop-i-preserved c =
    let p = c.args.plan.now in
    let k = c.loop-i.i in
    let xs = c.as_slice-wire-items.result.now in
    let w = get_or xs k none in
    let out = c.loop-i.out.items in
    let mid = c.leave.new.out.items in
    let new = c.leave-in-loop-i.new.out.items in
    let there : slice_get p.wires k ≡ Some w = sym (ap (λ z. slice_get z k) c.as_slice-wire-items.ensures) ∙ slice_get-get_or xs k none c.loop-i-test.true in
    let one : mid ≡ left out (length p.nodes) w.one (2 * k) = c.leave.ensures ∙ ap (λ n. left out n w.one (2 * k)) c.len-nodes.ensures in
    let two : new ≡ left mid (length p.nodes) w.two (2 * k + 1) = c.leave-in-loop-i.ensures ∙ ap (λ n. left mid n w.two (2 * k + 1)) c.len-nodes.ensures in
    record {
      long = next_long p out mid new k w one two c.loop-i.invariant.long;
      tells = λ actor link. next_tells p c.requires out mid new k w there one two c.loop-i.invariant.long c.loop-i.invariant.tells actor link
          ∙ ap (λ n. way_out (length p.nodes) actor link 0 (take n p.wires)) (sym (add-one k));
    }

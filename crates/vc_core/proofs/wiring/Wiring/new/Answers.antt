use Rattle.std.proofs.Common.{◌<◌, length, map, sym, ap, ◌∙◌, subst}
use Rattle.vc_core.specs.Private.Wiring.{AreEnds, AreFar, AreRooms, far_end_of}
use Rattle.vc_core.proofs.ByEnd.{are_far}
use Rattle.vc_core.proofs.WaysOut.{are_ends, ends_count, one_link}
use Rattle.vc_core.proofs.wiring.Wiring.new.Goals as goal
use Rattle.vc_switch.proofs.ListWrites.{some_at}

pub invariant_of-result : goal.invariant_of-result
invariant_of-result c =
    let out = c.in_ok-out.out.items in (
      subst (λ o. AreRooms o c.rooms_of-rooms.result) c.as_slice.ensures.value c.rooms_of-rooms.ensures,
      (let p = c.args.plan.now in
          let ends = c.in_ok-ends.ends.items in
          let are = subst (AreEnds out) (sym c.in_ok-ends.ensures) (are_ends p c.requires out c.in_ok-out.ensures.tells) in
          let far = are_far p c.requires out ends c.in_ok-out.ensures.tells are (ap length c.in_ok-ends.ensures ∙ ends_count (length p.nodes) p.wires) in
          subst (AreFar out) (sym (c.in_ok-far.ensures ∙ (λ i. map (far_end_of (c.as_slice-3.ensures.value i)) (c.as_slice-2.ensures.value i)))) far),
    )

pub returns-clause-one : goal.returns-clause-one
returns-clause-one c = λ k l j i way a b.
    let out = c.in_ok-out.out.items in
    one_link out _ k l j i way (are_ends c.args.plan.now c.requires out c.in_ok-out.ensures.tells) a b

pub returns-clause-into : goal.returns-clause-into
returns-clause-into c = λ way less.
    let p = c.args.plan.now in
    let ends = c.in_ok-ends.ends.items in
    let long = ap length c.in_ok-ends.ensures ∙ ends_count (length p.nodes) p.wires in
    let e = some_at ends way (subst (λ n. way < n) (sym long) less) in
    let are = subst (AreEnds c.in_ok-out.out.items) (sym c.in_ok-ends.ensures) (are_ends p c.requires c.in_ok-out.out.items c.in_ok-out.ensures.tells) in
    (e.0.actor, e.0.link, (are e.0.actor e.0.link way).1 e.1)

use Rattle.std.proofs.Common.{◌+◌, ◌*◌, length, sym, ap, ◌∙◌, subst, arith}
use Rattle.vc_core.specs.Private.Wiring.{AreEnds}
use Rattle.vc_core.proofs.ByEnd.{are_apart, end_within}
use Rattle.vc_core.proofs.WaysOut.{are_ends, ends_count}
use Rattle.vc_core.proofs.LineBits.{at_first}
use Rattle.vc_core.proofs.lines.Lines.new.Goals as goal

pub new-requires-2 : goal.new-requires-2
new-requires-2 c =
    let p = c.args.plan.now in
    let w = c.in_ok-wiring.ensures in
    let out = c.in_ok-wiring.wiring in
    let ends = c.in_ok-ends.ends.items in
    let are = subst (AreEnds out) (sym c.in_ok-ends.ensures) (are_ends p c.requires out w.tells) in
    let nodes = c.len.ensures in
    let switches = c.len-2.ensures in
    are_apart out ends ((c.len.result + c.len-2.result) * 32) are
    (λ way e here. let inside = end_within out ends are way e here in let long = w.long in omega (arith, inside, long, nodes, switches))

pub invariant_of-result : goal.invariant_of-result
invariant_of-result c =
    let p = c.args.plan.now in
    let w = c.in_ok-wiring.ensures in
    let out = c.in_ok-wiring.wiring in
    let ways = c.in_ok-ways.ensures in (
      at_first p c.requires out c.in_ok-ways.ways.ways c.new-fronts.result w.tells w.long w.one w.into
          (ways.count ∙ ap length c.in_ok-ends.ensures ∙ ends_count (length p.nodes) p.wires) ways.empty
          c.new-fronts.ensures.count c.new-fronts.ensures.none,
      subst (AreEnds out) (sym (ways.ends ∙ c.in_ok-ends.ensures)) (are_ends p c.requires out w.tells),
    )

pub returns-clause-count : goal.returns-clause-count
returns-clause-count c =
    let p = c.args.plan.now in
    c.in_ok-ways.ensures.count ∙ ap length c.in_ok-ends.ensures ∙ ends_count (length p.nodes) p.wires

use Rattle.std.proofs.Common.{◌≤◌, rules, refl, sym, ap, length, le-leb, arith}
use Rattle.vc_plan.specs.OneNode.{all_vars}
use Rattle.vc_plan.proofs.OneNode.{one_node}
use Rattle.vc_plan.proofs.one_node.together.Goals as goal

pub returns : goal.returns
returns c =
    let e = ap length c.in_ok-vars.ensures in
    let f : length c.in_ok-vars.vars ≤ 64 = search (rules, arith) in (
      sym (le-leb (length (all_vars c.args.plan.now.nodes)) 64 (omega arith)),
      one_node c.args.plan.now _ c.in_ok-name.name c.in_ok-vars.vars c.in_ok-parts.parts (search (rules)) c.in_ok-name.ensures c.in_ok-vars.ensures c.in_ok-parts.ensures.processes c.in_ok-parts.ensures.sites
          refl c.new.ensures c.new-2.ensures c.new-3.ensures c.in_ok-channels.ensures,
    )

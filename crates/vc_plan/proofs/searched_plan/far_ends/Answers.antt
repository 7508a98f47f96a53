use Rattle.std.proofs.Common.{sym, subst, rules}
use Rattle.vc_plan.specs.FarEnds.{AreFarEndsOf}
use Rattle.vc_plan.proofs.FarEnds.{lists-more}
use Rattle.vc_plan.proofs.searched_plan.far_ends.Goals as goal

pub loop-switch-preserved : goal.loop-switch-preserved
loop-switch-preserved c =
    let net = c.args.plan.now in
    let ends = c.in_ok-far_ends_of.field-0 in
    record {
      lists = lists-more net c.loop-switch.lists.items c.push.new.self.items ends c.loop-switch.invariant.lists c.in_ok-push.ensures.items
          (subst (λ n. AreFarEndsOf net n ends.items) (sym c.loop-switch.invariant.count) c.in_ok-far_ends_of.ensures);
      count = search rules;
    }

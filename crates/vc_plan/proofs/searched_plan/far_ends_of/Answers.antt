use Rattle.std.proofs.Common.{ap, ◌∙◌, sym, rules}
use Rattle.vc_plan.specs.FarEnds.{across_from}
use Rattle.vc_plan.proofs.FarEnds.{ends-more}
use Rattle.vc_plan.proofs.searched_plan.far_ends_of.Goals as goal

pub loop-link-preserved : goal.loop-link-preserved
loop-link-preserved c =
    let net = c.args.plan.now in
    let switch = c.args.switch in
    record {
      ends = ends-more net switch c.loop-link.ends.items c.push.new.self.items c.far_end.result c.loop-link.invariant.ends c.in_ok-push.ensures.items
          (rw c.as_slice.ensures at c.far_end.ensures ∙ sym (ap (across_from net switch) c.loop-link.invariant.count));
      count = search rules;
    }

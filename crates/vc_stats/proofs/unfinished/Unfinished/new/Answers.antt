use Rattle.std.proofs.Common.{ap, ◌∙◌}
use Rattle.vc_accepted.specs.Begin.{begin_of}
use Rattle.vc_accepted.specs.NetworkOf.{network_of}
use Rattle.vc_stats.specs.StateFigures.{is_unfinished}
use Rattle.vc_stats.proofs.Busy.{idle_of}
use Rattle.vc_stats.proofs.Opening.{closed}
use Rattle.vc_stats.proofs.unfinished.Unfinished.new.Goals as goal

pub returns : goal.returns
returns c = λ x begun.
    let p = c.args.plan.now in
    let idle = c.in_ok-times.ensures in
    record {
      outputs = c.in_ok-outputs.ensures;
      count = idle.count ∙ c.len.ensures;
      each = λ k. idle_of (is_unfinished p k) x _ (idle.each k) (ap (is_unfinished p k) begun ∙ closed (network_of p) (begin_of p) k);
    }

use Rattle.std.proofs.Common.{◌∷◌, [], ◌∙◌, ◌+◌, ◌*◌, get_or, ap, arith, length, length-append}
use Rattle.vc_stats.specs.Buffers.{unused}
use Rattle.vc_stats.proofs.Cells.{entry_more}
use Rattle.vc_stats.proofs.buffers.Buffers.reach.Goals as goal

pub loop-preserved : goal.loop-preserved
loop-preserved c =
    let buffers = c.loop.self.buffers.items in
    let all = c.in_ok-push.ensures.items in
    let longer = ap length all ∙ length-append buffers (c.unused.result ∷ []) in
    let many = c.loop.invariant.many in
    record {
      many = omega (arith, longer, many);
      same = λ actor link. ap (λ os. get_or os (32 * actor + link) unused) all ∙ entry_more unused buffers c.unused.result c.unused.ensures (32 * actor + link) ∙ c.loop.invariant.same actor link;
    }

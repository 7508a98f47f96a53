use Rattle.std.proofs.Common.{◌∷◌, [], ◌∙◌, ap, arith, length, length-append}
use Rattle.vc_stats.proofs.Cells.{cell_in, row_more}
use Rattle.vc_stats.proofs.table.Table.reach.Goals as goal

pub loop-preserved : goal.loop-preserved
loop-preserved c =
    let rows = c.loop.self.rows.items in
    let all = c.in_ok-push.ensures.items in
    let longer = ap length all ∙ length-append rows (c.new.result ∷ []) in
    let many = c.loop.invariant.many in
    record {
      many = omega (arith, longer, many);
      same = λ k n. ap (λ ts. cell_in ts k n) all ∙ row_more rows c.new.result c.new.ensures k n ∙ c.loop.invariant.same k n;
    }

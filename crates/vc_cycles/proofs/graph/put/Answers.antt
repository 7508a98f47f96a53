use Rattle.std.proofs.Common.{sym, subst}
use Rattle.vc_cycles.specs.Private.Graph.{Gains}
use Rattle.vc_cycles.proofs.Edges.{gains_insert}
use Rattle.vc_cycles.proofs.graph.put.Goals as goal

pub returns-in_ok-insert : goal.returns-in_ok-insert
returns-in_ok-insert c =
    subst (λ l. Gains c.args.row.now.items l c.args.number) (sym c.in_ok-insert.ensures.items) (gains_insert c.args.row.now.items c.in-Err.place c.args.number
    (rw c.deref.ensures.value at c.in-Err.ensures.position))

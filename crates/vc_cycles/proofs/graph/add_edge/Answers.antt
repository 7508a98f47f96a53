use Rattle.vc_cycles.proofs.Edges.{edge_put, on_ok}
use Rattle.vc_cycles.proofs.graph.add_edge.Goals as goal

pub returns-in-Some-Some : goal.returns-in-Some-Some
returns-in-Some-Some c =
    on_ok c.put.result
    (λ g. edge_put c.args.rows.now.items c.from.result c.in-Some-Some.from c.in-Some-Some.to c.args.from c.args.to c.index_mut.result.now c.put.new.row c.in-Some-Some.ensures c.in-Some-Some.ensures'
    c.from.ensures c.requires c.index_mut.ensures.value g)
    c.put.ensures

use Rattle.std.proofs.Common.{codes, []}
use Rattle.std.specs.List.{enumerate_from, flat_map}
use Rattle.vc_draw.specs.Graph.{node_line, place_line, places_text}
use Rattle.vc_text.proofs.Texts.{four_more}
use Rattle.vc_draw.proofs.graph.push_places.Goals as goal

pub returns : goal.returns
unfolding places_text
returns c =
    let p = c.args.plan.now in
    four_more _ _ _ _ _ (codes "  node [shape=box];\n") (flat_map (node_line c.args.labels.now) (enumerate_from 0 p.nodes)) (codes "  node [shape=ellipse];\n") (flat_map (λ switch. place_line switch.name []) p.switches)
    c.in_ok-extend_from_slice.ensures.items (rw c.as_slice.ensures at c.in_ok-push_nodes.ensures) c.in_ok-extend_from_slice-2.ensures.items (rw c.as_slice-2.ensures at c.in_ok-push_switches.ensures)

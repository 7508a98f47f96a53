use Rattle.vc_draw.specs.Graph.{graph_text, no_labels}
use Rattle.vc_plan.specs.declared.plan.Plan.{Plan}
use Rattle.vc_text.proofs.CheckText.{tells_accepted}
use Rattle.vc_draw.proofs.draw.run_draw.Goals as goal

pub returns : goal.returns
returns g c = tells_accepted (λ (plan : Plan). graph_text plan no_labels) _ _ _ c.in_ok-accepted.accepted _ c.in_ok-accepted.ensures (rw c.plan.ensures.plan at c.write_graph.ensures)

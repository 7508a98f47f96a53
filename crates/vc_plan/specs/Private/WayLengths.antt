-- How many switches the packets of a way pass: the numbers of hops of its paths to a node.
use Rattle.std.specs.Prelude.{Bool, true, false}
use Rattle.vc_plan.specs.declared.port.Spot.{Spot}
use Rattle.vc_plan.specs.declared.port.Spot.TheVariants.{Node, Switch}

-- it is a node
abbrev pub is_node : Spot → Bool
is_node (Node n) = true
is_node (Switch n) = false

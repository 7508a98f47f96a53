use Rattle.std.proofs.Common.{◌≡◌, take, map}
use Rattle.vc_plan.specs.OneNode.{inside}
use Rattle.vc_plan.proofs.one_node.channels.Given as goal

abbrev pub invariant-loop-channel : goal.invariant-loop-channel
invariant-loop-channel l = l.made ≡ map inside (take l.channel-index l.channel-items)

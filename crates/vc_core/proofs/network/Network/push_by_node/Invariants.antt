use Rattle.std.specs.List.{flat_map, range_with_len}
use Rattle.vc_core.specs.Choices.{acts_at}
use Rattle.vc_core.specs.Private.Choices.{Lists}
use Rattle.vc_core.specs.State.{state_of}
use Rattle.vc_core.proofs.network.Network.push_by_node.Given as goal

abbrev pub invariant-loop-link : goal.invariant-loop-link
invariant-loop-link l = Lists (state_of l.fn.self) l.fn.actor (flat_map acts_at (range_with_len 0 l.link)) l.fn.acts.items l.acts.items

use Rattle.std.specs.Prelude.{map, take}
use Rattle.vc_actor.specs.declared.act.Act.TheVariants.{Proc}
use Rattle.vc_core.specs.Private.Choices.{Lists}
use Rattle.vc_core.specs.State.{state_of}
use Rattle.vc_core.proofs.network.Network.push_moves.Given as goal

abbrev pub invariant-loop-made : goal.invariant-loop-made
invariant-loop-made l = Lists (state_of l.fn.self) l.fn.actor (map Proc (take l.made-index l.fn.moves)) l.fn.acts.items l.acts.items

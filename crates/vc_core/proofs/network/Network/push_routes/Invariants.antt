use Rattle.std.specs.Prelude.{map}
use Rattle.std.specs.List.{range_with_len}
use Rattle.vc_actor.specs.declared.act.Act.TheVariants.{Route}
use Rattle.vc_core.specs.Private.Choices.{Lists}
use Rattle.vc_core.specs.State.{state_of}
use Rattle.vc_core.proofs.network.Network.push_routes.Given as goal

abbrev pub invariant-loop-output : goal.invariant-loop-output
invariant-loop-output l = Lists (state_of l.fn.self) l.fn.actor (map (Route l.fn.input) (range_with_len 0 l.output)) l.fn.acts.items l.acts.items

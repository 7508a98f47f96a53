use Rattle.std.proofs.Common.{[], arith, refl}
use Rattle.vc_core.specs.State.{state_of}
use Rattle.vc_core.proofs.WayTable.{few}
use Rattle.vc_core.proofs.ReplayRuns.{reached_first}
use Rattle.vc_text.proofs.GeneratorDraws.{none_given}
use Rattle.vc_text.proofs.simulation.Simulation.new.Goals as goal

pub returns-clause-opens : goal.returns-clause-opens
returns-clause-opens c =
    let p = c.args.accepted.now in
    let s = state_of c.in_ok-network.network in
    let reached = reached_first p [] s c.in_ok-network.ensures.opening in
    let nodes = (few p reached.is.accepted).0 in
    let switches = (few p reached.is.accepted).1 in
    record {
      reached = reached;
      many = refl;
      words = none_given p c.in_ok-generators.generators (omega (arith, nodes, switches)) c.in_ok-generators.ensures;
    }

use Rattle.std.proofs.Common.{arith}
use Rattle.vc_core.proofs.WaysOut.{few_actors}
use Rattle.vc_core.proofs.network.Network.actors.Goals as goal

pub returns : goal.returns
returns c = λ p is.
    let few = few_actors p is.accepted in
    omega (arith, few, is.count, c.len.ensures, c.min.ensures)

use Rattle.std.proofs.Common.{arith}
use Rattle.vc_actor.proofs.ChannelWays.{few_channels}
use Rattle.vc_core.proofs.network.Network.channels.Goals as goal

pub returns : goal.returns
returns c = λ p is.
    let few = few_channels p is.accepted in
    omega (arith, few, is.channels.count, c.len.ensures, c.min.ensures)

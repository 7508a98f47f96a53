use Rattle.std.proofs.Common.{false, refl}
use Rattle.vc_core.specs.State.{state_of}
use Rattle.vc_core.proofs.ListedActs.{lists_not}
use Rattle.vc_core.proofs.network.Network.push_if.Goals as goal

pub returns-else-enabled : goal.returns-else-enabled
returns-else-enabled c = lists_not (state_of c.args.self.now) c.args.actor c.args.act c.args.acts.now.items false c.if-enabled.ensures.may c.if-enabled.ensures.can refl

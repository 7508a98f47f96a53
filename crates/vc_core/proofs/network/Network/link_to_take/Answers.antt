use Rattle.vc_core.specs.State.{state_of}
use Rattle.vc_core.proofs.LineBits.{least_front}
use Rattle.vc_core.proofs.Turns.{takes}
use Rattle.vc_core.proofs.network.Network.link_to_take.Goals as goal

pub returns-clause-least : goal.returns-clause-least
returns-clause-least c = least_front (state_of c.args.self.now) c.args.actor c.fronts.result c.lowest.result c.fronts.ensures c.lowest.ensures

pub returns-clause-takes : goal.returns-clause-takes
returns-clause-takes c = λ p is.
    let s = state_of c.args.self.now in
    takes p s c.args.actor c.lowest.result is (least_front s c.args.actor c.fronts.result c.lowest.result c.fronts.ensures c.lowest.ensures)

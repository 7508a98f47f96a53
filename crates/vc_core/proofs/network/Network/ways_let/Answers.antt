use Rattle.std.proofs.Common.{◌↔◌, IsTrue, sym, subst}
use Rattle.vc_core.specs.State.{state_of, WaysLet}
use Rattle.vc_core.proofs.network.Network.ways_let.Goals as goal

pub returns-in-Take : goal.returns-in-Take
returns-in-Take c = subst (λ a. IsTrue c.has_front.result ↔ WaysLet (state_of c.args.self.now) c.args.actor a) (sym c.in-Take.is) c.has_front.ensures

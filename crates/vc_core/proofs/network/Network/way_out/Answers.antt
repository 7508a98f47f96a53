use Rattle.std.proofs.Common.{◌+◌, inl, inr, arith}
use Rattle.std.proofs.lemmas.Bool.{cases_lt}
use Rattle.vc_core.specs.State.{state_of}
use Rattle.vc_core.proofs.Onward.{none_far}
use Rattle.vc_core.proofs.network.Network.way_out.Goals as goal

pub returns-in-None : goal.returns-in-None
returns-in-None c = λ p is. none_far p (state_of c.args.self.now) c.args.switch c.args.link is (elim (cases_lt (c.args.self.now.nodes + c.args.switch) 256) [ inl less ↦ absurd (c.in-None.ensures less) | inr past ↦ omega (arith, past) ])

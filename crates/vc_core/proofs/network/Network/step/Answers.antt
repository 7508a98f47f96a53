use Rattle.std.proofs.Common.{refl}
use Rattle.std.proofs.lemmas.Bool.{false≢true}
use Rattle.vc_core.proofs.network.Network.step.Goals as goal

pub make-requires : goal.make-requires
make-requires c = c.if-enabled.ensures.may.0 refl

pub returns-in_ok-make-clause-not_enabled : goal.returns-in_ok-make-clause-not_enabled
returns-in_ok-make-clause-not_enabled c = λ p is. (c.if-enabled.ensures.can p is).0 refl

pub returns-else-enabled-clause-makes : goal.returns-else-enabled-clause-makes
returns-else-enabled-clause-makes c = λ p is. tt

pub returns-else-enabled-clause-not_enabled : goal.returns-else-enabled-clause-not_enabled
returns-else-enabled-clause-not_enabled c = λ p is. ((λ why can. false≢true ((c.if-enabled.ensures.can p is).1 can)), (λ none. refl))

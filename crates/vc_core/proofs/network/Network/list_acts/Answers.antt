use Rattle.std.proofs.Common.{subst}
use Rattle.vc_core.specs.Choices.{acts_of}
use Rattle.vc_core.specs.Private.Choices.{Lists}
use Rattle.vc_core.specs.State.{shown, state_of}
use Rattle.vc_core.proofs.ListedActs.{all_listed, on_ok, some_listed}
use Rattle.vc_core.proofs.network.Network.list_acts.Goals as goal

pub returns-clause-acts : goal.returns-clause-acts
returns-clause-acts c = λ p is.
    let s = state_of c.args.self.now in
    on_ok c.push_acts.result _ _ (λ l. all_listed p s c.args.actor c.push_acts.new.acts.items is (subst (λ xs. Lists s c.args.actor (acts_of ((shown s).state c.args.actor)) xs c.push_acts.new.acts.items) c.clear.ensures.items l)) c.push_acts.ensures

pub returns-clause-some : goal.returns-clause-some
returns-clause-some c = λ may.
    let s = state_of c.args.self.now in
    on_ok c.push_acts.result _ _ (λ l. some_listed s c.args.actor c.push_acts.new.acts.items may (subst (λ xs. Lists s c.args.actor (acts_of ((shown s).state c.args.actor)) xs c.push_acts.new.acts.items) c.clear.ensures.items l)) c.push_acts.ensures

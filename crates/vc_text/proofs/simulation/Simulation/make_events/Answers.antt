use Rattle.std.proofs.Common.{[], sym, subst}
use Rattle.vc_core.specs.State.{shown, state_of}
use Rattle.vc_core.proofs.ListedActs.{on_ok}
use Rattle.vc_text.specs.Schedules.{IsInOrder}
use Rattle.vc_text.proofs.simulation.Simulation.make_events.Goals as goal

pub returns-in-InTurn-clause-runs : goal.returns-in-InTurn-clause-runs
returns-in-InTurn-clause-runs g c =
    on_ok c.rounds.result _ _ (λ leads from p kept run. (let more = leads from p [] kept run in (more.0, more.1, more.2, subst (λ s. IsInOrder p s more.0 (shown (state_of c.rounds.new.self.network))) (sym c.in-InTurn.is) tt))) c.rounds.ensures.runs

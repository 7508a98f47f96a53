use Rattle.std.proofs.Common.{[]}
use Rattle.vc_core.proofs.ReplayRuns.{by_steps, reached_first, reached_next, replays}
use Rattle.vc_core.proofs.laws.events_lead_on.Goals as goal

pub returns : goal.returns
returns c = record { first = λ p s is. reached_first p [] s is; next = reached_next; headline = replays; by_steps = by_steps }

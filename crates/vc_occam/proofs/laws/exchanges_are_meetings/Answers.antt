use Rattle.vc_occam.proofs.Exchanges.{exchanges_are_meetings}
use Rattle.vc_occam.proofs.laws.exchanges_are_meetings.Goals as goal

pub returns : goal.returns
returns c = exchanges_are_meetings

use Rattle.std.proofs.Common.{◌∙◌, None, Some}
use Rattle.vc_core.specs.State.{state_of}
use Rattle.vc_core.proofs.Views.{sink_found}
use Rattle.vc_core.proofs.network.Network.stopped.Goals as goal

pub returns-in-Some-clause-shows : goal.returns-in-Some-clause-shows
returns-in-Some-clause-shows c = λ p is less.
    let shows = sink_found p (state_of c.args.self.now) c.args.chan (Some c.in-Some.node.now) is (c.in-Some.ensures.shows p is less) in
    c.stopped.ensures ∙ shows.stopped

pub returns-in-None-clause-shows : goal.returns-in-None-clause-shows
returns-in-None-clause-shows c = λ p is less.
    let shows = sink_found p (state_of c.args.self.now) c.args.chan None is (c.in-None.ensures.shows p is less) in
    shows.stopped

-- where the network lacks the channel no node is found
pub returns-in-Some-clause-lacks : goal.returns-in-Some-clause-lacks
returns-in-Some-clause-lacks c = λ p is past. absurd (let none = c.in-Some.ensures.lacks p is past in cc)

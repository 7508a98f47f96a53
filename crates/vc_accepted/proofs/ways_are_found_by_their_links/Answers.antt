-- The lemmas.
use Rattle.vc_accepted.proofs.WayPorts.{outgoing_is, incoming_is}
use Rattle.vc_accepted.proofs.ways_are_found_by_their_links.Goals as goal

pub returns-clause-out : goal.returns-clause-out
returns-clause-out c = λ p acc actor link w. outgoing_is p acc actor link w

pub returns-clause-into : goal.returns-clause-into
returns-clause-into c = λ p acc actor link w. incoming_is p acc actor link w

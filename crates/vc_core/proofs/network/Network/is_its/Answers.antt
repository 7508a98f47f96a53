use Rattle.vc_accepted.specs.NetworkOf.{network_of}
use Rattle.vc_accepted.proofs.AcceptedNetwork.{accepted}
use Rattle.vc_core.proofs.Ownership.{its_on}
use Rattle.vc_core.proofs.network.Network.is_its.Goals as goal

pub returns-then-body-le-LONGEST : goal.returns-then-body-le-LONGEST
returns-then-body-le-LONGEST c = λ p c' is less ends owned.
    its_on (network_of p) c' c.args.way c.args.ends.now (record { body = c.args.body.now; mark = c.args.mark }) c.leads.result (accepted p is.accepted) ends owned (λ to load comes. c.leads.ensures p to load is less comes)

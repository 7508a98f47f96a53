use Rattle.std.proofs.Common.{drop, false, sym, subst}
use Rattle.vc_network.specs.Plan.{net_of}
use Rattle.vc_accepted.specs.NetworkOf.{network_of}
use Rattle.vc_accepted.proofs.AcceptedNetwork.{accepted}
use Rattle.vc_core.specs.Private.Targets.{ComesTo}
use Rattle.vc_core.proofs.Ownership.{its_inside}
use Rattle.vc_core.proofs.Routes.{leaves_for, some_way}
use Rattle.vc_core.proofs.network.Network.is_its_inside.Goals as goal

pub returns-in-Some : goal.returns-in-Some
returns-in-Some c = λ p c' w link is ends there owned.
    let net = net_of (network_of p) in
    let b = c.args.body.now in
    let leaves = c.in-Some.ensures.leaves p is in
    its_inside (network_of p) c' w c.args.switch link c.args.ends.now (record { body = b; mark = c.args.mark }) c.leads.result (accepted p is.accepted) ends there owned
    (λ to load stack body goes. c.leads.ensures p to load is leaves.leaves.real (subst (λ z. ComesTo net 31 c.in-Some.way z to load) (sym c.split_at.ensures.back) (leaves_for net 31 c.args.switch stack load b to c.in-Some.way (drop c.in-Some.from b) goes body leaves)))

pub returns-in-None : goal.returns-in-None
returns-in-None c = λ p c' w link is ends there owned.
    let net = net_of (network_of p) in
    let b = c.args.body.now in
    its_inside (network_of p) c' w c.args.switch link c.args.ends.now (record { body = b; mark = c.args.mark }) false (accepted p is.accepted) ends there owned
    (λ to load stack body goes. absurd (some_way net 31 c.args.switch stack load b to goes body (c.in-None.ensures.leaves p is)))

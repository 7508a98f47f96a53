-- Each packet of the network belongs to a channel, and none is longer than the limit.
use Rattle.std.proofs.Common.{ℕ, ◌+◌, ◌*◌, sym, subst, le_refl}
use Rattle.std.specs.List.{Contains}
use Rattle.vc_switch.specs.Waiting.{Waiting, Wormhole}
use Rattle.vc_machine.specs.Links.{no_tokens}
use Rattle.vc_machine.specs.Places.{in_ways as machine_ways}
use Rattle.vc_machine.specs.PacketsOfTokens.{seen}
use Rattle.vc_machine.specs.Private.Laws.{FitsWay}
use Rattle.vc_machine.proofs.PacketSizes.{limits, all_fit}
use Rattle.vc_machine.proofs.Limits.{sound}
use Rattle.vc_machine.proofs.Ownership.{owned}
use Rattle.vc_machine.proofs.Functional.{seen_is}
use Rattle.vc_machine.proofs.Short.{packets_short}
use Rattle.vc_network.specs.Plan.{Plan, back, ways, net_of}
use Rattle.vc_network.specs.Processes.{StepRelation}
use Rattle.vc_network.specs.Network.{begins}
use Rattle.vc_network.specs.Owners.{EachHasOwner, PacketsAreShort}
use Rattle.vc_network.proofs.PacketSizes.{has_headers}
use Rattle.vc_network.proofs.Wiring.{net_accepted}
use Rattle.vc_network.proofs.Main.{good_start, ran, same_ways}
use Rattle.vc_network.proofs.Replays.{replayed}

pub each_owned : {P : Type 0} (plan : Plan) (waiting : Waiting) (Does : StepRelation P) (begin : ℕ → P) → EachHasOwner plan waiting Does begin
each_owned plan waiting Does begin es s acc h x here =
    let run = replayed plan waiting Does (begins plan begin) s es h in
    let r = ran plan waiting Does acc run.0 (begins plan begin) s no_tokens (good_start plan begin) run.1 in
    owned (net_of plan) (seen (net_of plan) r.new) r.good.sound.inv x (subst (λ xs. Contains xs x) (sym (same_ways plan s r.new r.good (ways plan) (le_refl (ways plan)))) here)

pub packets_are_short : {P : Type 0} (plan : Plan) (waiting : Waiting) (Does : StepRelation P) (begin : ℕ → P) → PacketsAreShort plan waiting Does begin
packets_are_short plan waiting Does begin es s acc h x here =
    let run = replayed plan waiting Does (begins plan begin) s es h in
    let r = ran plan waiting Does acc run.0 (begins plan begin) s no_tokens (good_start plan begin) run.1 in
    let net = net_of plan in
    let ok = net_accepted plan acc in
    let has = has_headers plan acc in
    let g = sound net back Wormhole (FitsWay net plan.headers) (2 * plan.headers + 32) ok.ranges (limits net plan.headers has) (all_fit net plan.headers ok has) r.good.sound.events r.new r.good.sound.run in
    let same = seen_is net r.new g.after g.view in
    let there = subst (λ xs. Contains xs x) (sym (same_ways plan s r.new r.good (ways plan) (le_refl (ways plan)))) here in
    packets_short net plan.headers g.events g.after ok has g.run x (subst (λ z. Contains (machine_ways z (ways plan)) x) (sym same) there)

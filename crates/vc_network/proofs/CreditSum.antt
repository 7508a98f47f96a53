-- Under credit what comes finds its place, and no packet grows past the limit: as over the ways.
use Rattle.std.proofs.Common.{ℕ, ◌≤◌, length, subst}
use Rattle.vc_machine.specs.Links.{no_tokens}
use Rattle.vc_switch.specs.Waiting.{Waiting}
use Rattle.vc_machine.proofs.Refinement.{buffers_hold}
use Rattle.vc_credit.specs.Ends.{Receiver}
use Rattle.vc_network.specs.Plan.{body_limit, Plan, far, back, net_of}
use Rattle.vc_network.specs.Processes.{StepRelation}
use Rattle.vc_network.specs.Network.{begins}
use Rattle.vc_network.specs.Views.{vcps, switches}
use Rattle.vc_credit.specs.Credit.{IsUnderCredit}
use Rattle.vc_network.specs.Credit.{CreditHolds, BodiesFit}
use Rattle.vc_network.proofs.Backs.{back_back}
use Rattle.vc_network.proofs.TokenViews.{wires, same_end}
use Rattle.vc_network.proofs.PacketSizes.{fits}
use Rattle.vc_network.proofs.Replays.{replayed}
use Rattle.vc_network.proofs.Main.{ran, good_start, same_arrived}

pub credit_holds : {P : Type 0} (plan : Plan) (waiting : Waiting) (Does : StepRelation P) (begin : ℕ → P) → CreditHolds plan waiting Does begin
credit_holds plan waiting Does begin es s acc all w real =
    let q = replayed plan waiting Does (begins plan begin) s es all in
    let r = ran plan waiting Does acc q.0 (begins plan begin) s no_tokens (good_start plan begin) q.1 in
    let t = r.new in
    let shows = r.good.shows in
    let held = buffers_hold (net_of plan) back (wires plan) waiting r.events t r.run in
    let wire = shows.wire w in
    let wire_back = shows.wire (back w) in
    let a = shows.sender w real in
    let b : Receiver = record { buffer = (t.receiver w).buffer; promised = (t.receiver w).promised } in
    let same = same_end plan (vcps s) (switches plan s) (far plan w) (t.receiver w) (shows.receiver w real) in
    let here : IsUnderCredit (t.sender w) (t.wire (back w)) (t.wire w) b = record {
      within = held.within w;
      place = held.place w;
      low = λ rest e. subst (λ z. (t.sender z).credit ≤ 8) (back_back w) (held.low (back w) rest e);
    } in
    subst (λ z. z) (λ i. IsUnderCredit (a i) (wire_back i) (wire i) (same i)) here

pub bodies_fit : {P : Type 0} (plan : Plan) (waiting : Waiting) (Does : StepRelation P) (begin : ℕ → P) → BodiesFit plan waiting Does begin
bodies_fit plan waiting Does begin es s acc all w real =
    let q = replayed plan waiting Does (begins plan begin) s es all in
    let r = ran plan waiting Does acc q.0 (begins plan begin) s no_tokens (good_start plan begin) q.1 in
    let t = r.new in
    subst (λ a. length a.got ≤ body_limit plan) (same_arrived plan (vcps s) (switches plan s) (far plan w) (t.receiver w) (r.good.shows.receiver w real)) (fits plan t acc r.good.sound w real)

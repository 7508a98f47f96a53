-- Which of a channel's packets are on a way, in a switch and in a queue, by what the code finds of each.
use Rattle.std.proofs.Common.{◌≡◌, ◌↔◌, ◌<◌, ℕ, Bool, false, IsTrue, List, [], ◌∷◌, ◌++◌, Some, None, refl, sym, ap, ◌∙◌, subst, inl, inr}
use Rattle.std.specs.List.{Contains}
use Rattle.std.proofs.lemmas.Bool.{false≢true}
use Rattle.vc_packets.specs.declared.mark.Mark.{Mark}
use Rattle.vc_packets.specs.declared.packet.Packet.{Packet}
use Rattle.vc_machine.specs.Paths.{Port, AtNode, AtSwitch}
use Rattle.vc_machine.specs.Places.{Queue, OnWire, Inside, IsOf, BelongsTo}
use Rattle.vc_machine.specs.PacketsOfTokens.{read, passed_on}
use Rattle.vc_network.specs.Plan.{ways, near, far, net_of}
use Rattle.vc_network.specs.Views.{vcps, switches, queue_at, arrived, inside, marked}
use Rattle.vc_plan.specs.declared.plan.Plan.{Plan}
use Rattle.vc_accepted.specs.NetworkOf.{network_of}
use Rattle.vc_process.proofs.Lists.{at_front}
use Rattle.vc_switch.specs.Switch.{Switch}
use Rattle.vc_core.specs.Private.PacketPlace.{AreOwned, FindsAt, HasIts, packets_at}
use Rattle.vc_core.specs.Private.Targets.{Has, HasRead, IsOwned, left}
use Rattle.vc_core.specs.State.{State, shown, IsNetworkOf}
use Rattle.vc_core.specs.declared.place.Place.TheVariants as name
use Rattle.vc_core.specs.declared.reader.Reader.{Reader}
use Rattle.vc_core.proofs.Everywhere.{on_ways}

-- all that was read on a way
pub along : (p : Plan) (s : State) (c w : ℕ) (port : Port) (passed : List ℕ) (r : Reader) → IsNetworkOf p s → AreOwned (network_of p) (shown s) → w < ways (network_of p) → far (network_of p) w ≡ port →
    passed ≡ passed_on (net_of (network_of p)) port (arrived (vcps (shown s)) (switches (network_of p) (shown s)) port).got (arrived (vcps (shown s)) (switches (network_of p) (shown s)) port).mark →
    HasRead p c w (read passed ((arrived (vcps (shown s)) (switches (network_of p) (shown s)) port).buffer ++ (shown s).way w)) (left passed ((arrived (vcps (shown s)) (switches (network_of p) (shown s)) port).buffer ++ (shown s).way w)) r →
    IsTrue r.found ↔ HasIts (network_of p) (shown s) c (OnWire w)
along p s c w port passed r is owned less there is_passed h =
    let plan = network_of p in
    let a : Port → _ = arrived (vcps (shown s)) (switches plan (shown s)) in
    let same : read passed ((a port).buffer ++ (shown s).way w) ≡ packets_at plan (shown s) (OnWire w) = ap (λ z. read z ((a port).buffer ++ (shown s).way w)) is_passed
    ∙ ap (λ q. read (passed_on (net_of plan) q (a q).got (a q).mark) ((a q).buffer ++ (shown s).way w)) (sym there) in
    let told = subst (λ ps. ((q : Packet) → Contains ps q → IsOwned plan (OnWire w, q)) → IsTrue r.found ↔ Has (λ q. IsOf (net_of plan) w None q c) ps) same h.found in
    told (λ q here. owned (OnWire w, q) (on_ways plan (shown s) w (OnWire w) q less (inr (inl refl)) here))

-- the one packet that is whole in a switch
pub within : (p : Plan) (s : State) (c w k link : ℕ) (x : Switch) (body : List ℕ) (m : Mark) (t : Bool) → AreOwned (network_of p) (shown s) → w < ways (network_of p) → far (network_of p) w ≡ AtSwitch k link →
    switches (network_of p) (shown s) k ≡ x → (x.input link).got ≡ body → (x.input link).mark ≡ Some m →
    (IsOwned (network_of p) (Inside w, record { body = body; mark = m }) → IsTrue t ↔ BelongsTo (net_of (network_of p)) c (Inside w, record { body = body; mark = m })) →
    IsTrue t ↔ HasIts (network_of p) (shown s) c (Inside w)
within p s c w k link x body m t owned less there shows got mark told =
    let plan = network_of p in
    let q : Packet = record { body = body; mark = m } in
    let one : packets_at plan (shown s) (Inside w) ≡ q ∷ [] = ap (λ z. inside (arrived (vcps (shown s)) (switches plan (shown s)) z)) there
    ∙ ap (λ (z : Switch). marked (z.input link).got (z.input link).mark) shows ∙ (λ i. marked (got i) (mark i)) in
    let its = told (owned (Inside w, q) (on_ways plan (shown s) w (Inside w) q less (inr (inr refl)) (subst (λ ps. Contains ps q) (sym one) (at_front q [])))) in
    subst (λ ps. IsTrue t ↔ Has (λ z. BelongsTo (net_of plan) c (Inside w, z)) ps) (sym one) ((λ h. inl (its.0 h)), (λ has. elim has [ inl b ↦ its.1 b | inr n ↦ absurd n ]))

-- none is whole in a switch at whose input no mark is
pub none_within : (p : Plan) (s : State) (c w k link : ℕ) (x : Switch) → far (network_of p) w ≡ AtSwitch k link → switches (network_of p) (shown s) k ≡ x → (x.input link).mark ≡ None →
    IsTrue false ↔ HasIts (network_of p) (shown s) c (Inside w)
none_within p s c w k link x there shows mark =
    let plan = network_of p in
    let none : packets_at plan (shown s) (Inside w) ≡ [] = ap (λ z. inside (arrived (vcps (shown s)) (switches plan (shown s)) z)) there
    ∙ ap (λ (z : Switch). marked (z.input link).got (z.input link).mark) shows ∙ ap (marked (x.input link).got) mark in
    subst (λ ps. IsTrue false ↔ Has (λ z. BelongsTo (net_of plan) c (Inside w, z)) ps) (sym none) ((λ h. absurd (false≢true h)), (λ has. absurd has))

-- the packets that wait in a queue
pub waiting : (p : Plan) (s : State) (w n link : ℕ) (q : Packet) → AreOwned (network_of p) (shown s) → w < ways (network_of p) → near (network_of p) w ≡ AtNode n link → Contains ((vcps (shown s) n).carrier.queue link) q →
    IsOwned (network_of p) (OnWire w, q)
waiting p s w n link q owned less there here =
    let plan = network_of p in
    let o = owned (Queue w, q) (on_ways plan (shown s) w (Queue w) q less (inl refl) (subst (λ z. Contains (queue_at (λ m. (vcps (shown s) m).carrier) z) q) (sym there) here)) in
    record { owner = record { chan = o.owner.chan; real = o.owner.real; its = o.owner.its }; short = o.short }

pub before_it : (p : Plan) (s : State) (c w n link : ℕ) → near (network_of p) w ≡ AtNode n link → Has (λ q. IsOf (net_of (network_of p)) w None q c) ((vcps (shown s) n).carrier.queue link) → FindsAt (network_of p) (shown s) c (Queue w) (Some (name.Queue n))
before_it p s c w n link there has =
    (subst (λ z. Has (λ q. IsOf (net_of (network_of p)) w None q c) (queue_at (λ m. (vcps (shown s) m).carrier) z)) (sym there) has, (n, link, there, refl))

pub none_before : (p : Plan) (s : State) (c w n link : ℕ) → near (network_of p) w ≡ AtNode n link → (Has (λ q. IsOf (net_of (network_of p)) w None q c) ((vcps (shown s) n).carrier.queue link) → ⊥) → HasIts (network_of p) (shown s) c (Queue w) → ⊥
none_before p s c w n link there none has = none (subst (λ z. Has (λ q. IsOf (net_of (network_of p)) w None q c) (queue_at (λ m. (vcps (shown s) m).carrier) z)) there has)

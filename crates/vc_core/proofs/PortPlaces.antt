-- What the code finds at the ports of a way.
use Rattle.std.proofs.Common.{◌≡◌, ℕ, ◌+◌, ◌/◌, ◌%◌, ◌<◌, ◌≤◌, ◌==◌, Bool, false, not, [], length, slice_get, Option, Some, None, refl, sym, ap, ◌∙◌, subst, inl, inr, arith}
use Rattle.std.proofs.lemmas.List.{length-map}
use Rattle.std.proofs.lemmas.Option.{slice_get_past}
use Rattle.vc_machine.specs.Places as places
use Rattle.vc_machine.specs.PacketsOfTokens.{without_random}
use Rattle.vc_network.specs.Network as net
use Rattle.vc_network.specs.Plan.{ways, near, far, wire, switch_plan}
use Rattle.vc_network.specs.Plan as network
use Rattle.vc_network.specs.Views.{switches, switch_of}
use Rattle.vc_plan.specs.declared.plan.Plan.{Plan}
use Rattle.vc_plan.specs.declared.port.Wire.{Wire}
use Rattle.vc_plan.specs.Accepted as plan
use Rattle.vc_accepted.specs.NetworkOf.{network_of, wire_of}
use Rattle.vc_accepted.specs.NetworkOf as to
use Rattle.vc_accepted.proofs.Across.{wire_is}
use Rattle.vc_accepted.proofs.Elements.{made, made_or}
use Rattle.vc_accepted.proofs.Ports.{side_of}
use Rattle.vc_accepted.proofs.WayPorts.{ways_few}
use Rattle.vc_switch.specs.Forward.{Interval, SwitchPlan}
use Rattle.vc_switch.specs.SwitchView.{seen}
use Rattle.vc_switch.specs.State.{State as SwitchState, plan_of}
use Rattle.vc_switch.specs.Switch.{new_switch}
use Rattle.vc_packets.specs.Functions.{shown_or}
use Rattle.vc_actor.specs.OfPlan.{IsSwitchOf}
use Rattle.vc_actor.specs.Private.Parts.{switch_at}
use Rattle.vc_core.specs.Private.PacketPlace.{FindsAt, FindsOn, HasIts}
use Rattle.vc_actor.specs.ActorView.{Acting, OfNode, OfSwitch, actor_of}
use Rattle.vc_core.specs.State.{State, shown, IsNetworkOf}
use Rattle.vc_core.specs.declared.place.Place.{Place}
use Rattle.vc_core.proofs.Events.{none_past}

-- the ports of a way
port_is : (p : Plan) (s : State) (i : ℕ) (x : Wire) (b : Bool) → IsNetworkOf p s → slice_get s.wires i ≡ Some x → network.port_of (wire (network_of p) i) b ≡ to.port_of (plan.port_of x b)
port_is p s i x b is e = ap (λ z. network.port_of z b) (wire_is p i x (ap (λ z. slice_get z i) (sym is.wires) ∙ e)) ∙ side_of x b

pub near_is : (p : Plan) (s : State) (w : ℕ) (x : Wire) → IsNetworkOf p s → slice_get s.wires (w / 2) ≡ Some x → near (network_of p) w ≡ to.port_of (plan.port_of x (w % 2 == 0))
near_is p s w x is e = port_is p s (w / 2) x (w % 2 == 0) is e

pub far_is : (p : Plan) (s : State) (w : ℕ) (x : Wire) → IsNetworkOf p s → slice_get s.wires (w / 2) ≡ Some x → far (network_of p) w ≡ to.port_of (plan.port_of x (not (w % 2 == 0)))
far_is p s w x is e = port_is p s (w / 2) x (not (w % 2 == 0)) is e

-- each way is one of a wire, and there are few
pub no_wire : (p : Plan) (s : State) (w : ℕ) → IsNetworkOf p s → w < length s.ways → slice_get s.wires (w / 2) ≡ None → ⊥
no_wire p s w is less e =
    let past = none_past s.wires (w / 2) e in
    let wires = ap length is.wires in
    let many = length-map p.wires wire_of in
    let count = is.ways in
    absurd (omega arith)

pub few_wires : (p : Plan) (s : State) (w : ℕ) → IsNetworkOf p s → w < length s.ways → w / 2 < 65536
few_wires p s w is less =
    let few = ways_few p is.accepted in
    let count = is.ways in
    omega arith

-- the switch of a number
pub switch_here : (p : Plan) (s : State) (k : ℕ) (x : SwitchState) → IsNetworkOf p s → switch_at (slice_get s.actors (s.nodes + k)) ≡ Some x → IsSwitchOf (network_of p) k x
switch_here p s k x is e = by_actor (slice_get s.actors (s.nodes + k)) refl e
  where
    by_actor : (o : Option Acting) → slice_get s.actors (s.nodes + k) ≡ o → switch_at o ≡ Some x → IsSwitchOf (network_of p) k x
    by_actor None at h = absurd (cc)
    by_actor (Some (OfNode n)) at h = absurd (cc)
    by_actor (Some (OfSwitch y)) at h =
        let same : y ≡ x = cc in
        let of = is.actors (s.nodes + k) (OfSwitch y) at in
        let first = is.nodes in
        let number : of.0 ≡ k = (let sum = of.1 in omega arith) in
        subst (IsSwitchOf (network_of p) k) same (subst (λ i. IsSwitchOf (network_of p) i y) number of.2)

pub switch_shown : (p : Plan) (s : State) (k : ℕ) (x : SwitchState) → IsNetworkOf p s → switch_at (slice_get s.actors (s.nodes + k)) ≡ Some x → switches (network_of p) (shown s) k ≡ seen x
switch_shown p s k x is e = ap (λ n. switch_of (shown_or (net.IsSwitch new_switch) actor_of (slice_get s.actors (n + k)))) (sym is.nodes) ∙ by_actor (slice_get s.actors (s.nodes + k)) e
  where
    by_actor : (o : Option Acting) → switch_at o ≡ Some x → switch_of (shown_or (net.IsSwitch new_switch) actor_of o) ≡ seen x
    by_actor None h = absurd (cc)
    by_actor (Some (OfNode n)) h = absurd (cc)
    by_actor (Some (OfSwitch y)) h = let same : y ≡ x = cc in ap seen same

pub switch_plan_is : (p : Plan) (s : State) (k : ℕ) (x : SwitchState) → IsNetworkOf p s → switch_at (slice_get s.actors (s.nodes + k)) ≡ Some x → plan_of x ≡ switch_plan (network_of p) k
switch_plan_is p s k x is e = (switch_here p s k x is e).given

-- there is none of a number past the plan's
pub no_switch_there : (p : Plan) (s : State) (k : ℕ) → IsNetworkOf p s → switch_at (slice_get s.actors (s.nodes + k)) ≡ None → length p.switches ≤ k
no_switch_there p s k is e = by_actor (slice_get s.actors (s.nodes + k)) refl e
  where
    by_actor : (o : Option Acting) → slice_get s.actors (s.nodes + k) ≡ o → switch_at o ≡ None → length p.switches ≤ k
    by_actor None at h =
        let past = none_past s.actors (s.nodes + k) at in
        let count = is.count in
        let first = is.nodes in
        omega arith
    by_actor (Some (OfNode n)) at h =
        let of = is.actors (s.nodes + k) (OfNode n) at in
        let less = of.0 in
        let first = is.nodes in
        absurd (omega arith)
    by_actor (Some (OfSwitch y)) at h = absurd (cc)

abbrev nothing : SwitchPlan
nothing = record { table = []; random = λ link. None; deletes = λ link. false }

pub no_switch_plan : (p : Plan) (k : ℕ) → length p.switches ≤ k → switch_plan (network_of p) k ≡ record { table = []; random = λ link. None; deletes = λ link. false }
no_switch_plan p k past = made to.switch_of p.switches k nothing ∙ ap (made_or nothing to.switch_of) (slice_get_past p.switches k past)

pub no_switch_shown : (p : Plan) (s : State) (k : ℕ) → IsNetworkOf p s → switch_at (slice_get s.actors (s.nodes + k)) ≡ None → switches (network_of p) (shown s) k ≡ new_switch
no_switch_shown p s k is e = ap (λ n. switch_of (shown_or (net.IsSwitch new_switch) actor_of (slice_get s.actors (n + k)))) (sym is.nodes) ∙ by_actor (slice_get s.actors (s.nodes + k)) e
  where
    by_actor : (o : Option Acting) → switch_at o ≡ None → switch_of (shown_or (net.IsSwitch new_switch) actor_of o) ≡ new_switch
    by_actor None h = refl
    by_actor (Some (OfNode n)) h = refl
    by_actor (Some (OfSwitch y)) h = absurd (cc)

-- nothing was found at any place of a way
pub none_on : (plan : network.Plan) (s : State) (c w : ℕ) → FindsAt plan (shown s) c (places.OnWire w) None → FindsAt plan (shown s) c (places.Inside w) None → FindsAt plan (shown s) c (places.Queue w) None →
    FindsOn plan (shown s) c w None
none_on plan s c w along within before place (inl at) has = before (subst (HasIts plan (shown s) c) at has)
none_on plan s c w along within before place (inr (inl at)) has = along (subst (HasIts plan (shown s) c) at has)
none_on plan s c w along within before place (inr (inr at)) has = within (subst (HasIts plan (shown s) c) at has)

-- the last of them decides
pub last_on : (plan : network.Plan) (s : State) (c w : ℕ) (o : Option Place) → FindsAt plan (shown s) c (places.OnWire w) None → FindsAt plan (shown s) c (places.Inside w) None → FindsAt plan (shown s) c (places.Queue w) o →
    FindsOn plan (shown s) c w o
last_on plan s c w None along within before = none_on plan s c w along within before
last_on plan s c w (Some x) along within before = (places.Queue w, inl refl, before)

-- and nothing has passed there
pub none_passed : (o : Option Interval) → [] ≡ without_random o []
none_passed None = refl
none_passed (Some i) = refl

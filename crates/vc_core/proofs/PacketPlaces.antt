-- What the code finds of a channel's packets is where they stand.
use Rattle.std.proofs.Common.{◌≡◌, ◌≢◌, ◌⊎◌, ◌↔◌, ℕ, suc, ◌<◌, ◌≤◌, Bool, true, false, not, List, length, map, Option, Some, None, IsSome, slice_get, refl, sym, ap, ◌∙◌, subst, inl, inr, arith}
use Rattle.std.specs.List.{Contains}
use Rattle.std.proofs.lemmas.Bool.{cases_eq, cases_lt, false≢true}
use Rattle.std.proofs.lemmas.List.{length-append, length-map}
use Rattle.std.proofs.lemmas.Option.{slice_get_past}
use Rattle.vc_packets.specs.declared.packet.Packet.{Packet}
use Rattle.vc_machine.specs.Places.{Queue, OnWire, Held, of_held, BelongsTo}
use Rattle.vc_machine.specs.Places as places
use Rattle.vc_machine.specs.Rendezvous.{nothing_yet}
use Rattle.vc_network.specs.Headline.{IsFaithful}
use Rattle.vc_network.specs.Network as net
use Rattle.vc_network.specs.Plan.{Home, Way, Inside, end_of, virtual_link, ways, home, is_virtual, net_of}
use Rattle.vc_network.specs.Plan as network
use Rattle.vc_network.specs.Views.{vcps, sink_node, everywhere, view, view_at, inner_of}
use Rattle.vc_network.proofs.Ownership.{each_owned, packets_are_short}
use Rattle.vc_network.proofs.Wiring.{carried}
use Rattle.vc_plan.specs.declared.plan.Plan.{Plan}
use Rattle.vc_accepted.specs.NetworkOf.{network_of, home_in}
use Rattle.vc_accepted.proofs.AcceptedNetwork.{accepted}
use Rattle.vc_accepted.proofs.Elements.{made, made_or}
use Rattle.vc_switch.specs.Switch.{new_switch}
use Rattle.vc_switch.specs.Waiting.{Wormhole}
use Rattle.vc_accepted.specs.Begin.{begin_of}
use Rattle.vc_accepted.specs.Process.{does}
use Rattle.vc_vcp.specs.Names.{named}
use Rattle.vc_packets.specs.Functions.{shown_or}
use Rattle.vc_core.specs.Channels.{ends_at, end_block}
use Rattle.vc_core.specs.Private.PacketPlace.{AreOwned, FindsOn, IsAt, packets_at}
use Rattle.vc_core.specs.PacketPlace.{FindsPlace, IsUnfinished}
use Rattle.vc_core.specs.Replay.{Reached, Replays}
use Rattle.vc_actor.specs.ActorView.{Acting, OfNode, OfSwitch, actor_of, view_of}
use Rattle.vc_core.specs.State.{State, shown, event_of, IsNetworkOf}
use Rattle.vc_core.specs.declared.event.Event.{Event}
use Rattle.vc_core.specs.declared.channels.Ends.{Ends}
use Rattle.vc_actor.specs.declared.inside.Internal.{Internal}
use Rattle.vc_core.specs.declared.place.Place.{Place}
use Rattle.vc_core.specs.declared.place.Place.TheVariants as name
use Rattle.vc_core.proofs.Everywhere.{IsThere, waits, goes, stays, rests, where_it_is, goes_there, rests_there, number_has, number_none, has_in, in_has}

-- after any events each packet on the ways belongs to a channel, and is no longer than the limit
pub are_owned : (p : Plan) (events : List Event) (s : State) → Reached p events s → AreOwned (network_of p) (shown s)
are_owned p events s r x here =
    let plan = network_of p in
    let acc = accepted p r.is.accepted in
    record {
      owner = each_owned plan Wormhole does (begin_of p) (map event_of events) (shown s) acc r.happen x here;
      short = packets_are_short plan Wormhole does (begin_of p) (map event_of events) (shown s) acc r.happen x here;
    }

-- a channel with ends is on a virtual link
on_link : (plan : network.Plan) (h : Home) (e : Ends) → ends_at plan h ≡ Some e → is_virtual h ≡ true
on_link plan (Way v ab) e h = refl
on_link plan (network.Inside n) e h = absurd (cc)

-- one of the channel's packets was found at a way
pub found_way : (p : Plan) (s : State) (c w : ℕ) (e : Ends) (x : Place) → ends_at (network_of p) (home (network_of p) c) ≡ Some e → w < ways (network_of p) →
    FindsOn (network_of p) (shown s) c w (Some x) → FindsPlace p s c (Some x)
found_way p s c w e x ends less (place, at, (has, named)) =
    let plan = network_of p in
    let r = has_in (λ q. BelongsTo (net_of plan) c (place, q)) (packets_at plan (shown s) place) has in
    (place, record { on_link = on_link plan (home plan c) e ends; here = (r.0, goes_there plan (shown s) w place r.0 less at r.1, r.2) }, named)

-- or it is held
held_one : (o : Option Packet) → o ≢ None → (p : Packet) × Contains (of_held o) p
held_one None ne = absurd (ne refl)
held_one (Some p) ne = (p, (0, omega arith, refl))

none_held : (o : Option Packet) (p : Packet) → Contains (of_held o) p → o ≢ None
none_held None p h = absurd (let l = h.1 in omega arith)
none_held (Some q) p h = λ e. absurd (cc)

sink_is : (plan : network.Plan) (h : Home) (e : Ends) → ends_at plan h ≡ Some e → sink_node plan h ≡ e.to.node
sink_is plan (Way v ab) e h =
    let same : record { from = end_block (end_of (virtual_link plan v) ab); to = end_block (end_of (virtual_link plan v) (not ab)) } ≡ e = cc in
    ap (λ (z : Ends). z.to.node) same
sink_is plan (network.Inside n) e h = absurd (cc)

pub found_held : (p : Plan) (s : State) (c : ℕ) (e : Ends) → ends_at (network_of p) (home (network_of p) c) ≡ Some e → c < length (network_of p).channels →
    ((vcps (shown s) e.to.node).carrier.into c).held ≢ None → FindsPlace p s c (Some (name.Held e.to.node))
found_held p s c e ends less held =
    let plan = network_of p in
    let sink = sink_is plan (home plan c) e ends in
    let r = held_one ((vcps (shown s) (sink_node plan (home plan c))).carrier.into c).held (subst (λ n. ((vcps (shown s) n).carrier.into c).held ≢ None) (sym sink) held) in
    (Held c, record { on_link = on_link plan (home plan c) e ends; here = (r.0, rests_there plan (shown s) c r.0 less r.1, refl) }, ap name.Held (sym sink))

-- nothing was found
at_none : (p : Plan) (s : State) (c w : ℕ) (place at : places.Place) (q : Packet) → FindsOn (network_of p) (shown s) c w None → IsAt w at → place ≡ at → Contains (packets_at (network_of p) (shown s) at) q → BelongsTo (net_of (network_of p)) c (place, q) → ⊥
at_none p s c w place at q nothing there same h b =
    let plan = network_of p in
    nothing at there (in_has (λ k. BelongsTo (net_of plan) c (at, k)) (packets_at plan (shown s) at) q h (subst (λ z. BelongsTo (net_of plan) c (z, q)) same b))

no_place : (p : Plan) (s : State) (c : ℕ) (e : Ends) → ends_at (network_of p) (home (network_of p) c) ≡ Some e →
    (((vcps (shown s) e.to.node).carrier.into c).held ≢ None → ⊥) → ((w : ℕ) → w < ways (network_of p) → FindsOn (network_of p) (shown s) c w None) →
    (place : places.Place) (q : Packet) → BelongsTo (net_of (network_of p)) c (place, q) → IsThere (network_of p) (shown s) place q → ⊥
no_place p s c e ends not_held nothing place q b (waits w less at h) = at_none p s c w place (Queue w) q (nothing w less) (inl refl) at h b
no_place p s c e ends not_held nothing place q b (goes w less at h) = at_none p s c w place (OnWire w) q (nothing w less) (inr (inl refl)) at h b
no_place p s c e ends not_held nothing place q b (stays w less at h) = at_none p s c w place (places.Inside w) q (nothing w less) (inr (inr refl)) at h b
no_place p s c e ends not_held nothing place q b (rests d less at h) =
    let plan = network_of p in
    let same : c ≡ d = subst (λ z. BelongsTo (net_of plan) c (z, q)) at b in
    let held = none_held ((vcps (shown s) (sink_node plan (home plan d))).carrier.into d).held q h in
    let held_c = subst (λ z. ((vcps (shown s) (sink_node plan (home plan z))).carrier.into z).held ≢ None) (sym same) held in
    not_held (subst (λ n. ((vcps (shown s) n).carrier.into c).held ≢ None) (sink_is plan (home plan c) e ends) held_c)

pub found_nowhere : (p : Plan) (s : State) (c : ℕ) (e : Ends) → ends_at (network_of p) (home (network_of p) c) ≡ Some e → (((vcps (shown s) e.to.node).carrier.into c).held ≢ None → ⊥) →
    ((w : ℕ) → w < ways (network_of p) → FindsOn (network_of p) (shown s) c w None) → FindsPlace p s c None
found_nowhere p s c e ends not_held nothing = λ place stands.
    no_place p s c e ends not_held nothing place stands.here.0 stands.here.2 (where_it_is (network_of p) (shown s) place stands.here.0 stands.here.1)

-- a channel with ends is one of the plan's
pub is_channel : (p : Plan) (c : ℕ) (e : Ends) → ends_at (network_of p) (home (network_of p) c) ≡ Some e → c < length (network_of p).channels
is_channel p c e h = by_home (home (network_of p) c) refl h
  where
    by_home : (k : Home) → home (network_of p) c ≡ k → ends_at (network_of p) k ≡ Some e → c < length (network_of p).channels
    by_home (Way v ab) at h = (carried (network_of p) c v ab at).0
    by_home (network.Inside n) at h = absurd (cc)

-- on a channel inside a node an output is finished at once
settled : (o : Option Internal) → length (shown_or nothing_yet view_of o).offered ≡ suc (shown_or nothing_yet view_of o).finished → ⊥
settled None e = absurd (omega (arith, e))
settled (Some x) e = omega (arith, e)

none_unfinished : (s : State) (plan : network.Plan) (c n : ℕ) → length (view_at plan (shown s) c (network.Inside n)).offered ≡ suc (view_at plan (shown s) c (network.Inside n)).finished → ⊥
none_unfinished s plan c n e = by_actor (slice_get s.actors n) e
  where
    by_actor : (o : Option Acting) → length (inner_of (shown_or (net.IsSwitch new_switch) actor_of o) c).offered ≡ suc (inner_of (shown_or (net.IsSwitch new_switch) actor_of o) c).finished → ⊥
    by_actor None e = absurd (omega (arith, e))
    by_actor (Some (OfNode n)) e = settled (named (λ x. x.chan) c n.inside) e
    by_actor (Some (OfSwitch x)) e = absurd (omega (arith, e))

-- a faithful channel's outputs are all finished but for one at most
finished_or : (plan : network.Plan) (s : State) (c : ℕ) → IsFaithful plan (shown s) c →
    (length (view plan (shown s) c).offered ≡ suc (view plan (shown s) c).finished) ⊎ (length (view plan (shown s) c).offered ≡ (view plan (shown s) c).finished)
finished_or plan s c f =
    let v = view plan (shown s) c in
    let rest = f.in_order.0 in
    let long = sym (length-append v.taken rest) ∙ ap length f.in_order.1 in
    let few = f.one_output in
    let done = f.finished in
    elim (cases_eq (length v.offered) v.finished) [
      | inl e ↦ inr e
      | inr ne ↦ inl (elim (cases_lt v.finished (length v.offered)) [ inl less ↦ omega arith | inr past ↦ absurd (ne (omega arith)) ])
    ]

-- on a channel inside a node no packet stands
no_link : (plan : network.Plan) (h : Home) → ends_at plan h ≡ None → is_virtual h ≡ false
no_link plan (Way v ab) none = absurd (cc)
no_link plan (Inside n) none = refl

pub none_stands : (p : Plan) (s : State) (c : ℕ) → ends_at (network_of p) (home (network_of p) c) ≡ None → FindsPlace p s c None
none_stands p s c none = λ place stands. false≢true (sym (no_link (network_of p) (home (network_of p) c) none) ∙ stands.on_link)

-- a packet is found exactly where an output is not finished
pub unfinished : (p : Plan) (events : List Event) (s : State) (c : ℕ) (r : Option Place) → Replays p events s → c < length p.channels → FindsPlace p s c r → IsSome r ↔ IsUnfinished p s c
unfinished p events s c r replays less finds = by_home (home plan c) refl
  where
    plan : network.Plan
    plan = network_of p

    below : c < length plan.channels
    below = subst (λ n. c < n) (sym (length-map p.channels home_in)) less

    on_way : (v : ℕ) (ab : Bool) → home plan c ≡ Way v ab → (o : Option Place) → FindsPlace p s c o → IsSome o ↔ IsUnfinished p s c
    on_way v ab at None finds =
        let its = replays.runs.headline.packets c v ab below at in (
          (λ t. absurd (cc)),
          (λ u.
              let r = number_has (BelongsTo (net_of plan) c) (everywhere plan (shown s)) 0 (its.one_packet u) in
              absurd (finds r.0.0 (record { on_link = ap is_virtual at; here = (r.0.1, r.1, r.2) }))),
        )
    on_way v ab at (Some x) (place, stands, named) =
        let its = replays.runs.headline.packets c v ab below at in (
          (λ t. elim (finished_or plan s c (replays.runs.headline.faithful c below)) [
            | inl u ↦ u
            | inr done ↦ absurd (number_none (BelongsTo (net_of plan) c) (everywhere plan (shown s)) (its.no_packet done) (place, stands.here.0) stands.here.1 stands.here.2)
          ]),
          (λ u. refl),
        )

    inside_node : (n : ℕ) → home plan c ≡ network.Inside n → (o : Option Place) → FindsPlace p s c o → IsSome o ↔ IsUnfinished p s c
    inside_node n at None finds = ((λ t. absurd (cc)), (λ u. absurd (none_unfinished s plan c n (subst (λ h. length (view_at plan (shown s) c h).offered ≡ suc (view_at plan (shown s) c h).finished) at u))))
    inside_node n at (Some x) (place, stands, named) = absurd (let e : false ≡ true = sym (ap is_virtual at) ∙ stands.on_link in cc)

    by_home : (h : Home) → home plan c ≡ h → IsSome r ↔ IsUnfinished p s c
    by_home (Way v ab) at = on_way v ab at r finds
    by_home (network.Inside n) at = inside_node n at r finds

-- a channel past the list has no ends
pub past_ends : (p : Plan) (s : State) (c : ℕ) → IsNetworkOf p s → length s.channels ≤ c → None ≡ ends_at (network_of p) (home (network_of p) c)
past_ends p s c is past =
    let few = is.channels.count in
    sym (ap (ends_at (network_of p)) (made home_in p.channels c (network.Inside (length p.nodes)) ∙ ap (made_or (network.Inside (length p.nodes)) home_in) (slice_get_past p.channels c (omega arith))))

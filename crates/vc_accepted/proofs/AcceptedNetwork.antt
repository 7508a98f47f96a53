-- An accepted plan is an accepted network.
use Rattle.std.proofs.Common.{◌≡◌, ℕ, ◌<◌, ◌≤◌, Bool, true, false, not, length, slice_get, Option, Some, None, refl, sym, ap, subst, ◌∙◌, arith, nat_lt, IsSome}
use Rattle.std.proofs.lemmas.Bool.Decides.{nat_tests}
use Rattle.std.proofs.lemmas.List.{length-map}
use Rattle.vc_labels.specs.declared.action.Action.TheVariants.{Out}
use Rattle.vc_labels.specs.Interval.{action_for}
use Rattle.vc_plan.specs.declared.plan.Plan.{Plan}
use Rattle.vc_plan.specs.declared.port.Port.{Port}
use Rattle.vc_plan.specs.declared.port.Spot.TheVariants.{Switch}
use Rattle.vc_plan.specs.declared.channel.Channel.{Channel}
use Rattle.vc_plan.specs.declared.channel.Home.{Home}
use Rattle.vc_plan.specs.declared.channel.Home.TheVariants as home
use Rattle.vc_plan.specs.declared.switch_plan.SwitchPlan.{SwitchPlan}
use Rattle.vc_plan.specs.declared.switch_plan.RandomInput.{RandomInput}
use Rattle.vc_plan.specs.declared.vlink.Vlink.{Vlink}
use Rattle.vc_plan.specs.Accepted as plan
use Rattle.vc_plan.specs.Delivery as plan_delivery
use Rattle.vc_plan.specs.Hops.{random_at}
use Rattle.vc_plan.specs.Limits.{home_there}
use Rattle.vc_plan.specs.Wires.{across, switch_at, sending_port, IsWiredAction}
use Rattle.vc_machine.specs.Paths.{AtNode, AtSwitch, Delivers}
use Rattle.vc_switch.specs.Forward.{Interval}
use Rattle.vc_switch.specs.Forward as forward
use Rattle.vc_network.specs.Plan as network
use Rattle.vc_network.specs.Plan.{IsAccepted, IsOutOf, IsWired, virtual_link, switch_plan, net_of, net_end}
use Rattle.vc_accepted.specs.NetworkOf.{network_of, port_of, wire_of, interval_of, link_of, end_of, home_of, home_in}
use Rattle.vc_accepted.proofs.Elements.{made, made_or, made_at, there}
use Rattle.vc_accepted.proofs.Ports.{one_port_of, side_of, port_back}
use Rattle.vc_accepted.proofs.Across.{wire_is, way_across, across_way, leads}
use Rattle.vc_accepted.proofs.Groups.{row_of}
use Rattle.vc_accepted.proofs.Delivery.{switch_is, delivers}
use Rattle.vc_accepted.proofs.Limits.{route_fits, six_headers, range_fits, home_fits}

one_port : (p : Plan) → plan.IsAccepted p → (i j : ℕ) (a b : Bool) → i < length (network_of p).wires → j < length (network_of p).wires →
    network.port_of (network.wire (network_of p) i) a ≡ network.port_of (network.wire (network_of p) j) b → (i ≡ j) × (a ≡ b)
one_port p acc i j a b h k e =
    let v = there wire_of p.wires i h in
    let w = there wire_of p.wires j k in
    let same = sym (side_of v.0 a) ∙ ap (λ z. network.port_of z a) (sym (wire_is p i v.0 v.1)) ∙ e ∙ ap (λ z. network.port_of z b) (wire_is p j w.0 w.1) ∙ side_of w.0 b in
    acc.one_port i j v.0 w.0 a b v.1 w.1 (one_port_of (plan.port_of v.0 a) (plan.port_of w.0 b) same)

-- a port with a port across is on a wire
some_across : (p : Plan) (a : Port) (o : Option Port) → across p.wires a ≡ o → IsSome o → IsWired (network_of p) (port_of a)
some_across p a None e h = absurd (cc)
some_across p a (Some q) e h = let way = way_across p a q e in (way.0, (way.1.real, way.1.leaves))

end_side : (x : Vlink) (a : Bool) → network.end_of (link_of x) a ≡ end_of (plan.end_of x a)
end_side x true = refl
end_side x false = refl

pub end_is : (p : Plan) (v : ℕ) (x : Vlink) (a : Bool) → slice_get p.vlinks v ≡ Some x → network.end_of (virtual_link (network_of p) v) a ≡ end_of (plan.end_of x a)
end_is p v x a e = ap (λ z. network.end_of z a) (made_at link_of p.vlinks v _ x e) ∙ end_side x a

sends : (p : Plan) → plan.IsAccepted p → (v : ℕ) (a : Bool) → v < length (network_of p).links →
    IsWired (network_of p) (AtNode (network.end_of (virtual_link (network_of p) v) a).node (network.end_of (virtual_link (network_of p) v) a).link)
sends p acc v a h =
    let x = there link_of p.vlinks v h in
    let from = sending_port (plan.end_of x.0 a) in
    subst (λ (z : network.End). IsWired (network_of p) (AtNode z.node z.link)) (sym (end_is p v x.0 a x.1)) (some_across p from (across p.wires from) refl (acc.sends v x.0 a x.1))

groups : (p : Plan) → plan.IsAccepted p → (k header first last link : ℕ) → action_for (switch_plan (network_of p) k).table header ≡ Some (Out first last) → first ≤ link → link ≤ last →
    IsWired (network_of p) (AtSwitch k link)
groups p acc k header first last link e a b = by_switch (switch_at p k) refl
  where
    by_switch : (o : Option SwitchPlan) → switch_at p k ≡ o → IsWired (network_of p) (AtSwitch k link)
    by_switch None n =
        let none : None ≡ Some (Out first last) = sym (ap (λ (z : forward.SwitchPlan). action_for z.table header) (switch_is p k None n)) ∙ e in
        absurd (cc)
    by_switch (Some s) n =
        let r = row_of s.rows header (Out first last) (sym (ap (λ (z : forward.SwitchPlan). action_for z.table header) (switch_is p k (Some s) n)) ∙ e) in
        let w : IsWiredAction p k (Out first last) = subst (IsWiredAction p k) r.3 ((acc.tables k s n).wired r.0 r.1 r.2) in
        let from : Port = record { spot = Switch k; link = link } in
        some_across p from (across p.wires from) refl (w.1 link a b)

one_end : (p : Plan) → plan.IsAccepted p → (v u : ℕ) (a b : Bool) → v < length (network_of p).links → u < length (network_of p).links →
    (network.end_of (virtual_link (network_of p) v) a).node ≡ (network.end_of (virtual_link (network_of p) u) b).node →
    (network.end_of (virtual_link (network_of p) v) a).block ≡ (network.end_of (virtual_link (network_of p) u) b).block → (v ≡ u) × (a ≡ b)
one_end p acc v u a b h k e f =
    let x = there link_of p.vlinks v h in
    let y = there link_of p.vlinks u k in
    let ex = end_is p v x.0 a x.1 in
    let ey = end_is p u y.0 b y.1 in
    acc.one_end v u x.0 y.0 a b x.1 y.1 (sym (ap (λ (z : network.End). z.node) ex) ∙ e ∙ ap (λ (z : network.End). z.node) ey)
    (sym (ap (λ (z : network.End). z.block) ex) ∙ f ∙ ap (λ (z : network.End). z.block) ey)

-- a channel of the network on a way is a channel of the plan on that way
pub record OnWay (p : Plan) (c v : ℕ) (ab : Bool) : Type 0 where
  pub channel : Channel
  pub there : slice_get p.channels c ≡ Some channel
  pub is : channel.home ≡ home.Way v ab

way_is : (h : Home) (v : ℕ) (ab : Bool) → home_of h ≡ network.Way v ab → h ≡ home.Way v ab
way_is (home.Way u f) v ab e =
    let a : u ≡ v = cc in
    let b : f ≡ ab = cc in
    λ i. home.Way (a i) (b i)
way_is (home.Inside n) v ab e = absurd (cc)

pub on_way : (p : Plan) (c v : ℕ) (ab : Bool) → network.home (network_of p) c ≡ network.Way v ab → OnWay p c v ab
on_way p c v ab e = by_channel (slice_get p.channels c) refl (sym (made home_in p.channels c (network.Inside (length p.nodes))) ∙ e)
  where
    by_channel : (o : Option Channel) → slice_get p.channels c ≡ o → made_or (network.Inside (length p.nodes)) home_in o ≡ network.Way v ab → OnWay p c v ab
    by_channel None h e = absurd (cc)
    by_channel (Some x) h e = record { channel = x; there = h; is = way_is x.home v ab e }

below : (m n : ℕ) → nat_lt m n ≡ true → m < n
below m n h = grind (arith, nat_tests)

pub on_link : (p : Plan) → plan.IsAccepted p → (c v : ℕ) (ab : Bool) → network.home (network_of p) c ≡ network.Way v ab → v < length (network_of p).links
on_link p acc c v ab e =
    let w = on_way p c v ab e in
    let h : home_there p (home.Way v ab) ≡ true = subst (λ z. home_there p z ≡ true) w.is (home_fits p acc c w.channel w.there) in
    subst (λ z. v < z) (sym (length-map p.vlinks link_of)) (below v (length p.vlinks) h)

one_channel : (p : Plan) → plan.IsAccepted p → (c d v : ℕ) (ab : Bool) → network.home (network_of p) c ≡ network.Way v ab → network.home (network_of p) d ≡ network.Way v ab → c ≡ d
one_channel p acc c d v ab e f =
    let x = on_way p c v ab e in
    let y = on_way p d v ab f in
    acc.one_channel c d x.channel y.channel v ab x.there y.there x.is y.is

-- delivery from an end to an end that are the same
moved : (N : network.Plan) (fuel w : ℕ) (e f d g : network.End) → e ≡ d → f ≡ g → Delivers (net_of N) fuel w d.route (net_end N g) → Delivers (net_of N) fuel w e.route (net_end N f)
moved N fuel w e f d g s t h = subst (λ (z : network.End). Delivers (net_of N) fuel w z.route (net_end N f)) (sym s) (subst (λ z. Delivers (net_of N) fuel w d.route (net_end N z)) (sym t) h)

labelled : (p : Plan) → plan.IsAccepted p → (v : ℕ) (x : Vlink) (a : Bool) → slice_get p.vlinks v ≡ Some x → plan_delivery.DeliversTo p (plan.end_of x a) (plan.end_of x (not a))
labelled p acc v x true e = (acc.labelled v x e).there
labelled p acc v x false e = (acc.labelled v x e).back

delivery : (p : Plan) → plan.IsAccepted p → (v w : ℕ) (a : Bool) → v < length (network_of p).links →
    IsOutOf (network_of p) w (AtNode (network.end_of (virtual_link (network_of p) v) a).node (network.end_of (virtual_link (network_of p) v) a).link) →
    Delivers (net_of (network_of p)) 32 w (network.end_of (virtual_link (network_of p) v) a).route (net_end (network_of p) (network.end_of (virtual_link (network_of p) v) (not a)))
delivery p acc v w a h o =
    let x = there link_of p.vlinks v h in
    let ex = end_is p v x.0 a x.1 in
    let from = plan.end_of x.0 a in
    let to = plan.end_of x.0 (not a) in
    let g = leads p w (sending_port from) (subst (λ (z : network.End). IsOutOf (network_of p) w (AtNode z.node z.link)) ex o) in
    let q = port_back (network.far (network_of p) w) in
    moved (network_of p) 32 w (network.end_of (virtual_link (network_of p) v) a) (network.end_of (virtual_link (network_of p) v) (not a)) (end_of from) (end_of to) ex (end_is p v x.0 (not a) x.1)
    (delivers p acc.one_port to 32 w (sending_port from) q from.route g (labelled p acc v x.0 a x.1 q (across_way p acc.one_port w (sending_port from) q g)))

headers : (p : Plan) → plan.IsAccepted p → (v : ℕ) (a : Bool) → v < length (network_of p).links → length (network.end_of (virtual_link (network_of p) v) a).route ≤ (network_of p).headers
headers p acc v a h =
    let x = there link_of p.vlinks v h in
    subst (λ (z : network.End). length z.route ≤ (network_of p).headers) (sym (end_is p v x.0 a x.1)) (route_fits p acc v x.0 a x.1)

-- a random range of the network is one of the plan
record Ranged (p : Plan) (k link : ℕ) (i : Interval) : Type 0 where
  switch : SwitchPlan
  range : RandomInput
  there : slice_get p.switches k ≡ Some switch
  found : random_at switch.random link ≡ Some range
  lower : i.lower ≡ range.lower
  limit : i.limit ≡ range.limit

ranged : (p : Plan) (k link : ℕ) (i : Interval) → (switch_plan (network_of p) k).random link ≡ Some i → Ranged p k link i
ranged p k link i e = by_switch (switch_at p k) refl
  where
    by_range : (s : SwitchPlan) → switch_at p k ≡ Some s → (o : Option RandomInput) → random_at s.random link ≡ o → interval_of o ≡ Some i → Ranged p k link i
    by_range s n None f g = absurd (cc)
    by_range s n (Some r) f g =
        let same : i ≡ record { lower = r.lower; limit = r.limit } = sym (cc) in
        record { switch = s; range = r; there = n; found = f; lower = ap (λ (z : Interval). z.lower) same; limit = ap (λ (z : Interval). z.limit) same }

    by_switch : (o : Option SwitchPlan) → switch_at p k ≡ o → Ranged p k link i
    by_switch None n =
        let none : None ≡ Some i = sym (ap (λ (z : forward.SwitchPlan). z.random link) (switch_is p k None n)) ∙ e in
        absurd (cc)
    by_switch (Some s) n = by_range s n (random_at s.random link) refl (sym (ap (λ (z : forward.SwitchPlan). z.random link) (switch_is p k (Some s) n)) ∙ e)

sixth : (p : Plan) → plan.IsAccepted p → (k link : ℕ) (i : Interval) → (switch_plan (network_of p) k).random link ≡ Some i → 6 ≤ (network_of p).headers
sixth p acc k link i e = let r = ranged p k link i e in six_headers p acc k link r.switch r.range r.there r.found

ranges : (p : Plan) → plan.IsAccepted p → (k link : ℕ) (i : Interval) → (switch_plan (network_of p) k).random link ≡ Some i → i.lower < i.limit
ranges p acc k link i e =
    let r = ranged p k link i e in
    let less = range_fits p acc k link r.switch r.range r.there r.found in
    let a = r.lower in
    let b = r.limit in
    omega arith

pub accepted : (p : Plan) → plan.IsAccepted p → IsAccepted (network_of p)
accepted p acc = record {
  one_port = one_port p acc;
  sends = sends p acc;
  groups = groups p acc;
  one_end = one_end p acc;
  on_link = on_link p acc;
  one_channel = one_channel p acc;
  delivers = delivery p acc;
  headers = headers p acc;
  sixth = sixth p acc;
  ranges = ranges p acc;
}

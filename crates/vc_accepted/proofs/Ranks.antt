-- Where the ports of an accepted plan have ranks, so have the ways of its network: a way has the rank of the port by which it leaves.
use Rattle.std.proofs.Common.{◌≡◌, ℕ, ◌<◌, Bool, true, not, if◌then◌else◌, length, List, ◌∷◌, Option, Some, None, slice_get, refl, sym, ap, subst, ◌∙◌}
use Rattle.vc_labels.specs.declared.action.Action.TheVariants.{Out}
use Rattle.vc_labels.specs.Interval.{action_for}
use Rattle.vc_plan.specs.declared.plan.Plan.{Plan}
use Rattle.vc_plan.specs.declared.port.Port.{Port}
use Rattle.vc_plan.specs.declared.port.Spot.TheVariants.{Node, Switch}
use Rattle.vc_plan.specs.declared.switch_plan.SwitchPlan.{SwitchPlan}
use Rattle.vc_plan.specs.declared.vlink.Vlink.{Vlink}
use Rattle.vc_plan.specs.Accepted as plan
use Rattle.vc_plan.specs.Dependencies.{CanLeave, first, later, GoesTo, DependsOn}
use Rattle.vc_plan.specs.Dependencies as plan_ranks
use Rattle.vc_plan.specs.Hops.{random_at, range_in, passage_at, left_by, after_link, IsHop}
use Rattle.vc_plan.specs.Hops as hops
use Rattle.vc_plan.specs.Wires.{across, switch_at}
use Rattle.vc_machine.specs.Paths.{AtNode, AtSwitch, Net, End, Carries, Leaves, Delivers}
use Rattle.vc_machine.specs.Paths as paths
use Rattle.vc_machine.specs.Dependencies.{CanStand, by_piece, by_ack, by_hop, Depends, HasRanks}
use Rattle.vc_machine.proofs.Cover.{onward}
use Rattle.vc_switch.specs.Forward.{IsDrawn, HasRoom, behind, without_portals}
use Rattle.vc_switch.specs.Forward as forward
use Rattle.vc_network.specs.Plan.{Home, Way, Inside, home, near, far, ways, way_from, is_virtual, virtual_link, switch_plan, net_of, net_channel}
use Rattle.vc_network.specs.Plan as network
use Rattle.vc_network.proofs.Wires.{found_by}
use Rattle.vc_network.proofs.Wiring.{net_accepted}
use Rattle.vc_accepted.specs.NetworkOf.{network_of, link_of}
use Rattle.vc_accepted.proofs.AcceptedNetwork.{accepted, end_is}
use Rattle.vc_accepted.proofs.Across.{Goes, across_way}
use Rattle.vc_accepted.proofs.Delivery.{switch_is}
use Rattle.vc_accepted.proofs.Elements.{there}
use Rattle.vc_accepted.proofs.Groups.{passes, drawn}
use Rattle.vc_accepted.proofs.Ports.{port_back, back_then_of}

-- what can stand on a way is delivered from there
stands_deliver : (net : Net) → paths.IsAccepted net → (w : ℕ) (s : List ℕ) → CanStand net w s → (fuel : ℕ) × (e : End) × Delivers net fuel w s e
stands_deliver net acc w s (by_piece c real) = (32, (net.chan c).to, acc.there c real)
stands_deliver net acc w s (by_ack c real) = (32, (net.chan c).from, acc.back c real)
stands_deliver net acc w s (by_hop {w = v} {out = out} {s = r} {t = t} n i x stands far draw leaves) =
    let d = stands_deliver net acc v r stands in
    let o = onward net d.0 v r d.1 n i x far draw d.2 in
    let next = o.each out t leaves in
    (next.0, d.1, next.2)

-- it is a way of the network
stands_real : (net : Net) → paths.IsAccepted net → (w : ℕ) (s : List ℕ) → CanStand net w s → w < net.ways
stands_real net acc w s (by_piece c real) = (acc.ways c real).0
stands_real net acc w s (by_ack c real) = (acc.ways c real).1
stands_real net acc w s (by_hop n i x stands far draw leaves) = leaves.real

-- and there is room for what a switch puts in front
stands_room : (net : Net) → paths.IsAccepted net → (w : ℕ) (s : List ℕ) (n i : ℕ) (v : Option ℕ) → CanStand net w s → net.far w ≡ AtSwitch n i → IsDrawn ((net.switch n).random i) v → HasRoom v s
stands_room net acc w s n i v stands far draw =
    let d = stands_deliver net acc w s stands in
    (onward net d.0 w s d.1 n i v far draw d.2).room

-- a packet of some virtual link can leave by this port with these headers
record IsSent (p : Plan) (q : Port) (s : List ℕ) : Type 0 where
  pub index : ℕ
  pub vlink : Vlink
  pub there : slice_get p.vlinks index ≡ Some vlink
  pub leaves : CanLeave p vlink q s

module _ (p : Plan) (acc : plan.IsAccepted p) where
  abbrev N : network.Plan
  N = network_of p

  abbrev net : Net
  net = net_of N

  ok : paths.IsAccepted net
  ok = net_accepted N (accepted p acc)

  -- a way goes from its port to the port across
  goes : (w : ℕ) → w < ways N → Goes p w (port_back (near N w)) (port_back (far N w))
  goes w real = record { real = real; leaves = sym (back_then_of (near N w)); comes = sym (back_then_of (far N w)) }

  crosses : (w : ℕ) → w < ways N → across p.wires (port_back (near N w)) ≡ Some (port_back (far N w))
  crosses w real = across_way p acc.one_port w (port_back (near N w)) (port_back (far N w)) (goes w real)

  -- what leaves a switch of the network makes a hop of the plan
  hop_by : (n i : ℕ) (s : List ℕ) (v : Option ℕ) (w : ℕ) (t : List ℕ) → IsDrawn ((switch_plan N n).random i) v → HasRoom v s → (l : Leaves net n (behind v s) w t) → (o : Option SwitchPlan) → switch_at p n ≡ o →
      IsHop p (record { spot = Switch n; link = i }) s (record { switch = n; value = v; link = l.link }) (port_back (far N w)) t
  hop_by n i s v w t d room l None e =
      let none : None ≡ Some (Out l.first l.last) = sym (ap (λ (z : forward.SwitchPlan). action_for z.table l.header) (switch_is p n None e)) ∙ l.group in
      absurd (cc)
  hop_by n i s v w t d room l (Some sp) e =
      let sw = switch_is p n (Some sp) e in
      let front : without_portals sp.rows (behind v s) ≡ l.header ∷ l.rest = sym (ap (λ (z : forward.SwitchPlan). without_portals z.table (behind v s)) sw) ∙ l.front in
      let group : action_for sp.rows l.header ≡ Some (Out l.first l.last) = sym (ap (λ (z : forward.SwitchPlan). action_for z.table l.header) sw) ∙ l.group in
      let left : t ≡ after_link sp.delete l.link (l.header ∷ l.rest) = l.left ∙ ap (λ (z : forward.SwitchPlan). if z.deletes l.link then l.rest else l.header ∷ l.rest) sw in
      let d' = drawn (random_at sp.random i) v (subst (λ (z : forward.SwitchPlan). IsDrawn (z.random i) v) sw d) in
      record {
        first = l.first;
        last = l.last;
        out = l.header ∷ l.rest;
        at = refl;
        drawn = subst (λ z. hops.IsDrawn (range_in z i) v) (sym e) d';
        goes = ap (λ z. passage_at z v s) e ∙ passes sp.rows v s l.first l.last l.header l.rest room front group;
        low = l.low;
        high = l.high;
        far = subst (λ z. across p.wires z ≡ Some (port_back (far N w))) (ap port_back l.near) (crosses w l.real);
        left = left ∙ sym (ap (λ z. left_by z l.link (l.header ∷ l.rest)) e);
      }

  -- the port at the far end of a way to a switch
  far_is : (w n i : ℕ) → w < ways N → far N w ≡ AtSwitch n i → across p.wires (port_back (near N w)) ≡ Some (record { spot = Switch n; link = i })
  far_is w n i real e = crosses w real ∙ ap (λ q. Some (port_back q)) e

  -- an end of a virtual link sends by its port
  from_end : (v : ℕ) (ab : Bool) → v < length N.links → let e = network.end_of (virtual_link N v) ab in IsSent p (port_back (near N (way_from N (AtNode e.node e.link)))) e.route
  from_end v ab less =
      let e = network.end_of (virtual_link N v) ab in
      let x = there link_of p.vlinks v less in
      let found = found_by N (AtNode e.node e.link) ((accepted p acc).sends v ab less) in
      record {
        index = v;
        vlink = x.0;
        there = x.1;
        leaves =
            subst (λ q. CanLeave p x.0 (port_back q) e.route) (sym found.1)
            (subst (λ (z : network.End). CanLeave p x.0 (record { spot = Node z.node; link = z.link }) z.route) (sym (end_is p v x.0 ab x.1)) (first ab));
      }

  from_channel : (c : ℕ) → Carries net c → IsSent p (port_back (near N (net.chan c).from.way)) (net.chan c).from.route
  from_channel c real = by_home (home N c) refl real.1
    where
      by_home : (h : Home) → home N c ≡ h → is_virtual h ≡ true → IsSent p (port_back (near N (net_channel N h).from.way)) (net_channel N h).from.route
      by_home (Way v ab) e t = from_end v ab ((accepted p acc).on_link c v ab e)
      by_home (Inside n) e t = absurd (cc)

  to_channel : (c : ℕ) → Carries net c → IsSent p (port_back (near N (net.chan c).to.way)) (net.chan c).to.route
  to_channel c real = by_home (home N c) refl real.1
    where
      by_home : (h : Home) → home N c ≡ h → is_virtual h ≡ true → IsSent p (port_back (near N (net_channel N h).to.way)) (net_channel N h).to.route
      by_home (Way v ab) e t = from_end v (not ab) ((accepted p acc).on_link c v ab e)
      by_home (Inside n) e t = absurd (cc)

  -- a packet that goes on from a way by another makes a hop of the plan
  goes_on : (w out n i : ℕ) (s t : List ℕ) (v : Option ℕ) → CanStand net w s → (at : net.far w ≡ AtSwitch n i) → IsDrawn ((net.switch n).random i) v → Leaves net n (behind v s) out t →
      GoesTo p (port_back (near N w)) s (port_back (near N out)) t
  goes_on w out n i s t v stands at draw l =
      let real = stands_real net ok w s stands in
      let room = stands_room net ok w s n i v stands at draw in
      record {
        far = record { spot = Switch n; link = i };
        hop = record { switch = n; value = v; link = l.link };
        to = port_back (far N out);
        comes = far_is w n i real at;
        goes = hop_by n i s v out t draw room l (switch_at p n) refl;
        port = ap port_back l.near;
      }

  -- what can stand on a way can leave by its port
  leaves_there : (w : ℕ) (s : List ℕ) → CanStand net w s → IsSent p (port_back (near N w)) s
  leaves_there w s (by_piece c real) = from_channel c real
  leaves_there w s (by_ack c real) = to_channel c real
  leaves_there w s (by_hop {w = v} {out = out} {s = r} {t = t} n i x stands far draw leaves) =
      let sent = leaves_there v r stands in
      record { index = sent.index; vlink = sent.vlink; there = sent.there; leaves = later sent.leaves (goes_on v out n i r t x stands far draw leaves) }

  depends_there : (w out : ℕ) → Depends net w out → DependsOn p (port_back (near N w)) (port_back (near N out))
  depends_there w out d =
      let sent = leaves_there w d.headers d.stands in
      record {
        index = sent.index;
        vlink = sent.vlink;
        headers = d.headers;
        after = d.after;
        there = sent.there;
        leaves = sent.leaves;
        goes = goes_on w out d.switch d.link d.headers d.after d.drawn d.stands d.far d.draw d.leaves;
      }

  pub ranked : plan_ranks.HasRanks p → HasRanks net
  ranked r = record { rank = λ w. r.rank (port_back (near N w)); rises = λ w out d. r.rises (port_back (near N w)) (port_back (near N out)) (depends_there w out d) }

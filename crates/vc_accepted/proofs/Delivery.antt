-- What the checker calls delivery is delivery in the network.
use Rattle.std.proofs.Common.{◌≡◌, ℕ, zero, suc, ◌≤◌, false, List, [], ◌∷◌, Option, Some, None, refl, sym, ap, subst, ◌∙◌, if◌then◌else◌}
use Rattle.vc_labels.specs.declared.action.Action.TheVariants.{Out}
use Rattle.vc_labels.specs.Interval.{action_for}
use Rattle.vc_plan.specs.declared.plan.Plan.{Plan}
use Rattle.vc_plan.specs.declared.port.Port.{Port}
use Rattle.vc_plan.specs.declared.port.Spot.{Spot}
use Rattle.vc_plan.specs.declared.port.Spot.TheVariants.{Node, Switch}
use Rattle.vc_plan.specs.declared.switch_plan.SwitchPlan.{SwitchPlan}
use Rattle.vc_plan.specs.declared.vlink.End.{End}
use Rattle.vc_plan.specs.declared.path_fault.Hop.{Hop}
use Rattle.vc_plan.specs.Hops.{random_at, passage, passage_at, range_in, left_by, after_link, deletes, IsHop, SomeHop}
use Rattle.vc_plan.specs.Hops as hops
use Rattle.vc_plan.specs.Delivery as plan
use Rattle.vc_plan.specs.Wires.{across, switch_at}
use Rattle.vc_machine.specs.Paths.{GoesOn, IsWellAt, Delivers}
use Rattle.vc_machine.specs.Paths as paths
use Rattle.vc_switch.specs.Forward.{IsDrawn, HasRoom, behind, without_portals}
use Rattle.vc_switch.specs.Forward as forward
use Rattle.vc_network.specs.Plan.{far, switch_plan, net_of, net_end}
use Rattle.vc_accepted.specs.NetworkOf.{network_of, port_at, switch_of, end_of}
use Rattle.vc_accepted.proofs.Elements.{made, made_or}
use Rattle.vc_accepted.proofs.Ports.{port_back}
use Rattle.vc_accepted.proofs.Across.{OnePort, Goes, way_across, across_way, leads}
use Rattle.vc_accepted.proofs.Groups.{HasGroup, Passes, passed, passes, drawn}

-- a switch past the list has an empty table
abbrev pub no_switch : forward.SwitchPlan
no_switch = record { table = []; random = λ link. None; deletes = λ link. false }

pub switch_is : (p : Plan) (n : ℕ) (o : Option SwitchPlan) → switch_at p n ≡ o → switch_plan (network_of p) n ≡ made_or no_switch switch_of o
switch_is p n o e = made switch_of p.switches n no_switch ∙ ap (made_or no_switch switch_of) e

-- what is well at the far end of a way in the plan is well at the way in the network
abbrev Carries : Plan → (Port → List ℕ → Type 0) → (ℕ → List ℕ → Type 0) → Type 0
Carries p Well Ways = (w : ℕ) (a q : Port) (t : List ℕ) → Goes p w a q → Well q t → Ways w t

abbrev at_switch : ℕ → ℕ → Port
at_switch n link = record { spot = Switch n; link = link }

-- all is well in a switch of the plan, by the values that it may draw
record AllWell (p : Plan) (Well : Port → List ℕ → Type 0) (n link : ℕ) (s : List ℕ) : Type 0 where
  some : (v : Option ℕ) → hops.IsDrawn (range_in (switch_at p n) link) v → SomeHop p (at_switch n link) s v
  each : (h : Hop) (q : Port) (t : List ℕ) → IsHop p (at_switch n link) s h q t → Well q t

number_is : (m n : ℕ) → Switch m ≡ Switch n → m ≡ n
number_is m n e = cc

-- a hop's passage, and the way that it takes
record Onward (p : Plan) (n : ℕ) (sp : SwitchPlan) (s : List ℕ) (v : Option ℕ) : Type 0 where
  link : ℕ
  first : ℕ
  last : ℕ
  out : List ℕ
  to : Port
  low : first ≤ link
  high : link ≤ last
  goes : Passes sp.rows v s first last out
  far : across p.wires (at_switch n link) ≡ Some to

onward : (p : Plan) (n link : ℕ) (s : List ℕ) (sp : SwitchPlan) (v : Option ℕ) → switch_at p n ≡ Some sp → SomeHop p (at_switch n link) s v → Onward p n sp s v
onward p n link s sp v e (h, q, t, value, i) =
    let same : h.switch ≡ n = sym (number_is n h.switch i.at) in
    record {
      link = h.link;
      first = i.first;
      last = i.last;
      out = i.out;
      to = q;
      low = i.low;
      high = i.high;
      goes = sym (ap (λ z. passage_at z v s) (ap (switch_at p) same ∙ e)) ∙ ap (λ z. passage_at (switch_at p h.switch) z s) (sym value) ∙ i.goes;
      far = ap (λ z. across p.wires (at_switch z h.link)) (sym same) ∙ i.far;
    }

some_way : (p : Plan) (n : ℕ) (sp : SwitchPlan) (s : List ℕ) (v : Option ℕ) → switch_plan (network_of p) n ≡ switch_of sp → (o : Onward p n sp s v) →
    HasGroup sp.rows (behind v s) o.first o.last o.out → (w : ℕ) × (t : List ℕ) × paths.Leaves (net_of (network_of p)) n (behind v s) w t
some_way p n sp s v sw o g =
    let way = way_across p (at_switch n o.link) o.to o.far in (
      way.0,
      if (switch_plan (network_of p) n).deletes o.link then g.rest else g.header ∷ g.rest,
      record {
        header = g.header;
        rest = g.rest;
        first = o.first;
        last = o.last;
        link = o.link;
        front = ap (λ (z : forward.SwitchPlan). without_portals z.table (behind v s)) sw ∙ g.front;
        group = ap (λ (z : forward.SwitchPlan). action_for z.table g.header) sw ∙ g.group;
        low = o.low;
        high = o.high;
        real = way.1.real;
        near = way.1.leaves;
        left = refl;
      },
    )

each_way : (p : Plan) → OnePort p.wires → (Well : Port → List ℕ → Type 0) (Ways : ℕ → List ℕ → Type 0) → Carries p Well Ways → (n link : ℕ) (s : List ℕ) (sp : SwitchPlan) (v : Option ℕ) →
    switch_at p n ≡ Some sp → switch_plan (network_of p) n ≡ switch_of sp → AllWell p Well n link s → hops.IsDrawn (range_in (switch_at p n) link) v → HasRoom v s →
    (w : ℕ) (t : List ℕ) → paths.Leaves (net_of (network_of p)) n (behind v s) w t → Ways w t
each_way p one Well Ways carry n link s sp v e sw all d room w t l =
    let goes = leads p w (at_switch n l.link) (l.real, l.near) in
    let q = port_back (far (network_of p) w) in
    let front : without_portals sp.rows (behind v s) ≡ l.header ∷ l.rest = sym (ap (λ (z : forward.SwitchPlan). without_portals z.table (behind v s)) sw) ∙ l.front in
    let group : action_for sp.rows l.header ≡ Some (Out l.first l.last) = sym (ap (λ (z : forward.SwitchPlan). action_for z.table l.header) sw) ∙ l.group in
    let left : t ≡ after_link sp.delete l.link (l.header ∷ l.rest) = l.left ∙ ap (λ (z : forward.SwitchPlan). if z.deletes l.link then l.rest else l.header ∷ l.rest) sw in
    carry w (at_switch n l.link) q t goes
    (all.each (record { switch = n; value = v; link = l.link }) q t
    (record {
      first = l.first;
      last = l.last;
      out = l.header ∷ l.rest;
      at = refl;
      drawn = d;
      goes = ap (λ z. passage_at z v s) e ∙ passes sp.rows v s l.first l.last l.header l.rest room front group;
      low = l.low;
      high = l.high;
      far = across_way p one w (at_switch n l.link) q goes;
      left = left ∙ sym (ap (λ z. left_by z l.link (l.header ∷ l.rest)) e);
    }))

in_switch : (p : Plan) → OnePort p.wires → (Well : Port → List ℕ → Type 0) (Ways : ℕ → List ℕ → Type 0) → Carries p Well Ways → (n link : ℕ) (s : List ℕ) (o : Option SwitchPlan) →
    switch_at p n ≡ o → AllWell p Well n link s → (v : Option ℕ) → IsDrawn ((switch_plan (network_of p) n).random link) v →
    HasRoom v s × GoesOn (net_of (network_of p)) Ways n (behind v s)
in_switch p one Well Ways carry n link s (Some sp) e all v d =
    let sw = switch_is p n (Some sp) e in
    let d' = drawn (random_at sp.random link) v (subst (λ (z : forward.SwitchPlan). IsDrawn (z.random link) v) sw d) in
    let d'' : hops.IsDrawn (range_in (switch_at p n) link) v = subst (λ z. hops.IsDrawn (range_in z link) v) (sym e) d' in
    let on = onward p n link s sp v e (all.some v d'') in
    let g = passed sp.rows v s on.first on.last on.out on.goes in
    (g.0, (some_way p n sp s v sw on g.1, each_way p one Well Ways carry n link s sp v e sw all d'' g.0))
in_switch p one Well Ways carry n link s None e all v d = nothing v (subst (λ (z : forward.SwitchPlan). IsDrawn (z.random link) v) (switch_is p n None e) d)
  where
    stopped : SomeHop p (at_switch n link) s None → ⊥
    stopped (h, q, t, value, i) =
        let same : h.switch ≡ n = sym (number_is n h.switch i.at) in
        let stops = sym (ap (λ z. passage_at z h.value s) (ap (switch_at p) same ∙ e)) ∙ i.goes in
        absurd (cc)

    nothing : (v : Option ℕ) → IsDrawn None v → HasRoom v s × GoesOn (net_of (network_of p)) Ways n (behind v s)
    nothing None d = absurd (stopped (all.some None (subst (λ z. hops.IsDrawn (range_in z link) None) (sym e) tt)))
    nothing (Some v) d = absurd d

well_at : (p : Plan) → OnePort p.wires → (e : End) (Well : Port → List ℕ → Type 0) (Ways : ℕ → List ℕ → Type 0) → Carries p Well Ways → (spot : Spot) (link : ℕ) (s : List ℕ) →
    plan.IsWellAt p e Well (record { spot = spot; link = link }) s spot → IsWellAt (net_of (network_of p)) Ways (port_at spot link) s (net_end (network_of p) (end_of e))
well_at p one e Well Ways carry (Node n) link s h = h
well_at p one e Well Ways carry (Switch n) link s h =
    in_switch p one Well Ways carry n link s (switch_at p n) refl (record { some = h.0; each = h.1 })

pub delivers : (p : Plan) → OnePort p.wires → (e : End) (fuel w : ℕ) (a q : Port) (s : List ℕ) → Goes p w a q → plan.Delivers p e fuel q s →
    Delivers (net_of (network_of p)) fuel w s (net_end (network_of p) (end_of e))
unfolding plan.Delivers
delivers p one e zero w a q s g h =
    subst (λ z. IsWellAt (net_of (network_of p)) (λ v t. ⊥) z s (net_end (network_of p) (end_of e))) (sym g.comes)
    (well_at p one e (λ r t. ⊥) (λ v t. ⊥) (λ v b r t k x. x) q.spot q.link s h)
delivers p one e (suc n) w a q s g h =
    subst (λ z. IsWellAt (net_of (network_of p)) (λ v t. Delivers (net_of (network_of p)) n v t (net_end (network_of p) (end_of e))) z s (net_end (network_of p) (end_of e))) (sym g.comes)
    (well_at p one e (λ r t. plan.Delivers p e n r t) (λ v t. Delivers (net_of (network_of p)) n v t (net_end (network_of p) (end_of e)))
    (λ v b r t k x. delivers p one e n v b r t k x) q.spot q.link s h)

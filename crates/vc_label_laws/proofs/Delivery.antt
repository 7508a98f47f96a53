-- Labels that take each header nearer to its node at each hop deliver.
use Rattle.std.proofs.Common.{◌≡◌, ℕ, zero, suc, ◌≤◌, Bool, true, false, not, List, [], ◌∷◌, Option, Some, None, slice_get, refl, sym, ap, subst, ◌∙◌, arith}
use Rattle.vc_labels.specs.declared.action.Action.TheVariants.{Out}
use Rattle.vc_plan.specs.declared.path_fault.Hop.{Hop}
use Rattle.vc_plan.specs.declared.plan.Plan.{Plan}
use Rattle.vc_plan.specs.declared.port.Port.{Port}
use Rattle.vc_plan.specs.declared.port.Spot.{Spot}
use Rattle.vc_plan.specs.declared.port.Spot.TheVariants.{Node, Switch}
use Rattle.vc_plan.specs.declared.vlink.End.{End}
use Rattle.vc_plan.specs.declared.vlink.Vlink.{Vlink}
use Rattle.vc_plan.specs.Accepted.{end_of}
use Rattle.vc_plan.specs.Delivery.{IsWellAt, Delivers, DeliversTo}
use Rattle.vc_plan.specs.Hops.{IsHop, SomeHop, IsDrawn, random_at, range_in, passage, passage_at, by_action, look_up, left_by}
use Rattle.vc_plan.specs.Wires.{across, switch_at}
use Rattle.vc_label_laws.proofs.Onward.{none_drawn, onward}
use Rattle.vc_label_laws.specs.OneHeader.{ArePlain, Leads, switch_port}
use Rattle.vc_label_laws.specs.Served.{IsOnWay, IsServed, ServedIsLabelled}

module _ (net : Plan) (plains : ArePlain net) (v : IsServed net) where
  abbrev OnWay : ℕ → ℕ → Spot → Type 0
  OnWay h most spot = IsOnWay v.serves v.left (v.node h) h most spot

  -- a hop by a link of the group
  hop_by : (p : Port) (n h link : ℕ) (far : Port) (w : Option ℕ) → p.spot ≡ Switch n → IsDrawn (range_in (switch_at net n) p.link) w → (l : Leads net n h link) → across net.wires (switch_port n link) ≡ Some far →
      SomeHop net p (h ∷ []) w
  hop_by p n h link far w at d l e =
      let plain = plains n l.switch l.there in
      let drawn : IsDrawn (random_at l.switch.random p.link) w = subst (λ z. IsDrawn (range_in z p.link) w) l.there d in
      let none = none_drawn l.switch.random p.link w plain.random drawn in
      let goes : passage l.switch.rows None (h ∷ []) ≡ by_action (Some (Out l.first l.last)) (h ∷ []) (look_up [] []) = ap (λ a. by_action a (h ∷ []) (look_up l.switch.rows [])) l.group in
      let here : passage_at (switch_at net n) w (h ∷ []) ≡ by_action (Some (Out l.first l.last)) (h ∷ []) (look_up [] []) = ap (λ z. passage_at z w (h ∷ [])) l.there ∙ ap (λ z. passage l.switch.rows z (h ∷ [])) none ∙ goes in (
        record { switch = n; value = w; link = link },
        far,
        left_by (switch_at net n) link (h ∷ []),
        refl,
        record { first = l.first; last = l.last; out = h ∷ []; at = at; drawn = d; goes = here; low = l.low; high = l.high; far = e; left = refl },
      )

  -- it comes to the end from wherever it may be next
  abbrev Rest : End → ℕ → ℕ → Type 0
  Rest e h f = (q : Port) (t : List ℕ) → t ≡ h ∷ [] → OnWay h f q.spot → Delivers net e f q t

  -- where packets with h are on the way to the end, each path comes to it
  delivers : (e : End) (h : ℕ) → v.node h ≡ e.node → e.block ≡ h → (fuel : ℕ) (p : Port) (s : List ℕ) → s ≡ h ∷ [] → OnWay h fuel p.spot → Delivers net e fuel p s
  unfolding Delivers
  delivers e h home block zero p s is on = by p.spot refl on
    where
      by : (spot : Spot) → p.spot ≡ spot → OnWay h 0 spot → IsWellAt net e (λ q t. ⊥) p s spot
      by (Node n) at on = (on ∙ home, is ∙ ap (λ z. z ∷ []) (sym block))
      by (Switch n) at on = absurd (let x = v.some_left n h on.0 in let y = on.1 in omega (arith, x, y))
  delivers e h home block (suc f) p s is on = by (λ q t same more. delivers e h home block f q t same more) p.spot refl on
    where
      next : Rest e h f → (n : ℕ) → p.spot ≡ Switch n → v.serves n h ≡ true → v.left n h ≤ suc f → (hop : Hop) (q : Port) (t : List ℕ) → IsHop net p s hop q t → Delivers net e f q t
      next rest n at served few hop q t i =
          let o = onward net plains p s hop q t h is i in
          let m : hop.switch ≡ n = (let c : Switch hop.switch ≡ Switch n = sym i.at ∙ at in cc) in
          let leads : Leads net n h hop.link = subst (λ z. Leads net z h hop.link) m o.leads in
          let far : across net.wires (switch_port n hop.link) ≡ Some q = subst (λ z. across net.wires (switch_port z hop.link) ≡ Some q) m i.far in
          rest q t o.same (v.on n h hop.link f q served few (leads, far))

      by : Rest e h f → (spot : Spot) → p.spot ≡ spot → OnWay h (suc f) spot → IsWellAt net e (λ q t. Delivers net e f q t) p s spot
      by rest (Node n) at on = (on ∙ home, is ∙ ap (λ z. z ∷ []) (sym block))
      by rest (Switch n) at on =
          let x = v.some_link n h on.0 in
          (λ w d. subst (λ z. SomeHop net p z w) (sym is) (hop_by p n h x.0 x.1 w at d x.2.0 x.2.1), next rest n at on.0 on.1)

  from_end : (k : ℕ) (l : Vlink) (a : Bool) → slice_get net.vlinks k ≡ Some l → DeliversTo net (end_of l a) (end_of l (not a))
  from_end k l a there q comes =
      delivers (end_of l (not a)) (end_of l (not a)).block (v.ends k l (not a) there) refl 32 q (end_of l a).route (v.sends k l a there) (v.begins k l a q there comes)

pub served_labelled : ServedIsLabelled
served_labelled net plains v k l there = record { there = from_end net plains v k l true there; back = from_end net plains v k l false there }

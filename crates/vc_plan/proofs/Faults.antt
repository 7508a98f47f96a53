-- The first fault that shows at a place, and a place without one.
use Rattle.std.proofs.Common.{◌≡◌, ℕ, List, [], ◌∷◌, ◌⊎◌, Option, Some, None, refl, sym, ap, ◌∙◌, inl, inr}
use Rattle.vc_plan.specs.declared.plan.Plan.{Plan}
use Rattle.vc_plan.specs.declared.vlink.End.{End}
use Rattle.vc_plan.specs.declared.fault.Fault.{Fault}
use Rattle.vc_plan.specs.declared.switch_plan.SwitchPlan.{SwitchPlan}
use Rattle.vc_plan.specs.declared.port.Spot.{Spot}
use Rattle.vc_plan.specs.declared.port.Spot.TheVariants.{Node, Switch}
use Rattle.vc_plan.specs.declared.entry.Entry.{Entry}
use Rattle.vc_plan.specs.declared.search.Shown.{Shown}
use Rattle.vc_plan.specs.Faults.{IsDrawnAt, fault_at, shown_at, at_node, ValueBefore}
use Rattle.vc_plan.specs.Hops.{range_in}
use Rattle.vc_plan.specs.Wires.{switch_at}
use Rattle.vc_plan.specs.Search.{values}
use Rattle.vc_plan.specs.Private.Search.{value_shown, first_value_shown, shown_in, shown_by}
use Rattle.vc_plan.proofs.Members.{In, Pairs}
use Rattle.vc_plan.proofs.Onward.{values-In, In-values, values-rise}

module _ (plan : Option SwitchPlan) (made : ℕ) (e : Entry) where
  abbrev at : Option ℕ → Option Fault
  at v = shown_at plan made v e.headers

  none-go : (v : Option ℕ) (f : Option Fault) (next : Option Shown) → value_shown v f next ≡ None → (f ≡ None) × (next ≡ None)
  none-go v None next is = (refl, is)
  none-go v (Some f) next is = absurd cc

  pub value-none : (vs : List (Option ℕ)) → first_value_shown plan made e vs ≡ None → (v : Option ℕ) → In v vs → shown_at plan made v e.headers ≡ None
  value-none [] is v i = absurd i
  value-none (x ∷ vs) is v (inl same) = ap at (sym same) ∙ (none-go x (at x) (first_value_shown plan made e vs) is).0
  value-none (x ∷ vs) is v (inr i) = value-none vs (none-go x (at x) (first_value_shown plan made e vs) is).1 v i

pub record FirstValue (plan : Option SwitchPlan) (made : ℕ) (e : Entry) (vs : List (Option ℕ)) (s : Shown) : Type 0 where
  pub there : In s.value vs
  pub shows : shown_at plan made s.value e.headers ≡ Some s.fault
  pub first : (w : Option ℕ) (g : Fault) → In w vs → shown_at plan made w e.headers ≡ Some g → ValueBefore s.value w ⊎ (s.value ≡ w)

first-later : (plan : Option SwitchPlan) (made : ℕ) (e : Entry) (x : Option ℕ) (vs : List (Option ℕ)) (s : Shown) →
    shown_at plan made x e.headers ≡ None → FirstValue plan made e vs s → FirstValue plan made e (x ∷ vs) s
first-later plan made e x vs s clear f = record { there = inr f.there; shows = f.shows; first = go }
  where
    go : (w : Option ℕ) (g : Fault) → In w (x ∷ vs) → shown_at plan made w e.headers ≡ Some g → ValueBefore s.value w ⊎ (s.value ≡ w)
    go w g (inl same) is = absurd (let u : shown_at plan made w e.headers ≡ None = ap (λ v. shown_at plan made v e.headers) (sym same) ∙ clear in cc)
    go w g (inr i) is = f.first w g i is

first-now : (plan : Option SwitchPlan) (made : ℕ) (e : Entry) (x : Option ℕ) (vs : List (Option ℕ)) (f : Fault) →
    shown_at plan made x e.headers ≡ Some f → Pairs ValueBefore (x ∷ vs) → FirstValue plan made e (x ∷ vs) (record { value = x; fault = f })
first-now plan made e x vs f is rise = record { there = inl refl; shows = is; first = go }
  where
    go : (w : Option ℕ) (g : Fault) → In w (x ∷ vs) → shown_at plan made w e.headers ≡ Some g → ValueBefore x w ⊎ (x ≡ w)
    go w g (inl same) shown = inr same
    go w g (inr i) shown = inl (rise.0 w i)

first-go : (plan : Option SwitchPlan) (made : ℕ) (e : Entry) (x : Option ℕ) (vs : List (Option ℕ)) (s : Shown) (f : Option Fault) →
    shown_at plan made x e.headers ≡ f → Pairs ValueBefore (x ∷ vs) → value_shown x f (first_value_shown plan made e vs) ≡ Some s →
    (first_value_shown plan made e vs ≡ Some s → FirstValue plan made e vs s) → FirstValue plan made e (x ∷ vs) s
first-go plan made e x vs s None is rise found later = first-later plan made e x vs s is (later found)
first-go plan made e x vs s (Some f) is rise found later =
    let same : record { value = x; fault = f } ≡ s = cc in
    rw (← same) (first-now plan made e x vs f is rise)

pub value-first : (plan : Option SwitchPlan) (made : ℕ) (e : Entry) (vs : List (Option ℕ)) (s : Shown) → Pairs ValueBefore vs →
    first_value_shown plan made e vs ≡ Some s → FirstValue plan made e vs s
value-first plan made e [] s rise is = absurd cc
value-first plan made e (x ∷ vs) s rise is =
    first-go plan made e x vs s (shown_at plan made x e.headers) refl rise is (value-first plan made e vs s rise.1)

-- an entry without a fault
node-clear : (f : Option Fault) → value_shown None f None ≡ None → f ≡ None
node-clear None is = refl
node-clear (Some f) is = absurd cc

clear-at : (net : Plan) (end : End) (made : ℕ) (e : Entry) (spot : Spot) → shown_in net end made e spot ≡ None →
    (v : Option ℕ) → IsDrawnAt net e.port.link spot v → fault_at net end made spot v e.headers ≡ None
clear-at net end made e (Node n) is v d = node-clear (at_node end n e.headers) is
clear-at net end made e (Switch n) is v d =
    value-none (switch_at net n) made e (values (range_in (switch_at net n) e.port.link)) is v (values-In (range_in (switch_at net n) e.port.link) v d)

pub entry-clear : (net : Plan) (end : End) (made : ℕ) (e : Entry) → shown_by net end made e ≡ None →
    (v : Option ℕ) → IsDrawnAt net e.port.link e.port.spot v → fault_at net end made e.port.spot v e.headers ≡ None
entry-clear net end made e is v d = clear-at net end made e e.port.spot is v d

-- an entry's first fault
pub record FirstAt (net : Plan) (end : End) (made : ℕ) (e : Entry) (spot : Spot) (s : Shown) : Type 0 where
  pub drawn : IsDrawnAt net e.port.link spot s.value
  pub shows : fault_at net end made spot s.value e.headers ≡ Some s.fault
  pub first : (w : Option ℕ) (g : Fault) → IsDrawnAt net e.port.link spot w → fault_at net end made spot w e.headers ≡ Some g → ValueBefore s.value w ⊎ (s.value ≡ w)

node-first : (net : Plan) (end : End) (made : ℕ) (e : Entry) (n : ℕ) (s : Shown) (f : Option Fault) → at_node end n e.headers ≡ f →
    value_shown None f None ≡ Some s → FirstAt net end made e (Node n) s
node-first net end made e n s None at is = absurd cc
node-first net end made e n s (Some f) at is =
    let same : record { value = None; fault = f } ≡ s = cc in
    rw (← same) (let r : FirstAt net end made e (Node n) (record { value = None; fault = f }) = record { drawn = refl; shows = at; first = λ w g d shown. inr (sym d) } in r)

first-at : (net : Plan) (end : End) (made : ℕ) (e : Entry) (spot : Spot) (s : Shown) → shown_in net end made e spot ≡ Some s → FirstAt net end made e spot s
first-at net end made e (Node n) s is = node-first net end made e n s (at_node end n e.headers) refl is
first-at net end made e (Switch n) s is =
    let r = range_in (switch_at net n) e.port.link in
    let f = value-first (switch_at net n) made e (values r) s (values-rise r) is in
    record {
      drawn = In-values r s.value f.there;
      shows = f.shows;
      first = λ w g d shown. f.first w g (values-In r w d) shown;
    }

pub entry-first : (net : Plan) (end : End) (made : ℕ) (e : Entry) (s : Shown) → shown_by net end made e ≡ Some s → FirstAt net end made e e.port.spot s
entry-first net end made e s is = first-at net end made e e.port.spot s is

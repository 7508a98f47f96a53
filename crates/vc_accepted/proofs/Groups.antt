-- The group that the checker looks up is the group by which a switch lets a packet leave.
use Rattle.std.proofs.Common.{◌≡◌, ℕ, suc, ◌≤◌, Bool, true, false, List, [], ◌∷◌, length, nat_lt, slice_get, Option, Some, None, refl, sym, ap, ◌∙◌, arith, if◌then◌else◌, ◌⊎◌, inl, inr}
use Rattle.std.proofs.lemmas.Bool.Decides.{nat_tests}
use Rattle.vc_labels.specs.declared.row.Row.{Row}
use Rattle.vc_labels.specs.declared.action.Action.{Action}
use Rattle.vc_labels.specs.declared.action.Action.TheVariants.{Out, Portal}
use Rattle.vc_labels.specs.Interval.{action_for, holds}
use Rattle.vc_plan.specs.declared.switch_plan.RandomInput.{RandomInput}
use Rattle.vc_plan.specs.Hops.{by_action, look_up, passage, IsDrawn}
use Rattle.vc_switch.specs.Forward.{without_portals, past_portal, behind, HasRoom}
use Rattle.vc_switch.specs.Forward as forward
use Rattle.vc_accepted.specs.NetworkOf.{interval_of}

-- the headers are looked up, or pass, as these, by the links of this group
abbrev pub LooksUp : List Row → List ℕ → ℕ → ℕ → List ℕ → Type 0
LooksUp rows hs first last out = look_up rows hs ≡ by_action (Some (Out first last)) out (look_up rows [])

abbrev pub Passes : List Row → Option ℕ → List ℕ → ℕ → ℕ → List ℕ → Type 0
Passes rows v s first last out = passage rows v s ≡ by_action (Some (Out first last)) out (look_up rows [])

-- behind portals there is this header, with this group
pub record HasGroup (rows : List Row) (hs : List ℕ) (first last : ℕ) (out : List ℕ) : Type 0 where
  pub header : ℕ
  pub rest : List ℕ
  pub front : without_portals rows hs ≡ header ∷ rest
  pub group : action_for rows header ≡ Some (Out first last)
  pub is : out ≡ header ∷ rest

by-action : (rows : List Row) (h : ℕ) (hs : List ℕ) (first last : ℕ) (out : List ℕ) (a : Option Action) → action_for rows h ≡ a →
    by_action a (h ∷ hs) (look_up rows hs) ≡ by_action (Some (Out first last)) out (look_up rows []) → (LooksUp rows hs first last out → HasGroup rows hs first last out) → HasGroup rows (h ∷ hs) first last out
by-action rows h hs first last out None e l rest = absurd (cc)
by-action rows h hs first last out (Some Portal) e l rest =
    let g = rest l in
    record { header = g.header; rest = g.rest; front = ap (λ z. past_portal z (without_portals rows hs) (h ∷ hs)) e ∙ g.front; group = g.group; is = g.is }
by-action rows h hs first last out (Some (Out f t)) e l rest = record {
  header = h;
  rest = hs;
  front = ap (λ z. past_portal z (without_portals rows hs) (h ∷ hs)) e;
  group = e ∙ cc;
  is = cc;
}

pub looked_up : (rows : List Row) (hs : List ℕ) (first last : ℕ) (out : List ℕ) → LooksUp rows hs first last out → HasGroup rows hs first last out
looked_up rows [] first last out e = absurd (cc)
looked_up rows (h ∷ hs) first last out e = by-action rows h hs first last out (action_for rows h) refl e (looked_up rows hs first last out)

by-group : (rows : List Row) (h : ℕ) (hs : List ℕ) (first last header : ℕ) (rest : List ℕ) (a : Option Action) → action_for rows h ≡ a →
    past_portal a (without_portals rows hs) (h ∷ hs) ≡ header ∷ rest → action_for rows header ≡ Some (Out first last) →
    (without_portals rows hs ≡ header ∷ rest → LooksUp rows hs first last (header ∷ rest)) →
    by_action a (h ∷ hs) (look_up rows hs) ≡ by_action (Some (Out first last)) (header ∷ rest) (look_up rows [])
by-group rows h hs first last header rest None e f g more =
    let is : h ≡ header = cc in
    let none : None ≡ Some (Out first last) = sym e ∙ ap (action_for rows) is ∙ g in
    absurd (cc)
by-group rows h hs first last header rest (Some Portal) e f g more = more f
by-group rows h hs first last header rest (Some (Out i j)) e f g more =
    let is : h ≡ header = cc in
    let same : Some (Out i j) ≡ Some (Out first last) = sym e ∙ ap (action_for rows) is ∙ g in
    ap (λ z. by_action z (h ∷ hs) (look_up rows hs)) same ∙ ap (λ z. by_action (Some (Out first last)) z (look_up rows [])) f

pub looks_up : (rows : List Row) (hs : List ℕ) (first last header : ℕ) (rest : List ℕ) → without_portals rows hs ≡ header ∷ rest →
    action_for rows header ≡ Some (Out first last) → LooksUp rows hs first last (header ∷ rest)
looks_up rows [] first last header rest f g = absurd (cc)
looks_up rows (h ∷ hs) first last header rest f g =
    by-group rows h hs first last header rest (action_for rows h) refl f g (λ z. looks_up rows hs first last header rest z g)

-- what a test picks
picked : {A : Type 0} {x y z : A} (b : Bool) → (if b then x else y) ≡ z → ((b ≡ true) × (x ≡ z)) ⊎ ((b ≡ false) × (y ≡ z))
picked true e = inl (refl, e)
picked false e = inr (refl, e)

few : (s : List ℕ) → nat_lt 5 (length s) ≡ false → length s ≤ 5
few s h = grind (arith, nat_tests)

pub passed : (rows : List Row) (v : Option ℕ) (s : List ℕ) (first last : ℕ) (out : List ℕ) → Passes rows v s first last out → HasRoom v s × HasGroup rows (behind v s) first last out
passed rows None s first last out e = (tt, looked_up rows s first last out e)
passed rows (Some v) s first last out e =
    elim (picked (nat_lt 5 (length s)) e) [
      | inl (t, f) ↦ absurd (cc)
      | inr (t, f) ↦ (few s t, looked_up rows (v ∷ s) first last out f)
    ]

roomy : (s : List ℕ) → length s ≤ 5 → nat_lt 5 (length s) ≡ false
roomy s h = grind (arith, nat_tests)

not_picked : {A : Type 0} (x y : A) (b : Bool) → b ≡ false → (if b then x else y) ≡ y
not_picked x y b e = ap (λ z. if z then x else y) e

pub passes : (rows : List Row) (v : Option ℕ) (s : List ℕ) (first last header : ℕ) (rest : List ℕ) → HasRoom v s →
    without_portals rows (behind v s) ≡ header ∷ rest → action_for rows header ≡ Some (Out first last) → Passes rows v s first last (header ∷ rest)
passes rows None s first last header rest room f g = looks_up rows s first last header rest f g
passes rows (Some v) s first last header rest room f g =
    not_picked _ (look_up rows (v ∷ s)) (nat_lt 5 (length s)) (roomy s room) ∙ looks_up rows (v ∷ s) first last header rest f g

-- the same random headers
pub drawn : (r : Option RandomInput) (v : Option ℕ) → forward.IsDrawn (interval_of r) v → IsDrawn r v
drawn None None d = tt
drawn None (Some v) d = absurd d
drawn (Some r) None d = absurd d
drawn (Some r) (Some v) d = d

-- the row of an action that is found
pub row_of : (rows : List Row) (h : ℕ) (a : Action) → action_for rows h ≡ Some a → (k : ℕ) × (row : Row) × (slice_get rows k ≡ Some row) × (row.action ≡ a)
row_of [] h a e = absurd (cc)
row_of (r ∷ rows) h a e = by_test (holds r h) e (row_of rows h a)
  where
    by_test : (b : Bool) → (if b then Some r.action else action_for rows h) ≡ Some a → (action_for rows h ≡ Some a → (k : ℕ) × (row : Row) × (slice_get rows k ≡ Some row) × (row.action ≡ a)) →
        (k : ℕ) × (row : Row) × (slice_get (r ∷ rows) k ≡ Some row) × (row.action ≡ a)
    by_test true e rest = (0, r, refl, cc)
    by_test false e rest = let (k, row, is, act) = rest e in (suc k, row, is, act)

-- The part of a PAR that has a site is the one that does what the site does.
use Rattle.std.proofs.Common.{◌≡◌, ℕ, zero, suc, Bool, true, false, ◌≤◌, ◌<◌, ◌⊎◌, refl, ap, sym, ◌∙◌, subst, List, [], ◌∷◌, Option, Some, None, inl, inr, arith, if◌then◌else◌}
use Rattle.std.specs.List.{Contains}
use Rattle.std.specs.Prelude.{slice_get, nat_le}
use Rattle.std.specs.Option.{option_or}
use Rattle.std.proofs.lemmas.Bool.Decides.{nat_tests}
use Rattle.std.proofs.lemmas.List.Elements.{Contains-append_left, Contains-append_right, Contains-append_cases}
use Rattle.vc_occam.specs.declared.answer.Answer.TheVariants.{Nothing}
use Rattle.vc_occam.specs.declared.moves.Move.{Move}
use Rattle.vc_process.specs.Syntax.{STOP, no_parts}
use Rattle.vc_process.specs.Usage.{Set, changes, ◌∪◌}
use Rattle.vc_process.specs.Values.{Store}
use Rattle.vc_occam.specs.First.{own}
use Rattle.vc_occam.specs.Frames.{View, besides, follow, plans_of}
use Rattle.vc_occam.specs.MoveSites.{site_of}
use Rattle.vc_occam.specs.Private.Frames.{assigned_at, place_with}
use Rattle.vc_occam.specs.Private.MoveSites.{action_for}
use Rattle.vc_occam.specs.Private.Sites.{PartsInPreorder}
use Rattle.vc_occam.specs.Remains.{Rest, Done, Fresh, beside_on}
use Rattle.vc_occam.specs.Sites.{sites, sites_all, site}
use Rattle.vc_occam.specs.States.{Waiting, output_at, waiting}
use Rattle.vc_process.proofs.Lists.{none}
use Rattle.vc_occam.proofs.Made.{able}
use Rattle.vc_occam.proofs.Places.{first_site, own_site}
use Rattle.vc_occam.proofs.SideBySide.{beside_assigned, beside_output, beside_own, beside_waits}
use Rattle.vc_occam.proofs.Sites.{Within, either, not_true, clash}
use Rattle.vc_occam.proofs.Stores.{or_left, or_right}
use Rattle.vc_occam.proofs.Doers.{able_site, doers, none_assigned, none_output}

-- what may do something in a part is one of the part's sites
abbrev pub AllWithin : List View → Type 0
AllWithin [] = Unit {0}
AllWithin (v ∷ vs) = Within (doers v.rest) (sites v.plan) × AllWithin vs

beside_sites : (mine : Set) (r q : Rest) → Within (doers (beside_on mine r q)) (doers r ∪ doers q)
beside_sites mine Done Done k h = absurd (let z : false ≡ true = h in cc)
beside_sites mine r q k h = h

pub besides_sites : (vs : List View) → AllWithin vs → Within (doers (besides vs)) (sites_all (plans_of vs))
besides_sites [] w k h = absurd (let z : false ≡ true = h in cc)
besides_sites (v ∷ vs) w k h = elim (either (doers v.rest k) (doers (besides vs) k) (beside_sites (changes v.plan) v.rest (besides vs) k h)) [
  | inl e ↦ or_left (sites v.plan k) (sites_all (plans_of vs) k) (w.0 k e)
  | inr e ↦ or_right (sites v.plan k) (sites_all (plans_of vs) k) (besides_sites vs w.1 k e)
]

-- a site from the next part's own on is not one of this part; one before it is not one of the later parts
pub not_before : (v u : View) (vs : List View) (i : ℕ) → PartsInPreorder (plans_of (v ∷ u ∷ vs)) → site u.plan ≤ i → sites v.plan i ≡ false
not_before v u vs i h l = not_true (sites v.plan i) (λ e. let z = h.0 i (site u.plan) e (or_left (sites u.plan (site u.plan)) (sites_all (plans_of vs) (site u.plan)) (own_site u.plan)) in omega arith)

pub not_behind : (v u : View) (vs : List View) (i : ℕ) → PartsInPreorder (plans_of (v ∷ u ∷ vs)) → i < site u.plan → sites_all (plans_of (u ∷ vs)) i ≡ false
not_behind v u vs i h l = not_true (sites_all (plans_of (u ∷ vs)) i) (λ e.
    elim (either (sites u.plan i) (sites_all (plans_of vs) i) e) [
      | inl g ↦ let z = first_site u.plan i h.2.1 g in omega arith
      | inr g ↦ let z = h.2.0 (site u.plan) i (own_site u.plan) g in omega arith
    ])

away : {a b : Set} (i : ℕ) → Within a b → b i ≡ false → a i ≡ false
away {a} {b} i w h = not_true (a i) (λ e. clash (w i e) h)

-- what remains of a part, where there is one
abbrev pub part_at : Option View → Rest
part_at o = follow o no_parts

-- what is looked for at a site is found in the part at its place
module _ {A : Type 0} (i : ℕ) (F : Rest → Option A) (both : (mine : Set) (r q : Rest) → F (beside_on mine r q) ≡ option_or (F r) (F q)) (none : (r : Rest) → doers r i ≡ false → F r ≡ None) where
  or_none : (x y : Option A) → y ≡ None → option_or x y ≡ x
  or_none None y h = h
  or_none (Some x) y h = refl

  none_or : (x y : Option A) → x ≡ None → option_or x y ≡ y
  none_or x y h = ap (λ z. option_or z y) h

  pub found : (vs : List View) → PartsInPreorder (plans_of vs) → AllWithin vs → F (besides vs) ≡ F (part_at (slice_get vs (place_with i vs)))
  found [] h w = none Done refl ∙ sym (none (Fresh (STOP 0)) refl)
  found (v ∷ []) h w = both (changes v.plan) v.rest Done ∙ or_none (F v.rest) (F Done) (none Done refl)
  found (v ∷ u ∷ vs) h w = on (nat_le (site u.plan) i) refl (found (u ∷ vs) h.2 w.1)
    where
      on : (b : Bool) → nat_le (site u.plan) i ≡ b → F (besides (u ∷ vs)) ≡ F (part_at (slice_get (u ∷ vs) (place_with i (u ∷ vs)))) →
          F (besides (v ∷ u ∷ vs)) ≡ F (part_at (slice_get (v ∷ u ∷ vs) (if b then suc (place_with i (u ∷ vs)) else 0)))
      on true q r =
          let l : site u.plan ≤ i = grind (arith, nat_tests) in
          both (changes v.plan) v.rest (besides (u ∷ vs)) ∙ none_or (F v.rest) (F (besides (u ∷ vs))) (none v.rest (away {a = doers v.rest} {b = sites v.plan} i w.0 (not_before v u vs i h l))) ∙ r
      on false q r =
          let l : i < site u.plan = grind (arith, nat_tests) in
          both (changes v.plan) v.rest (besides (u ∷ vs)) ∙ or_none (F v.rest) (F (besides (u ∷ vs))) (none (besides (u ∷ vs)) (away {a = doers (besides (u ∷ vs))} {b = sites_all (plans_of (u ∷ vs))} i (besides_sites (u ∷ vs) w.1) (not_behind v u vs i h l)))

pub found_output : (i : ℕ) (vs : List View) (e : Store) → PartsInPreorder (plans_of vs) → AllWithin vs → output_at i (besides vs) e ≡ output_at i (part_at (slice_get vs (place_with i vs))) e
found_output i vs e h w = found i (λ r. output_at i r e) (λ m r q. beside_output i m r q e) (λ r k. none_output i e r k) vs h w

pub found_assigned : (i : ℕ) (vs : List View) (e : Store) → PartsInPreorder (plans_of vs) → AllWithin vs → assigned_at i (besides vs) e ≡ assigned_at i (part_at (slice_get vs (place_with i vs))) e
found_assigned i vs e h w = found i (λ r. assigned_at i r e) (λ m r q. beside_assigned i m r q e) (λ r k. none_assigned i e r k) vs h w

-- what one of the parts side by side waits for is waited for, and what it begins with is begun with
pub besides_wait : (vs : List View) (k : ℕ) (w : Waiting) → Contains (waiting (part_at (slice_get vs k))) w → Contains (waiting (besides vs)) w
besides_wait [] k w c = absurd (none w c)
besides_wait (v ∷ vs) zero w c = subst (λ (ws : List Waiting). Contains ws w) (sym (beside_waits (changes v.plan) v.rest (besides vs))) (Contains-append_left (waiting v.rest) (waiting (besides vs)) w c)
besides_wait (v ∷ vs) (suc k) w c = subst (λ (ws : List Waiting). Contains ws w) (sym (beside_waits (changes v.plan) v.rest (besides vs))) (Contains-append_right (waiting v.rest) (waiting (besides vs)) w (besides_wait vs k w c))

pub besides_own : (vs : List View) (k : ℕ) (e : Store) (m : Move) → Contains (own (part_at (slice_get vs k)) e) m → Contains (own (besides vs) e) m
besides_own [] k e m c = absurd (none m c)
besides_own (v ∷ vs) zero e m c = subst (λ (ms : List Move). Contains ms m) (sym (beside_own (changes v.plan) v.rest (besides vs) e)) (Contains-append_left (own v.rest e) (own (besides vs) e) m c)
besides_own (v ∷ vs) (suc k) e m c = subst (λ (ms : List Move). Contains ms m) (sym (beside_own (changes v.plan) v.rest (besides vs) e)) (Contains-append_right (own v.rest e) (own (besides vs) e) m (besides_own vs k e m c))

-- the site of a move is one that may do something
pub mover : (r : Rest) (e : Store) (m : Move) (i : ℕ) → site_of m ≡ i → Contains (own r e) m → doers r i ≡ true
mover r e m i s c = subst (λ (j : ℕ). doers r j ≡ true) s (able_site r e (site_of m) (action_for m Nothing) (able r e m Nothing c))

-- a move of a site is found in the part at its place
pub found_own : (i : ℕ) (vs : List View) (e : Store) (m : Move) → PartsInPreorder (plans_of vs) → AllWithin vs → site_of m ≡ i → Contains (own (besides vs) e) m → Contains (own (part_at (slice_get vs (place_with i vs))) e) m
found_own i [] e m h w s c = absurd (none m c)
found_own i (v ∷ []) e m h w s c = elim (Contains-append_cases (own v.rest e) [] m (subst (λ (ms : List Move). Contains ms m) (beside_own (changes v.plan) v.rest Done e) c)) [
  | inl b ↦ b
  | inr b ↦ absurd (none m b)
]
found_own i (v ∷ u ∷ vs) e m h w s c = on (nat_le (site u.plan) i) refl (found_own i (u ∷ vs) e m h.2 w.1 s)
  where
    either : Contains (own v.rest e) m ⊎ Contains (own (besides (u ∷ vs)) e) m
    either = Contains-append_cases (own v.rest e) (own (besides (u ∷ vs)) e) m (subst (λ (ms : List Move). Contains ms m) (beside_own (changes v.plan) v.rest (besides (u ∷ vs)) e) c)

    on : (b : Bool) → nat_le (site u.plan) i ≡ b → (Contains (own (besides (u ∷ vs)) e) m → Contains (own (part_at (slice_get (u ∷ vs) (place_with i (u ∷ vs)))) e) m) →
        Contains (own (part_at (slice_get (v ∷ u ∷ vs) (if b then suc (place_with i (u ∷ vs)) else 0))) e) m
    on true q r =
        let l : site u.plan ≤ i = grind (arith, nat_tests) in
        elim either [
          | inl b ↦ absurd (clash (w.0 i (mover v.rest e m i s b)) (not_before v u vs i h l))
          | inr b ↦ r b
        ]
    on false q r =
        let l : i < site u.plan = grind (arith, nat_tests) in
        elim either [
          | inl b ↦ b
          | inr b ↦ absurd (clash (besides_sites (u ∷ vs) w.1 i (mover (besides (u ∷ vs)) e m i s b)) (not_behind v u vs i h l))
        ]

-- A merge of what is known of the acts, as without their items, comes from a merge of the acts.
use Rattle.std.proofs.Common.{◌≡◌, ℕ, Bool, true, false, if◌then◌else◌, ◌==◌, List, [], ◌∷◌, map, refl, sym, ap, ap₂, ◌∙◌, subst, eqb-true}
use Rattle.std.specs.List.{AllByRecursion}
use Rattle.vc_network.specs.LocalRun.{Stamped, restamped}
use Rattle.vc_network.specs.Merge.{Made, part, NotAfter, IsOrdered, IsMerge}
use Rattle.vc_network.specs.Private.Merge.{remade}
use Rattle.vc_network.proofs.OneMerge.{part-own}

module _ {A B : Type 0} (f : A → B) where
  -- the first of a list that f gives
  first_under : (xs : List (Stamped A)) (s : Stamped B) (ss : List (Stamped B)) → s ∷ ss ≡ map (restamped f) xs
      → (x : Stamped A) × (rest : List (Stamped A)) × (xs ≡ x ∷ rest) × (restamped f x ≡ s) × (ss ≡ map (restamped f) rest)
  first_under [] s ss e = cc
  first_under (x ∷ xs) s ss e = (x, xs, refl, cc, cc)

  parts_left : (m : Made B) (ms : List (Made B)) (runs : ℕ → List (Stamped A)) (rest : List (Stamped A)) → part m.actor ms ≡ map (restamped f) rest
      → (actor : ℕ) (b : Bool) → (m.actor == actor) ≡ b → (if b then m.act ∷ part actor ms else part actor ms) ≡ map (restamped f) (runs actor)
      → part actor ms ≡ map (restamped f) (if b then rest else runs actor)
  parts_left m ms runs rest own actor true e p = subst (λ a. part a ms ≡ map (restamped f) rest) (eqb-true m.actor actor e) own
  parts_left m ms runs rest own actor false e p = p

  joins : (actor : ℕ) (x : Made A) (xs : List (Made A)) (runs : ℕ → List (Stamped A)) (rest : List (Stamped A)) → runs x.actor ≡ x.act ∷ rest
      → (b : Bool) → (x.actor == actor) ≡ b → part actor xs ≡ (if b then rest else runs actor)
      → (if b then x.act ∷ part actor xs else part actor xs) ≡ runs actor
  joins actor x xs runs rest e true same p = ap (λ ys. x.act ∷ ys) p ∙ sym e ∙ ap runs (eqb-true x.actor actor same)
  joins actor x xs runs rest e false same p = p

  unmapped : (ms : List (Made B)) (runs : ℕ → List (Stamped A)) → ((actor : ℕ) → part actor ms ≡ map (restamped f) (runs actor))
      → (xs : List (Made A)) × (map (remade f) xs ≡ ms) × ((actor : ℕ) → part actor xs ≡ runs actor)
  unmapped [] runs p = ([], refl, λ actor. nothing (runs actor) (p actor))
    where
      nothing : (ys : List (Stamped A)) → [] ≡ map (restamped f) ys → [] ≡ ys
      nothing [] e = refl
      nothing (y ∷ ys) e = cc
  unmapped (m ∷ ms) runs p =
      let one = first_under (runs m.actor) m.act (part m.actor ms) (sym (part-own m ms) ∙ p m.actor) in
      let rest = unmapped ms (λ actor. if m.actor == actor then one.1 else runs actor)
      (λ actor. parts_left m ms runs one.1 one.4 actor (m.actor == actor) refl (p actor)) in
      let x : Made A = record { actor = m.actor; act = one.0 } in (
        x ∷ rest.0,
        ap₂ (λ y ys. y ∷ ys) (λ i. record { actor = m.actor; act = one.3 i }) rest.1,
        λ actor. joins actor x rest.0 runs one.1 one.2 (m.actor == actor) refl (rest.2 actor),
      )

  not_after_under : (x : Made A) (ys : List (Made A)) → AllByRecursion (NotAfter (remade f x)) (map (remade f) ys) → AllByRecursion (NotAfter x) ys
  not_after_under x [] h = tt
  not_after_under x (y ∷ ys) h = (h.0, not_after_under x ys h.1)

  ordered_under : (xs : List (Made A)) → IsOrdered (map (remade f) xs) → IsOrdered xs
  ordered_under [] o = tt
  ordered_under (x ∷ xs) o = (not_after_under x xs o.0, ordered_under xs o.1)

  pub IsMerge-under : (runs : ℕ → List (Stamped A)) (ms : List (Made B)) → IsMerge (λ actor. map (restamped f) (runs actor)) ms
      → (xs : List (Made A)) × (map (remade f) xs ≡ ms) × IsMerge runs xs
  IsMerge-under runs ms merge =
      let u = unmapped ms runs merge.parts in
      (u.0, u.1, record { ordered = ordered_under u.0 (subst IsOrdered (sym u.1) merge.ordered); parts = u.2 })

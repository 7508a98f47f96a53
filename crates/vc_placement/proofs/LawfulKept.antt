-- A process that uses its channels and variables lawfully does so over other variables.
use Rattle.std.proofs.Common.{◌≡◌, ℕ, true, ◌&&◌, ◌||◌, refl, sym, ap, ap₂, subst, ◌∙◌, inl, inr, eq-eqb, eqb-true, true≢false}
use Rattle.vc_occam.proofs.Sites.{Within, either, not_true}
use Rattle.vc_occam.proofs.Stores.{or_left, or_right}
use Rattle.vc_occam.proofs.Changes.{changed_used}
use Rattle.vc_placement.proofs.Kept.{both_true, inputs_kept, outputs_kept}
use Rattle.vc_plan.proofs.Limits.{both}
use Rattle.vc_process.specs.Lawful.{inputs, outputs, Lawfully, LawfullyAll, LawfullyBranches, LawfullyGuards, Shared, SideBySide, With}
use Rattle.vc_process.specs.Renaming.{renamed_exp, renamed_test, renamed_given, Renamed, skips, never, assigns, outputs as sends, inputs as receives, stops, in_turn, abreast, one_of, again, counts, chooses, AllRenamed, no_part, parts, BranchesRenamed, no_branch, branches, GuardsRenamed, no_guard, guards}
use Rattle.vc_process.specs.Syntax.{Exp, Number, Variable, Binary, SizeOf, Test, Constant, Compare, Both, Either, Negate, Literal, Contents, Filled, Given, Whole, Bytes, Proc, Procs, Branches, Guards}
use Rattle.vc_process.specs.Usage.{Set, nothing, ◌∪◌, just, in_exp, in_test, in_given, changes, changes_all, changes_branches, changes_guards, uses, uses_all, uses_branches, uses_guards}

-- parts share no more channels than before
module _ (ρ : ℕ → ℕ) (c : ℕ) where
  with_outputs : {p q : Proc} → Renamed ρ p q → {ps qs : Procs} → AllRenamed ρ ps qs → With outputs outputs c q qs → With outputs outputs c p ps
  with_outputs h no_part w = w
  with_outputs h (parts g f) (inl e) = inl (ap₂ (λ x y. (x && y) || (x && y)) (sym (outputs_kept ρ h c)) (sym (outputs_kept ρ g c)) ∙ e)
  with_outputs h (parts g f) (inr w) = inr (with_outputs h f w)

  shared_outputs : {ps qs : Procs} → AllRenamed ρ ps qs → Shared outputs outputs c qs → Shared outputs outputs c ps
  shared_outputs no_part s = s
  shared_outputs (parts h f) (inl w) = inl (with_outputs h f w)
  shared_outputs (parts h f) (inr s) = inr (shared_outputs f s)

  with_inputs : {p q : Proc} → Renamed ρ p q → {ps qs : Procs} → AllRenamed ρ ps qs → With inputs inputs c q qs → With inputs inputs c p ps
  with_inputs h no_part w = w
  with_inputs h (parts g f) (inl e) = inl (ap₂ (λ x y. (x && y) || (x && y)) (sym (inputs_kept ρ h c)) (sym (inputs_kept ρ g c)) ∙ e)
  with_inputs h (parts g f) (inr w) = inr (with_inputs h f w)

  shared_inputs : {ps qs : Procs} → AllRenamed ρ ps qs → Shared inputs inputs c qs → Shared inputs inputs c ps
  shared_inputs no_part s = s
  shared_inputs (parts h f) (inl w) = inl (with_inputs h f w)
  shared_inputs (parts h f) (inr s) = inr (shared_inputs f s)

-- a variable of the second set is one of the first under its other number
module _ (ρ : ℕ → ℕ) where
  abbrev pub From : Set → Set → Type 0
  From s t = (w : ℕ) → t w ≡ true → (v : ℕ) × (w ≡ ρ v) × (s v ≡ true)

  none_from : From nothing nothing
  none_from w h = absurd (true≢false (sym h))

  just_from : (v : ℕ) → From (just v) (just (ρ v))
  just_from v w h = (v, eqb-true w (ρ v) h, eq-eqb v v refl)

  both_from : (s t a b : Set) → From s t → From a b → From (s ∪ a) (t ∪ b)
  both_from s t a b f g w h = elim (either (t w) (b w) h) [
    | inl e ↦ (let r = f w e in (r.0, r.1, or_left (s r.0) (a r.0) r.2))
    | inr e ↦ (let r = g w e in (r.0, r.1, or_right (s r.0) (a r.0) r.2))
  ]

  exp_from : (a : Exp) → From (in_exp a) (in_exp (renamed_exp ρ a))
  exp_from (Number z) = none_from
  exp_from (Variable v) = just_from v
  exp_from (SizeOf v) = just_from v
  exp_from (Binary op a b) = both_from (in_exp a) (in_exp (renamed_exp ρ a)) (in_exp b) (in_exp (renamed_exp ρ b)) (exp_from a) (exp_from b)

  given_from : (a : Given) → From (in_given a) (in_given (renamed_given ρ a))
  given_from (Whole a) = exp_from a
  given_from (Bytes (Literal xs)) = none_from
  given_from (Bytes (Contents v)) = just_from v
  given_from (Bytes (Filled b n)) = none_from

  test_from : (a : Test) → From (in_test a) (in_test (renamed_test ρ a))
  test_from (Constant b) = none_from
  test_from (Compare rel a b) = both_from (in_exp a) (in_exp (renamed_exp ρ a)) (in_exp b) (in_exp (renamed_exp ρ b)) (exp_from a) (exp_from b)
  test_from (Both a b) = both_from (in_test a) (in_test (renamed_test ρ a)) (in_test b) (in_test (renamed_test ρ b)) (test_from a) (test_from b)
  test_from (Either a b) = both_from (in_test a) (in_test (renamed_test ρ a)) (in_test b) (in_test (renamed_test ρ b)) (test_from a) (test_from b)
  test_from (Negate a) = test_from a

  mutual
    pub changes_from : {p q : Proc} → Renamed ρ p q → From (changes p) (changes q)
    changes_from skips = none_from
    changes_from never = none_from
    changes_from (assigns {v = v}) = just_from v
    changes_from sends = none_from
    changes_from (receives {v = v}) = just_from v
    changes_from stops = none_from
    changes_from (in_turn h) = all_changes_from h
    changes_from (abreast h) = all_changes_from h
    changes_from (one_of h) = branches_changes_from h
    changes_from (again h) = changes_from h
    changes_from (counts {v = v} {p = p} {q = q} h) = both_from (just v) (just (ρ v)) (changes p) (changes q) (just_from v) (changes_from h)
    changes_from (chooses h) = guards_changes_from h

    all_changes_from : {ps qs : Procs} → AllRenamed ρ ps qs → From (changes_all ps) (changes_all qs)
    all_changes_from no_part = none_from
    all_changes_from (parts {p = p} {q = q} {ps = ps} {qs = qs} h f) = both_from (changes p) (changes q) (changes_all ps) (changes_all qs) (changes_from h) (all_changes_from f)

    branches_changes_from : {bs ds : Branches} → BranchesRenamed ρ bs ds → From (changes_branches bs) (changes_branches ds)
    branches_changes_from no_branch = none_from
    branches_changes_from (branches {p = p} {q = q} {bs = bs} {ds = ds} h f) = both_from (changes p) (changes q) (changes_branches bs) (changes_branches ds) (changes_from h) (branches_changes_from f)

    guards_changes_from : {gs hs : Guards} → GuardsRenamed ρ gs hs → From (changes_guards gs) (changes_guards hs)
    guards_changes_from no_guard = none_from
    guards_changes_from (guards {v = v} {p = p} {q = q} {gs = gs} {hs = hs} h f) =
        both_from (just v ∪ changes p) (just (ρ v) ∪ changes q) (changes_guards gs) (changes_guards hs) (both_from (just v) (just (ρ v)) (changes p) (changes q) (just_from v) (changes_from h)) (guards_changes_from f)

  mutual
    pub uses_from : {p q : Proc} → Renamed ρ p q → From (uses p) (uses q)
    uses_from (assigns {v = v} {a = a}) = both_from (just v) (just (ρ v)) (in_given a) (in_given (renamed_given ρ a)) (just_from v) (given_from a)
    uses_from (sends {a = a}) = given_from a
    uses_from (receives {v = v}) = just_from v
    uses_from (in_turn h) = all_uses_from h
    uses_from (abreast h) = all_uses_from h
    uses_from (one_of h) = branches_uses_from h
    uses_from (again {b = b} {p = p} {q = q} h) = both_from (in_test b) (in_test (renamed_test ρ b)) (uses p) (uses q) (test_from b) (uses_from h)
    uses_from (counts {v = v} {a = a} {n = n} {p = p} {q = q} h) =
        both_from (just v ∪ (in_exp a ∪ in_exp n)) (just (ρ v) ∪ (in_exp (renamed_exp ρ a) ∪ in_exp (renamed_exp ρ n))) (uses p) (uses q)
        (both_from (just v) (just (ρ v)) (in_exp a ∪ in_exp n) (in_exp (renamed_exp ρ a) ∪ in_exp (renamed_exp ρ n)) (just_from v)
        (both_from (in_exp a) (in_exp (renamed_exp ρ a)) (in_exp n) (in_exp (renamed_exp ρ n)) (exp_from a) (exp_from n)))
        (uses_from h)
    uses_from (chooses h) = guards_uses_from h
    uses_from x = none_from

    all_uses_from : {ps qs : Procs} → AllRenamed ρ ps qs → From (uses_all ps) (uses_all qs)
    all_uses_from no_part = none_from
    all_uses_from (parts {p = p} {q = q} {ps = ps} {qs = qs} h f) = both_from (uses p) (uses q) (uses_all ps) (uses_all qs) (uses_from h) (all_uses_from f)

    branches_uses_from : {bs ds : Branches} → BranchesRenamed ρ bs ds → From (uses_branches bs) (uses_branches ds)
    branches_uses_from no_branch = none_from
    branches_uses_from (branches {b = b} {p = p} {q = q} {bs = bs} {ds = ds} h f) =
        both_from (in_test b ∪ uses p) (in_test (renamed_test ρ b) ∪ uses q) (uses_branches bs) (uses_branches ds)
        (both_from (in_test b) (in_test (renamed_test ρ b)) (uses p) (uses q) (test_from b) (uses_from h)) (branches_uses_from f)

    guards_uses_from : {gs hs : Guards} → GuardsRenamed ρ gs hs → From (uses_guards gs) (uses_guards hs)
    guards_uses_from no_guard = none_from
    guards_uses_from (guards {b = b} {v = v} {p = p} {q = q} {gs = gs} {hs = hs} h f) =
        both_from (just v ∪ in_test b ∪ uses p) (just (ρ v) ∪ in_test (renamed_test ρ b) ∪ uses q) (uses_guards gs) (uses_guards hs)
        (both_from (just v ∪ in_test b) (just (ρ v) ∪ in_test (renamed_test ρ b)) (uses p) (uses q)
        (both_from (just v) (just (ρ v)) (in_test b) (in_test (renamed_test ρ b)) (just_from v) (test_from b)) (uses_from h))
        (guards_uses_from f)

-- no two of the variables that count get one number
module _ (ρ : ℕ → ℕ) (dom : Set) (apart : (v w : ℕ) → dom v ≡ true → dom w ≡ true → ρ v ≡ ρ w → v ≡ w) where
  left_within : (a b : Set) → Within (a ∪ b) dom → Within a dom
  left_within a b u v e = u v (or_left (a v) (b v) e)

  right_within : (a b : Set) → Within (a ∪ b) dom → Within b dom
  right_within a b u v e = u v (or_right (a v) (b v) e)

  -- one part changes what another uses
  changed : {p q r s : Proc} (w : ℕ) → Renamed ρ p q → Renamed ρ r s → Within (uses p) dom → Within (uses r) dom → changes q w ≡ true → uses s w ≡ true → (v : ℕ) × (changes p v ≡ true) × (uses r v ≡ true)
  changed {p} {q} {r} {s} w h g u m c e =
      let a = changes_from ρ h w c in
      let b = uses_from ρ g w e in
      let is = apart a.0 b.0 (u a.0 (changed_used p a.0 a.2)) (m b.0 b.2) (sym a.1 ∙ b.1) in
      (a.0, a.2, subst (λ v. uses r v ≡ true) (sym is) b.2)

  with_variables : {p q : Proc} (w : ℕ) → Renamed ρ p q → Within (uses p) dom → {ps qs : Procs} → AllRenamed ρ ps qs → Within (uses_all ps) dom → With changes uses w q qs → (v : ℕ) × With changes uses v p ps
  with_variables w h u no_part m e = absurd e
  with_variables {p} {q} w h u (parts {p = r} {q = s} {ps = ps} {qs = qs} g f) m (inl e) = elim (either (changes q w && uses s w) (uses q w && changes s w) e) [
    | inl x ↦ (let b = both (changes q w) (uses s w) x in let z = changed w h g u (left_within (uses r) (uses_all ps) m) b.0 b.1 in (z.0, inl (or_left (changes p z.0 && uses r z.0) (uses p z.0 && changes r z.0) (both_true z.1 z.2))))
    | inr x ↦ (let b = both (uses q w) (changes s w) x in let z = changed w g h (left_within (uses r) (uses_all ps) m) u b.1 b.0 in (z.0, inl (or_right (changes p z.0 && uses r z.0) (uses p z.0 && changes r z.0) (both_true z.2 z.1))))
  ]
  with_variables w h u (parts {p = r} {ps = ps} g f) m (inr e) = let z = with_variables w h u f (right_within (uses r) (uses_all ps) m) e in (z.0, inr z.1)

  shared_variables : (w : ℕ) {ps qs : Procs} → AllRenamed ρ ps qs → Within (uses_all ps) dom → Shared changes uses w qs → (v : ℕ) × Shared changes uses v ps
  shared_variables w no_part m e = absurd e
  shared_variables w (parts {p = p} {ps = ps} h f) m (inl e) = let z = with_variables w h (left_within (uses p) (uses_all ps) m) f (right_within (uses p) (uses_all ps) m) e in (z.0, inl z.1)
  shared_variables w (parts {p = p} {ps = ps} h f) m (inr e) = let z = shared_variables w f (right_within (uses p) (uses_all ps) m) e in (z.0, inr z.1)

  side_by_side_kept : {ps qs : Procs} → AllRenamed ρ ps qs → Within (uses_all ps) dom → SideBySide ps → SideBySide qs
  side_by_side_kept f m s = (
    λ c e. s.0 c (shared_outputs ρ c f e),
    λ c e. s.1 c (shared_inputs ρ c f e),
    λ w e. (let z = shared_variables w f m e in s.2 z.0 z.1),
  )

  mutual
    pub lawful_kept : {p q : Proc} → Renamed ρ p q → Within (uses p) dom → Lawfully p → Lawfully q
    lawful_kept skips u l = tt
    lawful_kept never u l = tt
    lawful_kept assigns u l = tt
    lawful_kept sends u l = tt
    lawful_kept receives u l = tt
    lawful_kept stops u l = tt
    lawful_kept (in_turn f) u l = all_lawful_kept f u l
    lawful_kept (abreast f) u l = (side_by_side_kept f u l.0, all_lawful_kept f u l.1)
    lawful_kept (one_of f) u l = branches_lawful_kept f u l
    lawful_kept (again {b = b} {p = p} h) u l = lawful_kept h (right_within (in_test b) (uses p) u) l
    lawful_kept (counts {v = v} {a = a} {n = n} {p = p} {q = q} h) u l =
        let head = left_within (just v ∪ (in_exp a ∪ in_exp n)) (uses p) u in
        let mine = left_within (just v) (in_exp a ∪ in_exp n) head v (eq-eqb v v refl) in
        let body = right_within (just v ∪ (in_exp a ∪ in_exp n)) (uses p) u in (
          not_true (changes q (ρ v)) (λ e.
              (let z = changes_from ρ h (ρ v) e in
              let is = apart v z.0 mine (body z.0 (changed_used p z.0 z.2)) z.1 in
              true≢false (sym z.2 ∙ ap (changes p) (sym is) ∙ l.0))),
          lawful_kept h body l.1,
        )
    lawful_kept (chooses f) u l = guards_lawful_kept f u l

    all_lawful_kept : {ps qs : Procs} → AllRenamed ρ ps qs → Within (uses_all ps) dom → LawfullyAll ps → LawfullyAll qs
    all_lawful_kept no_part u l = tt
    all_lawful_kept (parts {p = p} {ps = ps} h f) u l = (lawful_kept h (left_within (uses p) (uses_all ps) u) l.0, all_lawful_kept f (right_within (uses p) (uses_all ps) u) l.1)

    branches_lawful_kept : {bs ds : Branches} → BranchesRenamed ρ bs ds → Within (uses_branches bs) dom → LawfullyBranches bs → LawfullyBranches ds
    branches_lawful_kept no_branch u l = tt
    branches_lawful_kept (branches {b = b} {p = p} {bs = bs} h f) u l =
        (lawful_kept h (right_within (in_test b) (uses p) (left_within (in_test b ∪ uses p) (uses_branches bs) u)) l.0, branches_lawful_kept f (right_within (in_test b ∪ uses p) (uses_branches bs) u) l.1)

    guards_lawful_kept : {gs hs : Guards} → GuardsRenamed ρ gs hs → Within (uses_guards gs) dom → LawfullyGuards gs → LawfullyGuards hs
    guards_lawful_kept no_guard u l = tt
    guards_lawful_kept (guards {b = b} {v = v} {p = p} {gs = gs} h f) u l =
        (lawful_kept h (right_within (just v ∪ in_test b) (uses p) (left_within (just v ∪ in_test b ∪ uses p) (uses_guards gs) u)) l.0, guards_lawful_kept f (right_within (just v ∪ in_test b ∪ uses p) (uses_guards gs) u) l.1)

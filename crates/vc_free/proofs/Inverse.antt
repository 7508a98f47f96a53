-- A process over other variables, renamed back: it is the process that it was, and has the same traces.
use Rattle.std.proofs.Common.{◌≡◌, ℕ, ◌+◌, ◌-◌, ◌<◌, true, false, refl, sym, ap, ap₂, subst, ◌∙◌, List, inl, inr, arith, eq-eqb, eqb-true, nat_lt}
use Rattle.std.proofs.lemmas.Bool.{lt-ltb, ltb-true, or_left, or_right}
use Rattle.vc_occam.proofs.Renamings.{EndsAgree, trace_renamed}
use Rattle.vc_occam.proofs.Sites.{either}
use Rattle.vc_occam.specs.Traces.{Comm, End, Open, Ended, Trace}
use Rattle.vc_placement.specs.Parallel.{IsEnded}
use Rattle.vc_plan.specs.OneNode.{IsBehind}
use Rattle.vc_process.specs.Renaming.{renamed_exp, renamed_test, renamed_given, Renamed, skips, never, assigns, outputs, inputs, stops, in_turn, abreast, one_of, again, counts, chooses, AllRenamed, no_part, parts, BranchesRenamed, no_branch, branches, GuardsRenamed, no_guard, guards}
use Rattle.vc_process.specs.Syntax.{Exp, Number, Variable, Binary, SizeOf, Test, Constant, Compare, Both, Either, Negate, Literal, Contents, Filled, Given, Whole, Bytes, Proc, Assign, Output, Input, WHILE, COUNT, Procs, Branches, Guards, branch, guard}
use Rattle.vc_process.specs.Usage.{Set, nothing, ◌∪◌, just, in_exp, in_test, in_given, uses, uses_all, uses_branches, uses_guards}
use Rattle.vc_process.specs.Values.{Store}

module _ (ρ σ : ℕ → ℕ) (dom : Set) (back : (v : ℕ) → dom v ≡ true → σ (ρ v) ≡ v) where
  abbrev Under : Set → Type 0
  Under s = (v : ℕ) → s v ≡ true → dom v ≡ true

  first_under : (a b : Set) → Under (a ∪ b) → Under a
  first_under a b u v h = u v (or_left (a v) (b v) h)

  second_under : (a b : Set) → Under (a ∪ b) → Under b
  second_under a b u v h = u v (or_right (a v) (b v) h)

  one_back : (v : ℕ) → Under (just v) → σ (ρ v) ≡ v
  one_back v u = back v (u v (eq-eqb v v refl))

  exp_back : (a : Exp) → Under (in_exp a) → renamed_exp σ (renamed_exp ρ a) ≡ a
  exp_back (Number z) u = refl
  exp_back (Variable v) u = ap Variable (one_back v u)
  exp_back (Binary op a b) u = ap₂ (Binary op) (exp_back a (first_under (in_exp a) (in_exp b) u)) (exp_back b (second_under (in_exp a) (in_exp b) u))
  exp_back (SizeOf v) u = ap SizeOf (one_back v u)

  test_back : (a : Test) → Under (in_test a) → renamed_test σ (renamed_test ρ a) ≡ a
  test_back (Constant b) u = refl
  test_back (Compare rel a b) u = ap₂ (Compare rel) (exp_back a (first_under (in_exp a) (in_exp b) u)) (exp_back b (second_under (in_exp a) (in_exp b) u))
  test_back (Both a b) u = ap₂ Both (test_back a (first_under (in_test a) (in_test b) u)) (test_back b (second_under (in_test a) (in_test b) u))
  test_back (Either a b) u = ap₂ Either (test_back a (first_under (in_test a) (in_test b) u)) (test_back b (second_under (in_test a) (in_test b) u))
  test_back (Negate a) u = ap Negate (test_back a u)

  given_back : (a : Given) → Under (in_given a) → renamed_given σ (renamed_given ρ a) ≡ a
  given_back (Whole a) u = ap Whole (exp_back a u)
  given_back (Bytes (Literal xs)) u = refl
  given_back (Bytes (Contents v)) u = ap (λ z. Bytes (Contents z)) (one_back v u)
  given_back (Bytes (Filled b n)) u = refl

  mutual
    process_back : {p q : Proc} → Renamed ρ p q → Under (uses p) → Renamed σ q p
    process_back skips u = skips
    process_back never u = never
    process_back (assigns {i = i} {j = j} {v = v} {a = a}) u =
        subst (λ z. Renamed σ (Assign j (ρ v) (renamed_given ρ a)) (Assign i z a)) (one_back v (first_under (just v) (in_given a) u))
        (subst (λ z. Renamed σ (Assign j (ρ v) (renamed_given ρ a)) (Assign i (σ (ρ v)) z)) (given_back a (second_under (just v) (in_given a) u)) assigns)
    process_back (outputs {i = i} {j = j} {c = c} {a = a}) u = subst (λ z. Renamed σ (Output j c (renamed_given ρ a)) (Output i c z)) (given_back a u) outputs
    process_back (inputs {i = i} {j = j} {c = c} {v = v}) u = subst (λ z. Renamed σ (Input j c (ρ v)) (Input i c z)) (one_back v u) inputs
    process_back stops u = stops
    process_back (in_turn h) u = in_turn (all_back h u)
    process_back (abreast h) u = abreast (all_back h u)
    process_back (one_of h) u = one_of (branches_back h u)
    process_back (again {i = i} {j = j} {b = b} {p = p} {q = q} h) u =
        subst (λ z. Renamed σ (WHILE j (renamed_test ρ b) q) (WHILE i z p)) (test_back b (first_under (in_test b) (uses p) u)) (again (process_back h (second_under (in_test b) (uses p) u)))
    process_back (counts {i = i} {j = j} {v = v} {a = a} {n = n} {p = p} {q = q} h) u =
        let mine = first_under (just v ∪ (in_exp a ∪ in_exp n)) (uses p) u in
        let both = second_under (just v) (in_exp a ∪ in_exp n) mine in
        subst (λ z. Renamed σ (COUNT j (ρ v) (renamed_exp ρ a) (renamed_exp ρ n) q) (COUNT i z a n p)) (one_back v (first_under (just v) (in_exp a ∪ in_exp n) mine))
        (subst (λ z. Renamed σ (COUNT j (ρ v) (renamed_exp ρ a) (renamed_exp ρ n) q) (COUNT i (σ (ρ v)) z n p)) (exp_back a (first_under (in_exp a) (in_exp n) both))
        (subst (λ z. Renamed σ (COUNT j (ρ v) (renamed_exp ρ a) (renamed_exp ρ n) q) (COUNT i (σ (ρ v)) (renamed_exp σ (renamed_exp ρ a)) z p)) (exp_back n (second_under (in_exp a) (in_exp n) both))
        (counts (process_back h (second_under (just v ∪ (in_exp a ∪ in_exp n)) (uses p) u)))))
    process_back (chooses h) u = chooses (guards_back h u)

    all_back : {ps qs : Procs} → AllRenamed ρ ps qs → Under (uses_all ps) → AllRenamed σ qs ps
    all_back no_part u = no_part
    all_back (parts {p = p} {ps = ps} h g) u = parts (process_back h (first_under (uses p) (uses_all ps) u)) (all_back g (second_under (uses p) (uses_all ps) u))

    branches_back : {bs ds : Branches} → BranchesRenamed ρ bs ds → Under (uses_branches bs) → BranchesRenamed σ ds bs
    branches_back no_branch u = no_branch
    branches_back (branches {b = b} {p = p} {q = q} {bs = bs} {ds = ds} h g) u =
        let mine = first_under (in_test b ∪ uses p) (uses_branches bs) u in
        subst (λ z. BranchesRenamed σ (branch (renamed_test ρ b) q ds) (branch z p bs)) (test_back b (first_under (in_test b) (uses p) mine))
        (branches (process_back h (second_under (in_test b) (uses p) mine)) (branches_back g (second_under (in_test b ∪ uses p) (uses_branches bs) u)))

    guards_back : {gs hs : Guards} → GuardsRenamed ρ gs hs → Under (uses_guards gs) → GuardsRenamed σ hs gs
    guards_back no_guard u = no_guard
    guards_back (guards {b = b} {c = c} {v = v} {p = p} {q = q} {gs = gs} {hs = hs} h g) u =
        let mine = first_under (just v ∪ in_test b ∪ uses p) (uses_guards gs) u in
        let head = first_under (just v ∪ in_test b) (uses p) mine in
        subst (λ z. GuardsRenamed σ (guard (renamed_test ρ b) c (ρ v) q hs) (guard z c v p gs)) (test_back b (second_under (just v) (in_test b) head))
        (subst (λ z. GuardsRenamed σ (guard (renamed_test ρ b) c (ρ v) q hs) (guard (renamed_test σ (renamed_test ρ b)) c z p gs)) (one_back v (first_under (just v) (in_test b) head))
        (guards (process_back h (second_under (just v ∪ in_test b) (uses p) mine)) (guards_back g (second_under (just v ∪ in_test b ∪ uses p) (uses_guards gs) u))))

-- whatever the renamed process uses is renamed of what the process uses
module _ (ρ : ℕ → ℕ) where
  abbrev Of : Set → Set → Type 0
  Of s t = (w : ℕ) → t w ≡ true → (v : ℕ) × (s v ≡ true) × (w ≡ ρ v)

  none_of : Of nothing nothing
  none_of w h = absurd (let z : false ≡ true = h in cc)

  just_of : (v : ℕ) → Of (just v) (just (ρ v))
  just_of v w h = (v, eq-eqb v v refl, eqb-true w (ρ v) h)

  or_of : (a b c d : Set) → Of a b → Of c d → Of (a ∪ c) (b ∪ d)
  or_of a b c d f g w h = elim (either (b w) (d w) h) [
    | inl e ↦ (let r = f w e in (r.0, or_left (a r.0) (c r.0) r.1, r.2))
    | inr e ↦ (let r = g w e in (r.0, or_right (a r.0) (c r.0) r.1, r.2))
  ]

  exp_of : (a : Exp) → Of (in_exp a) (in_exp (renamed_exp ρ a))
  exp_of (Number z) = none_of
  exp_of (Variable v) = just_of v
  exp_of (Binary op a b) = or_of (in_exp a) (in_exp (renamed_exp ρ a)) (in_exp b) (in_exp (renamed_exp ρ b)) (exp_of a) (exp_of b)
  exp_of (SizeOf v) = just_of v

  test_of : (a : Test) → Of (in_test a) (in_test (renamed_test ρ a))
  test_of (Constant b) = none_of
  test_of (Compare rel a b) = or_of (in_exp a) (in_exp (renamed_exp ρ a)) (in_exp b) (in_exp (renamed_exp ρ b)) (exp_of a) (exp_of b)
  test_of (Both a b) = or_of (in_test a) (in_test (renamed_test ρ a)) (in_test b) (in_test (renamed_test ρ b)) (test_of a) (test_of b)
  test_of (Either a b) = or_of (in_test a) (in_test (renamed_test ρ a)) (in_test b) (in_test (renamed_test ρ b)) (test_of a) (test_of b)
  test_of (Negate a) = test_of a

  given_of : (a : Given) → Of (in_given a) (in_given (renamed_given ρ a))
  given_of (Whole a) = exp_of a
  given_of (Bytes (Literal xs)) = none_of
  given_of (Bytes (Contents v)) = just_of v
  given_of (Bytes (Filled b n)) = none_of

  mutual
    uses_of : {p q : Proc} → Renamed ρ p q → Of (uses p) (uses q)
    uses_of (assigns {v = v} {a = a}) = or_of (just v) (just (ρ v)) (in_given a) (in_given (renamed_given ρ a)) (just_of v) (given_of a)
    uses_of (outputs {a = a}) = given_of a
    uses_of (inputs {v = v}) = just_of v
    uses_of (in_turn h) = all_of h
    uses_of (abreast h) = all_of h
    uses_of (one_of h) = branches_of h
    uses_of (again {b = b} {p = p} {q = q} h) = or_of (in_test b) (in_test (renamed_test ρ b)) (uses p) (uses q) (test_of b) (uses_of h)
    uses_of (counts {v = v} {a = a} {n = n} {p = p} {q = q} h) =
        or_of (just v ∪ (in_exp a ∪ in_exp n)) (just (ρ v) ∪ (in_exp (renamed_exp ρ a) ∪ in_exp (renamed_exp ρ n))) (uses p) (uses q)
        (or_of (just v) (just (ρ v)) (in_exp a ∪ in_exp n) (in_exp (renamed_exp ρ a) ∪ in_exp (renamed_exp ρ n)) (just_of v) (or_of (in_exp a) (in_exp (renamed_exp ρ a)) (in_exp n) (in_exp (renamed_exp ρ n)) (exp_of a) (exp_of n))) (uses_of h)
    uses_of (chooses h) = guards_of h
    uses_of x = none_of

    all_of : {ps qs : Procs} → AllRenamed ρ ps qs → Of (uses_all ps) (uses_all qs)
    all_of no_part = none_of
    all_of (parts {p = p} {q = q} {ps = ps} {qs = qs} h g) = or_of (uses p) (uses q) (uses_all ps) (uses_all qs) (uses_of h) (all_of g)

    branches_of : {bs ds : Branches} → BranchesRenamed ρ bs ds → Of (uses_branches bs) (uses_branches ds)
    branches_of no_branch = none_of
    branches_of (branches {b = b} {p = p} {q = q} {bs = bs} {ds = ds} h g) =
        or_of (in_test b ∪ uses p) (in_test (renamed_test ρ b) ∪ uses q) (uses_branches bs) (uses_branches ds) (or_of (in_test b) (in_test (renamed_test ρ b)) (uses p) (uses q) (test_of b) (uses_of h)) (branches_of g)

    guards_of : {gs hs : Guards} → GuardsRenamed ρ gs hs → Of (uses_guards gs) (uses_guards hs)
    guards_of no_guard = none_of
    guards_of (guards {b = b} {v = v} {p = p} {q = q} {gs = gs} {hs = hs} h g) =
        or_of (just v ∪ in_test b ∪ uses p) (just (ρ v) ∪ in_test (renamed_test ρ b) ∪ uses q) (uses_guards gs) (uses_guards hs)
        (or_of (just v ∪ in_test b) (just (ρ v) ∪ in_test (renamed_test ρ b)) (uses p) (uses q) (or_of (just v) (just (ρ v)) (in_test b) (in_test (renamed_test ρ b)) (just_of v) (test_of b)) (uses_of h)) (guards_of g)

-- ---- traces

has_ended : (ρ : ℕ → ℕ) (dom : Set) (apart : (v w : ℕ) → dom v ≡ true → dom w ≡ true → ρ v ≡ ρ w → v ≡ w) (x y : End) → EndsAgree ρ dom apart x y → IsEnded x → IsEnded y
has_ended ρ dom apart Open y e (f, h) = absurd (cc)
has_ended ρ dom apart (Ended g) (Ended h) e i = (h, refl)
has_ended ρ dom apart (Ended g) Open e i = absurd e

-- a trace of the process that is moved behind k variables is one of the process
pub moved_back : (k vars : ℕ) (p q : Proc) (big small : Store) (l : List Comm) (x : End) → IsBehind k vars p q → ((v : ℕ) → uses p v ≡ true → v < vars) → ((v : ℕ) → v < vars → big (k + v) ≡ small v) → Trace q big l x →
    (y : End) × Trace p small l y × (IsEnded x → IsEnded y)
moved_back k vars p q big small l x (ρ, is, renamed) few same trace =
    let σ : ℕ → ℕ = λ w. w - k in
    let mine : Set = λ v. nat_lt v vars in
    let back : (v : ℕ) → mine v ≡ true → σ (ρ v) ≡ v = λ v h. (let e = is v (ltb-true v vars h) in omega arith) in
    let h : Renamed σ q p = process_back ρ σ mine back renamed (λ v u. lt-ltb v vars (few v u)) in
    let theirs : Set = uses q in
    let apart : (v w : ℕ) → theirs v ≡ true → theirs w ≡ true → σ v ≡ σ w → v ≡ w = λ v w a b e. (
    let r = uses_of ρ renamed v a in
    let t = uses_of ρ renamed w b in
    let f = is r.0 (few r.0 r.1) in
    let g = is t.0 (few t.0 t.1) in
    let i = r.2 in
    let j = t.2 in
    omega arith
    ) in
    let agrees : (w : ℕ) → theirs w ≡ true → small (σ w) ≡ big w = λ w a. (
    let r = uses_of ρ renamed w a in
    let e = is r.0 (few r.0 r.1) in
    let w_is : w ≡ k + r.0 = r.2 ∙ e in
    let v_is : w - k ≡ r.0 = omega arith in
    ap small v_is ∙ sym (same r.0 (few r.0 r.1)) ∙ ap big (sym w_is)
    ) in
    let z = trace_renamed σ theirs apart trace small h (λ v u. u) agrees in
    (z.0, z.1, has_ended σ theirs apart x z.0 z.2)

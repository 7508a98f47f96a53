-- A process over other variables has the same traces, where these hold the same.
use Rattle.std.proofs.Common.{◌≡◌, ℕ, ℤ, pos, Bool, true, false, not, ◌||◌, refl, sym, ap, ap₂, subst, ◌∙◌, List, length, Some, option_and_then, inl, inr, eq-eqb, ne_eqb, if◌then◌else◌}
use Rattle.std.proofs.lemmas.Bool.{cases_eq}
use Rattle.vc_process.specs.declared.datum.Datum.{Datum}
use Rattle.vc_process.specs.declared.datum.Datum.TheVariants as datum
use Rattle.vc_process.specs.Renaming.{renamed_exp, renamed_test, renamed_given, Renamed, skips, assigns, outputs, inputs, stops, in_turn, abreast, one_of, again, counts, chooses, AllRenamed, no_part, parts, BranchesRenamed, no_branch, branches, GuardsRenamed, no_guard, guards}
use Rattle.vc_process.specs.Syntax.{Exp, Number, Variable, Binary, SizeOf, Test, Constant, Compare, Both, Either, Negate, Literal, Contents, Filled, Given, Whole, Bytes, Proc, Procs, Branches, Guards}
use Rattle.vc_process.specs.Values.{Store, whole_of, bytes_of, with_both, result, compares, within, value_of, holds, datum_of}
use Rattle.vc_process.specs.Usage.{Set, ◌∪◌, just, in_exp, in_test, in_given, changes, changes_all, changes_branches, changes_guards, uses, uses_all, uses_branches, uses_guards}
use Rattle.vc_occam.proofs.Stores.{or_left, or_right}
use Rattle.vc_occam.proofs.Changes.{changed_used}
use Rattle.vc_occam.specs.Traces.{Comm, End, Open, Ended, set, SameKind, both_ended, Counts, Decided, Trace, cut, skip, assign, begin_out, out, input, stop_chan, seq, par, choose, leave, last_turn, turn, count, select, TraceSeq, seq_end, seq_open, seq_next, TracePar, par_end, par_more, TraceIf, here, further, TraceCount, counted, count_open, count_turn, TraceAlt, this, that}

-- no two of the variables that count get one number
module _ (ρ : ℕ → ℕ) (dom : Set) (apart : (v w : ℕ) → dom v ≡ true → dom w ≡ true → ρ v ≡ ρ w → v ≡ w) where
  -- all of these count
  abbrev pub Under : Set → Type 0
  Under s = (v : ℕ) → s v ≡ true → dom v ≡ true

  first_under : (a b : Set) → Under (a ∪ b) → Under a
  first_under a b u v h = u v (or_left (a v) (b v) h)

  second_under : (a b : Set) → Under (a ∪ b) → Under b
  second_under a b u v h = u v (or_right (a v) (b v) h)

  one_under : (v : ℕ) → Under (just v) → dom v ≡ true
  one_under v u = u v (eq-eqb v v refl)

  -- each variable that counts holds the same, under its other number
  abbrev pub Agrees : Store → Store → Type 0
  Agrees e d = (v : ℕ) → dom v ≡ true → d (ρ v) ≡ e v

  module _ (e d : Store) (same : Agrees e d) where
    value_renamed : (a : Exp) → Under (in_exp a) → value_of (renamed_exp ρ a) d ≡ value_of a e
    value_renamed (Number z) u = refl
    value_renamed (Variable v) u = ap (λ x. Some (whole_of x)) (same v (one_under v u))
    value_renamed (Binary op a b) u = ap₂ (λ x y. with_both x y (result op)) (value_renamed a (first_under (in_exp a) (in_exp b) u)) (value_renamed b (second_under (in_exp a) (in_exp b) u))
    value_renamed (SizeOf v) u = ap (λ x. within (pos (length (bytes_of x)))) (same v (one_under v u))

    holds_renamed : (a : Test) → Under (in_test a) → holds (renamed_test ρ a) d ≡ holds a e
    holds_renamed (Constant b) u = refl
    holds_renamed (Compare rel a b) u = ap₂ (λ x y. with_both x y (λ i j. Some (compares rel i j))) (value_renamed a (first_under (in_exp a) (in_exp b) u)) (value_renamed b (second_under (in_exp a) (in_exp b) u))
    holds_renamed (Both a b) u = ap₂ (λ x y. option_and_then (λ z. if z then y else Some false) x) (holds_renamed a (first_under (in_test a) (in_test b) u)) (holds_renamed b (second_under (in_test a) (in_test b) u))
    holds_renamed (Either a b) u = ap₂ (λ x y. option_and_then (λ z. if z then Some true else y) x) (holds_renamed a (first_under (in_test a) (in_test b) u)) (holds_renamed b (second_under (in_test a) (in_test b) u))
    holds_renamed (Negate a) u = ap (option_and_then (λ x. Some (not x))) (holds_renamed a u)

    datum_renamed : (a : Given) → Under (in_given a) → datum_of (renamed_given ρ a) d ≡ datum_of a e
    datum_renamed (Whole a) u = ap (option_and_then (λ z. Some (datum.Int z))) (value_renamed a u)
    datum_renamed (Bytes (Literal xs)) u = refl
    datum_renamed (Bytes (Contents v)) u = ap (λ x. Some (datum.Bytes (bytes_of x))) (same v (one_under v u))
    datum_renamed (Bytes (Filled b n)) u = refl

    kind_renamed : (x : Datum) (v : ℕ) → dom v ≡ true → SameKind x (e v) → SameKind x (d (ρ v))
    kind_renamed x v h s = subst (SameKind x) (sym (same v h)) s

    counts_renamed : (a n : Exp) (b : ℤ) (c : ℕ) → Under (in_exp a) → Under (in_exp n) → Counts (value_of a e) (value_of n e) b c → Counts (value_of (renamed_exp ρ a) d) (value_of (renamed_exp ρ n) d) b c
    counts_renamed a n b c u w h = (value_renamed a u ∙ h.0, value_renamed n w ∙ h.1, h.2)

    set_renamed : (w : ℕ) (x : Datum) → dom w ≡ true → Agrees (set e w x) (set d (ρ w) x)
    set_renamed w x g v h = elim (cases_eq w v) [
      | inl q ↦ ap (λ b. if b then x else d (ρ v)) (eq-eqb (ρ w) (ρ v) (ap ρ q)) ∙ sym (ap (λ b. if b then x else e v) (eq-eqb w v q))
      | inr q ↦ ap (λ b. if b then x else d (ρ v)) (ne_eqb (ρ w) (ρ v) (λ z. q (apart w v g h z))) ∙ same v h ∙ sym (ap (λ b. if b then x else e v) (ne_eqb w v q))
    ]

  -- what is changed is renamed too
  just_renamed : (w v : ℕ) → dom w ≡ true → dom v ≡ true → just (ρ w) (ρ v) ≡ just w v
  just_renamed w v g h = elim (cases_eq v w) [
    | inl q ↦ eq-eqb (ρ v) (ρ w) (ap ρ q) ∙ sym (eq-eqb v w q)
    | inr q ↦ ne_eqb (ρ v) (ρ w) (λ z. q (apart v w h g z)) ∙ sym (ne_eqb v w q)
  ]

  mutual
    changes_renamed : {p q : Proc} → Renamed ρ p q → Under (changes p) → (v : ℕ) → dom v ≡ true → changes q (ρ v) ≡ changes p v
    changes_renamed (assigns {v = w}) u v l = just_renamed w v (one_under w u) l
    changes_renamed (inputs {v = w}) u v l = just_renamed w v (one_under w u) l
    changes_renamed (in_turn h) u v l = all_changes_renamed h u v l
    changes_renamed (abreast h) u v l = all_changes_renamed h u v l
    changes_renamed (one_of h) u v l = branches_changes_renamed h u v l
    changes_renamed (again h) u v l = changes_renamed h u v l
    changes_renamed (counts {v = w} {p = p} h) u v l =
        ap₂ (λ a b. a || b) (just_renamed w v (one_under w (first_under (just w) (changes p) u)) l) (changes_renamed h (second_under (just w) (changes p) u) v l)
    changes_renamed (chooses h) u v l = guards_changes_renamed h u v l
    changes_renamed x u v l = refl

    all_changes_renamed : {ps qs : Procs} → AllRenamed ρ ps qs → Under (changes_all ps) → (v : ℕ) → dom v ≡ true → changes_all qs (ρ v) ≡ changes_all ps v
    all_changes_renamed no_part u v l = refl
    all_changes_renamed (parts {p = p} {ps = ps} h g) u v l =
        ap₂ (λ a b. a || b) (changes_renamed h (first_under (changes p) (changes_all ps) u) v l) (all_changes_renamed g (second_under (changes p) (changes_all ps) u) v l)

    branches_changes_renamed : {bs ds : Branches} → BranchesRenamed ρ bs ds → Under (changes_branches bs) → (v : ℕ) → dom v ≡ true → changes_branches ds (ρ v) ≡ changes_branches bs v
    branches_changes_renamed no_branch u v l = refl
    branches_changes_renamed (branches {p = p} {bs = bs} h g) u v l =
        ap₂ (λ a b. a || b) (changes_renamed h (first_under (changes p) (changes_branches bs) u) v l) (branches_changes_renamed g (second_under (changes p) (changes_branches bs) u) v l)

    guards_changes_renamed : {gs hs : Guards} → GuardsRenamed ρ gs hs → Under (changes_guards gs) → (v : ℕ) → dom v ≡ true → changes_guards hs (ρ v) ≡ changes_guards gs v
    guards_changes_renamed no_guard u v l = refl
    guards_changes_renamed (guards {v = w} {p = p} {gs = gs} h g) u v l =
        let mine = first_under (just w ∪ changes p) (changes_guards gs) u in
        ap₂ (λ a b. a || b)
        (ap₂ (λ a b. a || b) (just_renamed w v (one_under w (first_under (just w) (changes p) mine)) l) (changes_renamed h (second_under (just w) (changes p) mine) v l))
        (guards_changes_renamed g (second_under (just w ∪ changes p) (changes_guards gs) u) v l)

  decided_renamed : (e d : Store) → Agrees e d → {gs hs : Guards} → GuardsRenamed ρ gs hs → Under (uses_guards gs) → Decided gs e → Decided hs d
  decided_renamed e d same no_guard u h = tt
  decided_renamed e d same (guards {b = b} {v = w} {p = p} {gs = gs} a g) u h =
      let mine = first_under (just w ∪ in_test b ∪ uses p) (uses_guards gs) u in
      let head = first_under (just w ∪ in_test b) (uses p) mine in
      (λ f. h.0 (sym (holds_renamed e d same b (second_under (just w) (in_test b) head)) ∙ f), decided_renamed e d same g (second_under (just w ∪ in_test b ∪ uses p) (uses_guards gs) u) h.1)

  abbrev pub EndsAgree : End → End → Type 0
  EndsAgree Open Open = Unit {0}
  EndsAgree (Ended f) (Ended g) = Agrees f g
  EndsAgree Open (Ended g) = ⊥
  EndsAgree (Ended f) Open = ⊥

  joined_at : (a b : Bool) (x y z w : Datum) → b ≡ a → z ≡ x → w ≡ y → (if b then z else w) ≡ (if a then x else y)
  joined_at true true x y z w h f g = f
  joined_at false false x y z w h f g = g
  joined_at true false x y z w h f g = absurd (cc)
  joined_at false true x y z w h f g = absurd (cc)

  both_alike : {p q : Proc} → Renamed ρ p q → Under (changes p) → (x y z w : End) → EndsAgree x z → EndsAgree y w → EndsAgree (both_ended (changes p) x y) (both_ended (changes q) z w)
  both_alike h u Open y Open w a b = tt
  both_alike h u (Ended f) Open (Ended g) Open a b = tt
  both_alike {p} {q} h u (Ended f) (Ended f') (Ended g) (Ended g') a b = λ v l. joined_at (changes p v) (changes q (ρ v)) (f v) (f' v) (g (ρ v)) (g' (ρ v)) (changes_renamed h u v l) (a v l) (b v l)
  both_alike h u Open y (Ended g) w a b = absurd a
  both_alike h u (Ended f) y Open w a b = absurd a
  both_alike h u (Ended f) Open (Ended g) (Ended g') a b = absurd b
  both_alike h u (Ended f) (Ended f') (Ended g) Open a b = absurd b

  -- a trace of the renamed process, and its end
  abbrev Renewed : (End → Type 0) → End → Type 0
  Renewed Made x = (y : End) × Made y × EndsAgree x y

  -- a part that has ended, for what comes behind it
  ended_at : {f : Store} (y : End) → EndsAgree (Ended f) y → (g : Store) × (y ≡ Ended g) × Agrees f g
  ended_at Open h = absurd h
  ended_at (Ended g) h = (g, refl, h)

  open_at : (y : End) → EndsAgree Open y → y ≡ Open
  open_at Open h = refl
  open_at (Ended g) h = absurd h

  mutual
    pub trace_renamed : {p : Proc} {e : Store} {t : List Comm} {x : End} → Trace p e t x → {q : Proc} (d : Store) → Renamed ρ p q → Under (uses p) → Agrees e d → Renewed (Trace q d t) x
    trace_renamed cut d h u s = (Open, cut, tt)
    trace_renamed skip d skips u s = (Ended d, skip, s)
    trace_renamed (assign {v = w} {a = a} {e = e} {x = x} g) d assigns u s =
        (Ended (set d (ρ w) x), assign (datum_renamed e d s a (second_under (just w) (in_given a) u) ∙ g), set_renamed e d s w x (one_under w (first_under (just w) (in_given a) u)))
    trace_renamed (begin_out {a = a} {e = e} g) d outputs u s = (Open, begin_out (datum_renamed e d s a u ∙ g), tt)
    trace_renamed (out {a = a} {e = e} g) d outputs u s = (Ended d, out (datum_renamed e d s a u ∙ g), s)
    trace_renamed (input {v = w} {e = e} {x = x} g) d inputs u s = (Ended (set d (ρ w) x), input (kind_renamed e d s x w (one_under w u) g), set_renamed e d s w x (one_under w u))
    trace_renamed stop_chan d stops u s = (Ended d, stop_chan, s)
    trace_renamed (seq g) d (in_turn h) u s = let r = seq_renamed g d h u s in (r.0, seq r.1, r.2)
    trace_renamed (par g) d (abreast h) u s = let r = par_renamed g d h u s in (r.0, par r.1, r.2)
    trace_renamed (choose g) d (one_of h) u s = let r = if_renamed g d h u s in (r.0, choose r.1, r.2)
    trace_renamed (leave {b = b} {p = p} {e = e} g) d (again h) u s = (Ended d, leave (holds_renamed e d s b (first_under (in_test b) (uses p) u) ∙ g), s)
    trace_renamed (last_turn {b = b} {p = p} {e = e} {t = t} g r) d (again {q = q} h) u s =
        let z = trace_renamed r d h (second_under (in_test b) (uses p) u) s in
        (Open, last_turn (holds_renamed e d s b (first_under (in_test b) (uses p) u) ∙ g) (subst (Trace q d t) (open_at z.0 z.2) z.1), tt)
    trace_renamed (turn {b = b} {p = p} {e = e} {t = t} g r r') d (again {q = q} h) u s =
        let z = trace_renamed r d h (second_under (in_test b) (uses p) u) s in
        let n = ended_at z.0 z.2 in
        let w = trace_renamed r' n.0 (again h) u n.2 in
        (w.0, turn (holds_renamed e d s b (first_under (in_test b) (uses p) u) ∙ g) (subst (Trace q d t) n.1 z.1) w.1, w.2)
    trace_renamed (count {v = w} {a = a} {k = n} {p = p} {e = e} {b = b} {n = c} g r) d (counts h) u s =
        let mine = first_under (just w ∪ (in_exp a ∪ in_exp n)) (uses p) u in
        let both = second_under (just w) (in_exp a ∪ in_exp n) mine in
        let z = count_renamed r d h (one_under w (first_under (just w) (in_exp a ∪ in_exp n) mine)) (second_under (just w ∪ (in_exp a ∪ in_exp n)) (uses p) u) s in
        (z.0, count (counts_renamed e d s a n b c (first_under (in_exp a) (in_exp n) both) (second_under (in_exp a) (in_exp n) both) g) z.1, z.2)
    trace_renamed (select {e = e} g r) d (chooses h) u s = let z = alt_renamed r d h u s in (z.0, select (decided_renamed e d s h u g) z.1, z.2)

    seq_renamed : {ps : Procs} {e : Store} {t : List Comm} {x : End} → TraceSeq ps e t x → {qs : Procs} (d : Store) → AllRenamed ρ ps qs → Under (uses_all ps) → Agrees e d → Renewed (TraceSeq qs d t) x
    seq_renamed seq_end d no_part u s = (Ended d, seq_end, s)
    seq_renamed (seq_open {p = p} {ps = ps} {t = t} r) d (parts {q = q} h g) u s =
        let z = trace_renamed r d h (first_under (uses p) (uses_all ps) u) s in
        (Open, seq_open (subst (Trace q d t) (open_at z.0 z.2) z.1), tt)
    seq_renamed (seq_next {p = p} {ps = ps} {t = t} r r') d (parts {q = q} h g) u s =
        let z = trace_renamed r d h (first_under (uses p) (uses_all ps) u) s in
        let n = ended_at z.0 z.2 in
        let w = seq_renamed r' n.0 g (second_under (uses p) (uses_all ps) u) n.2 in
        (w.0, seq_next (subst (Trace q d t) n.1 z.1) w.1, w.2)

    par_renamed : {ps : Procs} {e : Store} {t : List Comm} {x : End} → TracePar ps e t x → {qs : Procs} (d : Store) → AllRenamed ρ ps qs → Under (uses_all ps) → Agrees e d → Renewed (TracePar qs d t) x
    par_renamed par_end d no_part u s = (Ended d, par_end, s)
    par_renamed (par_more {p = p} {ps = ps} {x = x} {y = y} r r' n) d (parts {q = q} h g) u s =
        let z = trace_renamed r d h (first_under (uses p) (uses_all ps) u) s in
        let w = par_renamed r' d g (second_under (uses p) (uses_all ps) u) s in
        (both_ended (changes q) z.0 w.0, par_more z.1 w.1 n, both_alike h (λ v l. u v (or_left (uses p v) (uses_all ps v) (changed_used p v l))) x y z.0 w.0 z.2 w.2)

    if_renamed : {bs : Branches} {e : Store} {t : List Comm} {x : End} → TraceIf bs e t x → {ds : Branches} (d : Store) → BranchesRenamed ρ bs ds → Under (uses_branches bs) → Agrees e d → Renewed (TraceIf ds d t) x
    if_renamed (here {b = b} {p = p} {bs = bs} {e = e} c r) d (branches h g) u s =
        let mine = first_under (in_test b ∪ uses p) (uses_branches bs) u in
        let z = trace_renamed r d h (second_under (in_test b) (uses p) mine) s in
        (z.0, here (holds_renamed e d s b (first_under (in_test b) (uses p) mine) ∙ c) z.1, z.2)
    if_renamed (further {b = b} {p = p} {bs = bs} {e = e} c r) d (branches h g) u s =
        let mine = first_under (in_test b ∪ uses p) (uses_branches bs) u in
        let z = if_renamed r d g (second_under (in_test b ∪ uses p) (uses_branches bs) u) s in
        (z.0, further (holds_renamed e d s b (first_under (in_test b) (uses p) mine) ∙ c) z.1, z.2)

    count_renamed : {w : ℕ} {b : ℤ} {n : ℕ} {p : Proc} {e : Store} {t : List Comm} {x : End} → TraceCount w b n p e t x → {q : Proc} (d : Store) → Renamed ρ p q → dom w ≡ true → Under (uses p) → Agrees e d → Renewed (TraceCount (ρ w) b n q d t) x
    count_renamed counted d h l u s = (Ended d, counted, s)
    count_renamed (count_open {v = w} {b = b} {e = e} {t = t} r) {q} d h l u s =
        let z = trace_renamed r (set d (ρ w) (datum.Int b)) h u (set_renamed e d s w (datum.Int b) l) in
        (Open, count_open (subst (Trace q (set d (ρ w) (datum.Int b)) t) (open_at z.0 z.2) z.1), tt)
    count_renamed (count_turn {v = w} {b = b} {e = e} {t = t} r r') {q} d h l u s =
        let z = trace_renamed r (set d (ρ w) (datum.Int b)) h u (set_renamed e d s w (datum.Int b) l) in
        let n = ended_at z.0 z.2 in
        let y = count_renamed r' n.0 h l u n.2 in
        (y.0, count_turn (subst (Trace q (set d (ρ w) (datum.Int b)) t) n.1 z.1) y.1, y.2)

    alt_renamed : {gs : Guards} {e : Store} {t : List Comm} {x : End} → TraceAlt gs e t x → {hs : Guards} (d : Store) → GuardsRenamed ρ gs hs → Under (uses_guards gs) → Agrees e d → Renewed (TraceAlt hs d t) x
    alt_renamed (this {b = b} {v = w} {p = p} {gs = gs} {e = e} {x = x} c i r) d (guards h g) u s =
        let mine = first_under (just w ∪ in_test b ∪ uses p) (uses_guards gs) u in
        let head = first_under (just w ∪ in_test b) (uses p) mine in
        let z = trace_renamed r (set d (ρ w) x) h (second_under (just w ∪ in_test b) (uses p) mine) (set_renamed e d s w x (one_under w (first_under (just w) (in_test b) head))) in
        (z.0, this (holds_renamed e d s b (second_under (just w) (in_test b) head) ∙ c) (kind_renamed e d s x w (one_under w (first_under (just w) (in_test b) head)) i) z.1, z.2)
    alt_renamed (that {b = b} {v = w} {p = p} {gs = gs} r) d (guards h g) u s =
        let z = alt_renamed r d g (second_under (just w ∪ in_test b ∪ uses p) (uses_guards gs) u) s in
        (z.0, that z.1, z.2)

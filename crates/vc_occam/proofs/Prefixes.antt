-- A front of a trace is a trace that is cut off.
use Rattle.std.proofs.Common.{◌≡◌, ℕ, suc, ℤ, refl, sym, ap, subst, List, [], ◌∷◌, ◌++◌, ◌⊎◌, inl, inr}
use Rattle.vc_process.specs.Syntax.{Proc, WHILE, Procs, part, Branches, Guards}
use Rattle.vc_process.specs.Values.{Store}
use Rattle.vc_process.specs.Usage.{Set, changes}
use Rattle.vc_occam.specs.Traces.{Comm, End, Open, Ended, Merge, neither, from_left, from_right, both_ended, Trace, cut, skip, assign, begin_out, out, input, stop_chan, seq, par, choose, leave, last_turn, turn, count, select, TraceSeq, seq_end, seq_open, seq_next, TracePar, par_end, par_more, TraceIf, here, further, TraceCount, counted, count_open, count_turn, TraceAlt, this, that}

-- the second list begins with the first, and goes on
pub data StrictPrefix : List Comm → List Comm → Type 0 where
  strict_none : {k : Comm} {l : List Comm} → StrictPrefix [] (k ∷ l)
  strict_more : {k : Comm} {t l : List Comm} → StrictPrefix t l → StrictPrefix (k ∷ t) (k ∷ l)

-- the second list begins with the first
pub data Prefix : List Comm → List Comm → Type 0 where
  prefix_none : {l : List Comm} → Prefix [] l
  prefix_more : {k : Comm} {t l : List Comm} → Prefix t l → Prefix (k ∷ t) (k ∷ l)

pub prefix_or : {t l : List Comm} → Prefix t l → StrictPrefix t l ⊎ (t ≡ l)
prefix_or (prefix_none {l = []}) = inr refl
prefix_or (prefix_none {l = k ∷ l}) = inl strict_none
prefix_or (prefix_more {k = k} h) = elim (prefix_or h) [ inl g ↦ inl (strict_more g) | inr e ↦ inr (ap (λ z. k ∷ z) e) ]

-- a front of two lists joined is one of the first, or goes into the second
split_prefix : (t : List Comm) {w u : List Comm} → StrictPrefix w (t ++ u) → StrictPrefix w t ⊎ ((v : List Comm) × (w ≡ t ++ v) × StrictPrefix v u)
split_prefix [] {w} h = inr (w, refl, h)
split_prefix (k ∷ t) strict_none = inl strict_none
split_prefix (k ∷ t) (strict_more h) = elim (split_prefix t h) [ inl g ↦ inl (strict_more g) | inr g ↦ inr (g.0, ap (λ z. k ∷ z) g.1, g.2) ]

-- a front of a merge merges a front of one side, or more, with a part of the other
data MergedPrefix (s t w : List Comm) : Type 0 where
  left_short : {a b : List Comm} → StrictPrefix a s → Prefix b t → Merge a b w → MergedPrefix s t w
  right_short : {b : List Comm} → StrictPrefix b t → Merge s b w → MergedPrefix s t w

merged_prefix : {s t u w : List Comm} → Merge s t u → StrictPrefix w u → MergedPrefix s t w
merged_prefix neither h = elim h [ ]
merged_prefix (from_left m) strict_none = left_short strict_none prefix_none neither
merged_prefix (from_right {s = []} m) strict_none = right_short strict_none neither
merged_prefix (from_right {s = k ∷ s} m) strict_none = left_short strict_none prefix_none neither
merged_prefix (from_left m) (strict_more h) = elim (merged_prefix m h) [
  | left_short a b n ↦ left_short (strict_more a) b (from_left n)
  | right_short b n ↦ right_short b (from_left n)
]
merged_prefix (from_right m) (strict_more h) = elim (merged_prefix m h) [
  | left_short a b n ↦ left_short a (prefix_more b) (from_right n)
  | right_short b n ↦ right_short (strict_more b) (from_right n)
]

right_open : (mine : Set) (x : End) → both_ended mine x Open ≡ Open
right_open mine Open = refl
right_open mine (Ended f) = refl

mutual
  pub prefixed : {p : Proc} {e : Store} {l t : List Comm} {x : End} → Trace p e l x → StrictPrefix t l → Trace p e t Open
  prefixed cut f = elim f [ ]
  prefixed skip f = elim f [ ]
  prefixed (assign q) f = elim f [ ]
  prefixed (begin_out q) (strict_more f) = elim f [ ]
  prefixed (out q) (strict_more strict_none) = begin_out q
  prefixed (out q) (strict_more (strict_more f)) = elim f [ ]
  prefixed (input k) (strict_more f) = elim f [ ]
  prefixed stop_chan (strict_more f) = elim f [ ]
  prefixed (seq q) f = seq (prefixed_seq q f)
  prefixed (par q) f = par (prefixed_par q f)
  prefixed (choose q) f = choose (prefixed_if q f)
  prefixed (leave q) f = elim f [ ]
  prefixed (last_turn h q) f = last_turn h (prefixed q f)
  prefixed (turn {i = i} {b = b} {p = p} {e = e} {t = t} h q r) f = elim (split_prefix t f) [
    | inl g ↦ last_turn h (prefixed q g)
    | inr g ↦ subst (λ l. Trace (WHILE i b p) e l Open) (sym g.1) (turn h q (prefixed r g.2))
  ]
  prefixed (count h q) f = count h (prefixed_count q f)
  prefixed (select h q) (strict_more f) = select h (prefixed_alt q (strict_more f))
  prefixed t strict_none = cut

  pub prefixed_seq : {ps : Procs} {e : Store} {l t : List Comm} {x : End} → TraceSeq ps e l x → StrictPrefix t l → TraceSeq ps e t Open
  prefixed_seq seq_end f = elim f [ ]
  prefixed_seq (seq_open q) f = seq_open (prefixed q f)
  prefixed_seq (seq_next {p = p} {ps = ps} {e = e} {t = t} q r) f = elim (split_prefix t f) [
    | inl g ↦ seq_open (prefixed q g)
    | inr g ↦ subst (λ l. TraceSeq (part p ps) e l Open) (sym g.1) (seq_next q (prefixed_seq r g.2))
  ]

  pub prefixed_par : {ps : Procs} {e : Store} {l t : List Comm} {x : End} → TracePar ps e l x → StrictPrefix t l → TracePar ps e t Open
  prefixed_par par_end f = elim f [ ]
  prefixed_par (par_more {p = p} {ps = ps} {e = e} {x = x} {y = y} q r m) f = elim (merged_prefix m f) [
    | left_short a b n ↦ elim (prefix_or b) [
      | inl g ↦ par_more {x = Open} {y = Open} (prefixed q a) (prefixed_par r g) n
      | inr g ↦ par_more {x = Open} {y = y} (prefixed q a) (subst (λ l. TracePar ps e l y) (sym g) r) n
    ]
    | right_short b n ↦ subst (TracePar (part p ps) e _) (right_open (changes p) x) (par_more {x = x} {y = Open} q (prefixed_par r b) n)
  ]

  pub prefixed_if : {bs : Branches} {e : Store} {l t : List Comm} {x : End} → TraceIf bs e l x → StrictPrefix t l → TraceIf bs e t Open
  prefixed_if (here h q) f = here h (prefixed q f)
  prefixed_if (further h q) f = further h (prefixed_if q f)

  pub prefixed_count : {v : ℕ} {b : ℤ} {n : ℕ} {p : Proc} {e : Store} {l t : List Comm} {x : End} → TraceCount v b n p e l x → StrictPrefix t l → TraceCount v b n p e t Open
  prefixed_count counted f = elim f [ ]
  prefixed_count (count_open q) f = count_open (prefixed q f)
  prefixed_count (count_turn {v = v} {b = b} {n = n} {p = p} {e = e} {t = t} q r) f = elim (split_prefix t f) [
    | inl g ↦ count_open (prefixed q g)
    | inr g ↦ subst (λ l. TraceCount v b (suc n) p e l Open) (sym g.1) (count_turn q (prefixed_count r g.2))
  ]

  -- a front that has the guard's input
  pub prefixed_alt : {gs : Guards} {e : Store} {k : Comm} {l t : List Comm} {x : End} → TraceAlt gs e l x → StrictPrefix (k ∷ t) l → TraceAlt gs e (k ∷ t) Open
  prefixed_alt (this h s q) (strict_more f) = this h s (prefixed q f)
  prefixed_alt (that q) f = that (prefixed_alt q f)

-- a part of a trace is one, with some end
pub some_prefix : {p : Proc} {e : Store} {l t : List Comm} {x : End} → Trace p e l x → Prefix t l → (y : End) × Trace p e t y
some_prefix {p} {e} {x = x} q h = elim (prefix_or h) [ inl g ↦ (Open, prefixed q g) | inr g ↦ (x, subst (λ l. Trace p e l x) (sym g) q) ]

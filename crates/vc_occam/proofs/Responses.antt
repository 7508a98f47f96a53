-- In a trace in which an output is not finished its end may come anywhere behind it.
use Rattle.std.proofs.Common.{◌≡◌, ℕ, zero, suc, ℤ, ◌+◌, ◌≤◌, true, refl, sym, ap, subst, ◌∙◌, List, [], ◌∷◌, ◌++◌, Some, append-nil, inl, inr, arith, ne_eqb, if◌then◌else◌}
use Rattle.std.proofs.lemmas.Bool.{cases_lt, cases_eq}
use Rattle.vc_process.specs.declared.datum.Datum.{Datum}
use Rattle.vc_process.specs.declared.datum.Datum.TheVariants as datum
use Rattle.vc_process.specs.Syntax.{Test, Proc, Output, WHILE, Procs, no_parts, part, Branches, Guards}
use Rattle.vc_process.specs.Values.{Store, holds}
use Rattle.vc_process.specs.Usage.{changes}
use Rattle.vc_occam.specs.Traces.{Comm, Out, Fin, End, Open, Ended, set, Merge, from_left, from_right, both_ended, Trace, cut, skip, assign, begin_out, out, input, stop_chan, seq, par, choose, leave, last_turn, turn, count, select, TraceSeq, seq_end, seq_open, seq_next, TracePar, par_end, par_more, TraceIf, here, further, TraceCount, counted, count_open, count_turn, TraceAlt, this, that}
use Rattle.vc_occam.proofs.Counts.{out_of, outs, fins, outs_append, fins_append, fins_merge}
use Rattle.vc_occam.proofs.Balance.{Balances, balanced}

-- the third list is the second with an end on channel c put in behind the first
pub data Insertion (c : ℕ) : List Comm → List Comm → List Comm → Type 0 where
  insertion_here : {l : List Comm} → Insertion c [] l (Fin c ∷ l)
  insertion_later : {k : Comm} {a l m : List Comm} → Insertion c a l m → Insertion c (k ∷ a) (k ∷ l) (k ∷ m)

pub insertion_within : {c : ℕ} {a l m : List Comm} → Insertion c a l m → outs c a ≤ outs c l
insertion_within insertion_here = omega arith
insertion_within {c} (insertion_later {k = k} {a = a} {l = l} h) = let w = insertion_within h in omega arith

-- it stands in the first of two lists joined, or in the second
data Placed (c : ℕ) (t u a w : List Comm) : Type 0 where
  in_first : {v : List Comm} → Insertion c a t v → w ≡ v ++ u → Placed c t u a w
  in_second : {b v : List Comm} → a ≡ t ++ b → Insertion c b u v → w ≡ t ++ v → Placed c t u a w

placed : {c : ℕ} (t : List Comm) {u a w : List Comm} → Insertion c a (t ++ u) w → Placed c t u a w
placed [] {a = a} h = in_second {b = a} refl h refl
placed (k ∷ t) insertion_here = in_first insertion_here refl
placed (k ∷ t) (insertion_later h) = elim (placed t h) [
  | in_first g e ↦ in_first (insertion_later g) (ap (λ z. k ∷ z) e)
  | in_second {b = b} d g e ↦ in_second {b = b} (ap (λ z. k ∷ z) d) g (ap (λ z. k ∷ z) e)
]

-- in a merge it may stand in either side
record Sides (c : ℕ) (s t a w : List Comm) : Type 0 where
  pub left : List Comm
  pub right : List Comm
  pub left_after : List Comm
  pub right_after : List Comm
  pub in_left : Insertion c left s left_after
  pub merge_left : Merge left_after t w
  pub in_right : Insertion c right t right_after
  pub merge_right : Merge s right_after w
  pub begun : outs c a ≡ outs c left + outs c right

sides : {c : ℕ} {u a w : List Comm} → Insertion c a u w → {s t : List Comm} → Merge s t u → Sides c s t a w
sides {c} insertion_here {s} {t} m = record {
  left = [];
  right = [];
  left_after = Fin c ∷ s;
  right_after = Fin c ∷ t;
  in_left = insertion_here;
  merge_left = from_left m;
  in_right = insertion_here;
  merge_right = from_right m;
  begun = omega arith;
}
sides {c} (insertion_later {a = a} h) (from_left {x = x} m) =
    let r = sides h m in
    let o = r.begun in
    record {
      left = x ∷ r.left;
      right = r.right;
      left_after = x ∷ r.left_after;
      right_after = r.right_after;
      in_left = insertion_later r.in_left;
      merge_left = from_left r.merge_left;
      in_right = r.in_right;
      merge_right = from_left r.merge_right;
      begun = omega arith;
    }
sides {c} (insertion_later {a = a} h) (from_right {x = x} m) =
    let r = sides h m in
    let o = r.begun in
    record {
      left = r.left;
      right = x ∷ r.right;
      left_after = r.left_after;
      right_after = x ∷ r.right_after;
      in_left = r.in_left;
      merge_left = from_right r.merge_left;
      in_right = insertion_later r.in_right;
      merge_right = from_right r.merge_right;
      begun = omega arith;
    }

-- where all outputs are finished there is none to finish
too_many : {c : ℕ} {a l m : List Comm} (f : Store) → Balances c l (Ended f) → Insertion c a l m → suc (fins c l) ≤ outs c a → ⊥
too_many f p h n = let w = insertion_within h in omega arith

only_its_own : (c d : ℕ) (x : Datum) → suc 0 ≤ out_of c (Out d x) + 0 → d ≡ c
only_its_own c d x h = elim (cases_eq d c) [
  | inl e ↦ e
  | inr e ↦ absurd (let n : out_of c (Out d x) ≡ 0 = ap (λ b. if b then 1 else 0) (ne_eqb d c e) in omega arith)
]

-- behind a part that goes on or has ended the others have not begun, unless there are none
seq_some : {p : Proc} {e : Store} {t : List Comm} (y : End) (ps : Procs) → Trace p e t y → (z : End) × TraceSeq (part p ps) e t z
seq_some Open ps q = (Open, seq_open q)
seq_some {p} {e} {t} (Ended f) no_parts q = (Ended f, subst (λ l. TraceSeq (part p no_parts) e l (Ended f)) (append-nil t) (seq_next q seq_end))
seq_some {p} {e} {t} (Ended f) (part r rs) q = (Open, subst (λ l. TraceSeq (part p (part r rs)) e l Open) (append-nil t) (seq_next q (seq_open cut)))

while_some : {i : ℕ} {b : Test} {p : Proc} {e : Store} {t : List Comm} (y : End) → holds b e ≡ Some true → Trace p e t y → (z : End) × Trace (WHILE i b p) e t z
while_some Open h q = (Open, last_turn h q)
while_some {i} {b} {p} {e} {t} (Ended f) h q = (Open, subst (λ l. Trace (WHILE i b p) e l Open) (append-nil t) (turn h q cut))

count_some : {v : ℕ} {b : ℤ} (n : ℕ) {p : Proc} {e : Store} {t : List Comm} (y : End) → Trace p (set e v (datum.Int b)) t y → (z : End) × TraceCount v b (suc n) p e t z
count_some n Open q = (Open, count_open q)
count_some {v} {b} zero {p} {e} {t} (Ended f) q = (Ended f, subst (λ l. TraceCount v b 1 p e l (Ended f)) (append-nil t) (count_turn q counted))
count_some {v} {b} (suc n) {p} {e} {t} (Ended f) q = (Open, subst (λ l. TraceCount v b (suc (suc n)) p e l Open) (append-nil t) (count_turn q (count_open cut)))

-- more outputs begin in the front than are finished at all
abbrev pub Unfinished : ℕ → List Comm → List Comm → Type 0
Unfinished c a l = suc (fins c l) ≤ outs c a

first_closed : {c : ℕ} {t a v : List Comm} (u : List Comm) (f : Store) → Balances c t (Ended f) → Insertion c a t v → Unfinished c a (t ++ u) → ⊥
first_closed {c} {t} u f p h n = let w = insertion_within h in let b = fins_append c t u in omega arith

second_open : (c : ℕ) (t u b : List Comm) {a : List Comm} (f : Store) → Balances c t (Ended f) → a ≡ t ++ b → Unfinished c a (t ++ u) → Unfinished c b u
second_open c t u b {a} f p d n = let o = ap (outs c) d ∙ outs_append c t b in let g = fins_append c t u in omega arith

mutual
  pub finished : {c : ℕ} {p : Proc} {e : Store} {l a m : List Comm} {x : End} → Trace p e l x → Insertion c a l m → Unfinished c a l → (y : End) × Trace p e m y
  finished cut insertion_here n = absurd (omega arith)
  finished {c} (skip {e = e}) h n = absurd (too_many e (omega arith) h n)
  finished {c} (assign {e = e} q) h n = absurd (too_many e (omega arith) h n)
  finished {c} (begin_out q) insertion_here n = absurd (omega arith)
  finished {c} (begin_out {i = i} {c = d} {a = a} {e = e} {x = x} q) (insertion_later insertion_here) n =
      (Ended e, subst (λ z. Trace (Output i d a) e (Out d x ∷ Fin z ∷ []) (Ended e)) (only_its_own c d x (omega arith)) (out q))
  finished {c} (out {e = e} q) h n = absurd (too_many e (omega arith) h n)
  finished {c} (input {e = e} k) h n = absurd (too_many e (omega arith) h n)
  finished {c} (stop_chan {e = e}) h n = absurd (too_many e (omega arith) h n)
  finished (seq q) h n = let r = finished_seq q h n in (r.0, seq r.1)
  finished (par q) h n = let r = finished_par q h n in (r.0, par r.1)
  finished (choose q) h n = let r = finished_if q h n in (r.0, choose r.1)
  finished {c} (leave {e = e} q) h n = absurd (too_many e (omega arith) h n)
  finished (last_turn g q) h n = let r = finished q h n in while_some r.0 g r.1
  finished {c} (turn {i = i} {b = b} {p = p} {e = e} {f = f} {t = t} {u = u} {x = x} g q r) h n = elim (placed t h) [
    | in_first k d ↦ absurd (first_closed u f (balanced c q) k n)
    | in_second {b = w} d k o ↦ (let z = finished r k (second_open c t u w f (balanced c q) d n) in (z.0, subst (λ l. Trace (WHILE i b p) e l z.0) (sym o) (turn g q z.1)))
  ]
  finished (count g q) h n = let r = finished_count q h n in (r.0, count g r.1)
  finished (select g q) h n = let r = finished_alt q h n in (r.0, select g r.1)

  pub finished_seq : {c : ℕ} {ps : Procs} {e : Store} {l a m : List Comm} {x : End} → TraceSeq ps e l x → Insertion c a l m → Unfinished c a l → (y : End) × TraceSeq ps e m y
  finished_seq {c} (seq_end {e = e}) h n = absurd (too_many e (omega arith) h n)
  finished_seq (seq_open {ps = ps} q) h n = let r = finished q h n in seq_some r.0 ps r.1
  finished_seq {c} (seq_next {p = p} {ps = ps} {e = e} {f = f} {t = t} {u = u} {x = x} q r) h n = elim (placed t h) [
    | in_first k d ↦ absurd (first_closed u f (balanced c q) k n)
    | in_second {b = w} d k o ↦ (let z = finished_seq r k (second_open c t u w f (balanced c q) d n) in (z.0, subst (λ l. TraceSeq (part p ps) e l z.0) (sym o) (seq_next q z.1)))
  ]

  pub finished_par : {c : ℕ} {ps : Procs} {e : Store} {l a m : List Comm} {x : End} → TracePar ps e l x → Insertion c a l m → Unfinished c a l → (y : End) × TracePar ps e m y
  finished_par {c} (par_end {e = e}) h n = absurd (too_many e (omega arith) h n)
  finished_par {c} (par_more {p = p} {s = s} {t = t} {u = u} {x = x} {y = y} q r m) h n =
      let k = sides h m in
      let f = fins_merge c m in
      elim (cases_lt (fins c s) (outs c k.left)) [
        | inl b ↦ (let z = finished q k.in_left b in (both_ended (changes p) z.0 y, par_more {x = z.0} {y = y} z.1 r k.merge_left))
        | inr b ↦ (let z = finished_par r k.in_right (let w = k.begun in omega arith) in (both_ended (changes p) x z.0, par_more {x = x} {y = z.0} q z.1 k.merge_right))
      ]

  pub finished_if : {c : ℕ} {bs : Branches} {e : Store} {l a m : List Comm} {x : End} → TraceIf bs e l x → Insertion c a l m → Unfinished c a l → (y : End) × TraceIf bs e m y
  finished_if (here g q) h n = let r = finished q h n in (r.0, here g r.1)
  finished_if (further g q) h n = let r = finished_if q h n in (r.0, further g r.1)

  pub finished_count : {c : ℕ} {v : ℕ} {b : ℤ} {n : ℕ} {p : Proc} {e : Store} {l a m : List Comm} {x : End} → TraceCount v b n p e l x → Insertion c a l m → Unfinished c a l → (y : End) × TraceCount v b n p e m y
  finished_count {c} (counted {e = e}) h n = absurd (too_many e (omega arith) h n)
  finished_count (count_open {n = k} q) h n = let r = finished q h n in count_some k r.0 r.1
  finished_count {c} (count_turn {v = v} {b = b} {n = k} {p = p} {e = e} {f = f} {t = t} {u = u} {x = x} q r) h n = elim (placed t h) [
    | in_first g d ↦ absurd (first_closed u f (balanced c q) g n)
    | in_second {b = w} d g o ↦ (let z = finished_count r g (second_open c t u w f (balanced c q) d n) in (z.0, subst (λ l. TraceCount v b (suc k) p e l z.0) (sym o) (count_turn q z.1)))
  ]

  pub finished_alt : {c : ℕ} {gs : Guards} {e : Store} {l a m : List Comm} {x : End} → TraceAlt gs e l x → Insertion c a l m → Unfinished c a l → (y : End) × TraceAlt gs e m y
  finished_alt (this g k q) insertion_here n = absurd (omega arith)
  finished_alt {c} (this {t = t} g k q) (insertion_later {a = a} h) n = let r = finished q h (omega arith) in (r.0, this g k r.1)
  finished_alt (that q) h n = let r = finished_alt q h n in (r.0, that r.1)

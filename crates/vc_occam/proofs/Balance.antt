-- In a trace no more outputs are finished than have begun, and as many where it has ended.
use Rattle.std.proofs.Common.{◌≡◌, ℕ, ◌≤◌, List, ◌∷◌, ◌++◌, arith}
use Rattle.vc_process.specs.declared.datum.Datum.{Datum}
use Rattle.vc_process.specs.Syntax.{Proc, Procs, Branches, Guards}
use Rattle.vc_process.specs.Values.{Store}
use Rattle.vc_process.specs.Usage.{Set, changes}
use Rattle.vc_occam.specs.Traces.{Comm, In, End, Open, Ended, Merge, both_ended, Trace, seq, par, choose, last_turn, turn, count, select, TraceSeq, seq_end, seq_open, seq_next, TracePar, par_end, par_more, TraceIf, here, further, TraceCount, counted, count_open, count_turn, TraceAlt, this, that}
use Rattle.vc_occam.proofs.Counts.{outs, fins, outs_append, fins_append, outs_merge, fins_merge}

abbrev pub Balances : ℕ → List Comm → End → Type 0
Balances c t Open = fins c t ≤ outs c t
Balances c t (Ended f) = fins c t ≡ outs c t

pub balanced_within : (c : ℕ) (t : List Comm) (x : End) → Balances c t x → fins c t ≤ outs c t
balanced_within c t Open h = h
balanced_within c t (Ended f) h = omega arith

balanced_append : (c : ℕ) (t u : List Comm) (x : End) → fins c t ≡ outs c t → Balances c u x → Balances c (t ++ u) x
balanced_append c t u Open h k = let a = outs_append c t u in let b = fins_append c t u in omega arith
balanced_append c t u (Ended f) h k = let a = outs_append c t u in let b = fins_append c t u in omega arith

balanced_merge : (c : ℕ) (mine : Set) {s t u : List Comm} (x y : End) → Merge s t u → Balances c s x → Balances c t y → Balances c u (both_ended mine x y)
balanced_merge c mine {s} {t} {u} Open y m h k = let a = outs_merge c m in let b = fins_merge c m in let w = balanced_within c t y k in omega arith
balanced_merge c mine {s} {t} {u} (Ended f) Open m h k = let a = outs_merge c m in let b = fins_merge c m in omega arith
balanced_merge c mine {s} {t} {u} (Ended f) (Ended g) m h k = let a = outs_merge c m in let b = fins_merge c m in omega arith

balanced_in : (c d : ℕ) (x : Datum) (t : List Comm) (y : End) → Balances c t y → Balances c (In d x ∷ t) y
balanced_in c d x t Open h = omega arith
balanced_in c d x t (Ended f) h = omega arith

module _ (c : ℕ) where
  mutual
    pub balanced : {p : Proc} {e : Store} {t : List Comm} {x : End} → Trace p e t x → Balances c t x
    balanced (seq q) = balanced_seq q
    balanced (par q) = balanced_par q
    balanced (choose q) = balanced_if q
    balanced (last_turn h q) = balanced q
    balanced (turn {t = t} {u = u} {x = x} h q r) = balanced_append c t u x (balanced q) (balanced r)
    balanced (count h q) = balanced_count q
    balanced (select h q) = balanced_alt q
    balanced t = omega arith

    pub balanced_seq : {ps : Procs} {e : Store} {t : List Comm} {x : End} → TraceSeq ps e t x → Balances c t x
    balanced_seq seq_end = omega arith
    balanced_seq (seq_open q) = balanced q
    balanced_seq (seq_next {t = t} {u = u} {x = x} q r) = balanced_append c t u x (balanced q) (balanced_seq r)

    pub balanced_par : {ps : Procs} {e : Store} {t : List Comm} {x : End} → TracePar ps e t x → Balances c t x
    balanced_par par_end = omega arith
    balanced_par (par_more {p = p} {x = x} {y = y} q r m) = balanced_merge c (changes p) x y m (balanced q) (balanced_par r)

    pub balanced_if : {bs : Branches} {e : Store} {t : List Comm} {x : End} → TraceIf bs e t x → Balances c t x
    balanced_if (here h q) = balanced q
    balanced_if (further h q) = balanced_if q

    pub balanced_count : {v : ℕ} {b : _} {n : ℕ} {p : Proc} {e : Store} {t : List Comm} {x : End} → TraceCount v b n p e t x → Balances c t x
    balanced_count counted = omega arith
    balanced_count (count_open q) = balanced q
    balanced_count (count_turn {t = t} {u = u} {x = x} q r) = balanced_append c t u x (balanced q) (balanced_count r)

    pub balanced_alt : {gs : Guards} {e : Store} {t : List Comm} {x : End} → TraceAlt gs e t x → Balances c t x
    balanced_alt (this {c = d} {x = x} {t = t} {y = y} h k q) = balanced_in c d x t y (balanced q)
    balanced_alt (that q) = balanced_alt q

-- In a trace an output may begin later, though not after its end, and may be finished earlier, though not before it began.
use Rattle.std.proofs.Common.{◌≡◌, ℕ, suc, ℤ, pos, ◌+ℤ◌, refl, sym, ap, subst, List, [], ◌∷◌, ◌++◌, arith, eq-eqb, if◌then◌else◌}
use Rattle.vc_process.specs.declared.datum.Datum.{Datum}
use Rattle.vc_process.specs.declared.datum.Datum.TheVariants as datum
use Rattle.vc_process.specs.Syntax.{Proc, WHILE, Procs, part, Branches, Guards}
use Rattle.vc_process.specs.Values.{Store}
use Rattle.vc_occam.specs.Traces.{Comm, Out, Fin, In, End, Open, Ended, set, Merge, from_left, from_right, Trace, begin_out, out, input, stop_chan, seq, par, choose, last_turn, turn, count, select, TraceSeq, seq_end, seq_open, seq_next, TracePar, par_end, par_more, TraceIf, here, further, TraceCount, counted, count_open, count_turn, TraceAlt, this, that}
use Rattle.vc_occam.proofs.Counts.{out_of, fin_of, outs_append, fins_append}
use Rattle.vc_occam.proofs.Balance.{Balances, balanced_within, balanced, balanced_seq, balanced_count}
use Rattle.vc_occam.proofs.Prefixes.{StrictPrefix, strict_none, strict_more, prefixed, prefixed_seq, prefixed_count}

-- the first of two communications may as well come second: it is an output and the other is not its end, or the other is an end and
-- it is no output of it
pub data Independent : Comm → Comm → Type 0 where
  an_output : {c : ℕ} {x : Datum} {k : Comm} → fin_of c k ≡ 0 → Independent (Out c x) k
  an_end : {c : ℕ} {k : Comm} → out_of c k ≡ 0 → Independent k (Fin c)

-- two neighbours that may change places have done so
pub data Swap : List Comm → List Comm → Type 0 where
  swap_here : {j k : Comm} {l : List Comm} → Independent j k → Swap (j ∷ k ∷ l) (k ∷ j ∷ l)
  swap_later : {k : Comm} {l m : List Comm} → Swap l m → Swap (k ∷ l) (k ∷ m)

one_alone : {k : Comm} {m : List Comm} → Swap (k ∷ []) m → ⊥
one_alone (swap_later h) = elim h [ ]

-- of two lists joined the two stand in the first, in the second, or at the end of the one and the head of the other
data Split (t u w : List Comm) : Type 0 where
  in_first : {v : List Comm} → Swap t v → w ≡ v ++ u → Split t u w
  in_second : {v : List Comm} → Swap u v → w ≡ t ++ v → Split t u w
  between : (s v : List Comm) (j k : Comm) → t ≡ s ++ j ∷ [] → u ≡ k ∷ v → Independent j k → Split t u w

split : (t : List Comm) {u w : List Comm} → Swap (t ++ u) w → Split t u w
split [] h = in_second h refl
split (j ∷ []) (swap_here {k = k} {l = l} h) = between [] l j k refl refl h
split (j ∷ []) (swap_later h) = in_second h refl
split (j ∷ k ∷ t) (swap_here h) = in_first (swap_here h) refl
split (j ∷ k ∷ t) (swap_later h) = elim (split (k ∷ t) h) [
  | in_first g e ↦ in_first (swap_later g) (ap (λ z. j ∷ z) e)
  | in_second g e ↦ in_second g (ap (λ z. j ∷ z) e)
  | between s v i n d e g ↦ between (j ∷ s) v i n (ap (λ z. j ∷ z) d) e g
]

-- in a merge they stand in one side, or one in each
data Sided (s t w : List Comm) : Type 0 where
  in_left : {v : List Comm} → Swap s v → Merge v t w → Sided s t w
  in_right : {v : List Comm} → Swap t v → Merge s v w → Sided s t w
  in_both : Merge s t w → Sided s t w

sided : {u w : List Comm} → Swap u w → {s t : List Comm} → Merge s t u → Sided s t w
sided (swap_here h) (from_left (from_left m)) = in_left (swap_here h) (from_left (from_left m))
sided (swap_here h) (from_left (from_right m)) = in_both (from_right (from_left m))
sided (swap_here h) (from_right (from_left m)) = in_both (from_left (from_right m))
sided (swap_here h) (from_right (from_right m)) = in_right (swap_here h) (from_right (from_right m))
sided (swap_later h) (from_left m) = elim (sided h m) [
  | in_left g n ↦ in_left (swap_later g) (from_left n)
  | in_right g n ↦ in_right g (from_left n)
  | in_both n ↦ in_both (from_left n)
]
sided (swap_later h) (from_right m) = elim (sided h m) [
  | in_left g n ↦ in_left g (from_right n)
  | in_right g n ↦ in_right (swap_later g) (from_right n)
  | in_both n ↦ in_both (from_right n)
]

pub out_here : (c : ℕ) (x : Datum) → out_of c (Out c x) ≡ 1
out_here c x = ap (λ b. if b then 1 else 0) (eq-eqb c c refl)

pub fin_here : (c : ℕ) → fin_of c (Fin c) ≡ 1
fin_here c = ap (λ b. if b then 1 else 0) (eq-eqb c c refl)

tight : {c : ℕ} {x : Datum} → Independent (Out c x) (Fin c) → ⊥
tight {c} (an_output h) = let f = fin_here c in omega arith
tight {c} {x} (an_end h) = let f = out_here c x in omega arith

-- what is known of all kinds of traces: how much is paid, and that fronts are traces
record IsTraced (Made : List Comm → End → Type 0) : Type 0 where
  pub account : (c : ℕ) (t : List Comm) (x : End) → Made t x → Balances c t x
  pub cut_off : (t l : List Comm) (x : End) → Made l x → StrictPrefix t l → Made t Open

front_of : (s : List Comm) (j : Comm) → StrictPrefix s (s ++ j ∷ [])
front_of [] j = strict_none
front_of (k ∷ s) j = strict_more (front_of s j)

-- no trace begins with an end of an output, and none has ended whose last is an output
no_end_first : {Made : List Comm → End → Type 0} → IsTraced Made → (c : ℕ) (v : List Comm) (x : End) → Made (Fin c ∷ v) x → ⊥
no_end_first i c [] x h = let p = balanced_within c (Fin c ∷ []) x (i.account c (Fin c ∷ []) x h) in let f = fin_here c in omega arith
no_end_first i c (k ∷ v) x h =
    let p = i.account c (Fin c ∷ []) Open (i.cut_off (Fin c ∷ []) (Fin c ∷ k ∷ v) x h (strict_more strict_none)) in
    let f = fin_here c in
    omega arith

no_output_last : {Made : List Comm → End → Type 0} → IsTraced Made → (c : ℕ) (x : Datum) (s : List Comm) (f : Store) → Made (s ++ Out c x ∷ []) (Ended f) → ⊥
no_output_last i c x s f h =
    let p = i.account c (s ++ Out c x ∷ []) (Ended f) h in
    let q = i.account c s Open (i.cut_off s (s ++ Out c x ∷ []) (Ended f) h (front_of s (Out c x))) in
    let a = outs_append c s (Out c x ∷ []) in
    let b = fins_append c s (Out c x ∷ []) in
    let o = out_here c x in
    omega arith

apart : {Left Right : List Comm → End → Type 0} → IsTraced Left → IsTraced Right → (t u s v : List Comm) (f : Store) (x : End) (j k : Comm) → Left t (Ended f) → Right u x → t ≡ s ++ j ∷ [] → u ≡ k ∷ v → Independent j k → ⊥
apart {Left} {Right} a b t u s v f x (Out c y) k l r d e (an_output h) = no_output_last a c y s f (subst (λ w. Left w (Ended f)) d l)
apart {Left} {Right} a b t u s v f x j (Fin c) l r d e (an_end h) = no_end_first b c v x (subst (λ w. Right w x) e r)

made : (p : Proc) (e : Store) → IsTraced (Trace p e)
made p e = record { account = λ c t x h. balanced c h; cut_off = λ t l x h g. prefixed h g }

made_seq : (ps : Procs) (e : Store) → IsTraced (TraceSeq ps e)
made_seq ps e = record { account = λ c t x h. balanced_seq c h; cut_off = λ t l x h g. prefixed_seq h g }

made_count : (v : ℕ) (b : ℤ) (n : ℕ) (p : Proc) (e : Store) → IsTraced (TraceCount v b n p e)
made_count v b n p e = record { account = λ c t x h. balanced_count c h; cut_off = λ t l x h g. prefixed_count h g }

-- the input of a guard comes before what its body does
input_stays : {p : Proc} {e : Store} {c : ℕ} {d : Datum} {k : Comm} {v : List Comm} {y : End} → Independent (In c d) k → Trace p e (k ∷ v) y → ⊥
input_stays {p} {e} {v = v} {y = y} (an_end {c = c} g) q = no_end_first (made p e) c v y q

mutual
  pub swapped : {p : Proc} {e : Store} {l m : List Comm} {x : End} → Trace p e l x → Swap l m → Trace p e m x
  swapped (begin_out q) s = absurd (one_alone s)
  swapped (out q) (swap_here h) = absurd (tight h)
  swapped (out q) (swap_later s) = absurd (one_alone s)
  swapped (input k) s = absurd (one_alone s)
  swapped stop_chan s = absurd (one_alone s)
  swapped (seq q) s = seq (swapped_seq q s)
  swapped (par q) s = par (swapped_par q s)
  swapped (choose q) s = choose (swapped_if q s)
  swapped (last_turn h q) s = last_turn h (swapped q s)
  swapped (turn {i = i} {b = b} {p = p} {e = e} {f = f} {t = t} {u = u} {x = x} h q r) s = elim (split t s) [
    | in_first g d ↦ subst (λ l. Trace (WHILE i b p) e l x) (sym d) (turn h (swapped q g) r)
    | in_second g d ↦ subst (λ l. Trace (WHILE i b p) e l x) (sym d) (turn h q (swapped r g))
    | between a v j k d g n ↦ absurd (apart (made p e) (made (WHILE i b p) f) t u a v f x j k q r d g n)
  ]
  swapped (count h q) s = count h (swapped_count q s)
  swapped (select h q) s = select h (swapped_alt q s)
  swapped t s = elim s [ ]

  pub swapped_seq : {ps : Procs} {e : Store} {l m : List Comm} {x : End} → TraceSeq ps e l x → Swap l m → TraceSeq ps e m x
  swapped_seq seq_end s = elim s [ ]
  swapped_seq (seq_open q) s = seq_open (swapped q s)
  swapped_seq (seq_next {p = p} {ps = ps} {e = e} {f = f} {t = t} {u = u} {x = x} q r) s = elim (split t s) [
    | in_first g d ↦ subst (λ l. TraceSeq (part p ps) e l x) (sym d) (seq_next (swapped q g) r)
    | in_second g d ↦ subst (λ l. TraceSeq (part p ps) e l x) (sym d) (seq_next q (swapped_seq r g))
    | between a v j k d g n ↦ absurd (apart (made p e) (made_seq ps f) t u a v f x j k q r d g n)
  ]

  pub swapped_par : {ps : Procs} {e : Store} {l m : List Comm} {x : End} → TracePar ps e l x → Swap l m → TracePar ps e m x
  swapped_par par_end s = elim s [ ]
  swapped_par (par_more {x = x} {y = y} q r n) s = elim (sided s n) [
    | in_left g k ↦ par_more {x = x} {y = y} (swapped q g) r k
    | in_right g k ↦ par_more {x = x} {y = y} q (swapped_par r g) k
    | in_both k ↦ par_more {x = x} {y = y} q r k
  ]

  pub swapped_if : {bs : Branches} {e : Store} {l m : List Comm} {x : End} → TraceIf bs e l x → Swap l m → TraceIf bs e m x
  swapped_if (here h q) s = here h (swapped q s)
  swapped_if (further h q) s = further h (swapped_if q s)

  pub swapped_count : {v : ℕ} {b : ℤ} {n : ℕ} {p : Proc} {e : Store} {l m : List Comm} {x : End} → TraceCount v b n p e l x → Swap l m → TraceCount v b n p e m x
  swapped_count counted s = elim s [ ]
  swapped_count (count_open q) s = count_open (swapped q s)
  swapped_count (count_turn {v = w} {b = b} {n = n} {p = p} {e = e} {f = f} {t = t} {u = u} {x = x} q r) s = elim (split t s) [
    | in_first g d ↦ subst (λ l. TraceCount w b (suc n) p e l x) (sym d) (count_turn (swapped q g) r)
    | in_second g d ↦ subst (λ l. TraceCount w b (suc n) p e l x) (sym d) (count_turn q (swapped_count r g))
    | between a v j k d g o ↦ absurd (apart (made p (set e w (datum.Int b))) (made_count w (b +ℤ pos 1) n p f) t u a v f x j k q r d g o)
  ]

  pub swapped_alt : {gs : Guards} {e : Store} {l m : List Comm} {x : End} → TraceAlt gs e l x → Swap l m → TraceAlt gs e m x
  swapped_alt (this h k q) (swap_here g) = absurd (input_stays g q)
  swapped_alt (this h k q) (swap_later s) = this h k (swapped q s)
  swapped_alt (that q) s = that (swapped_alt q s)

-- What linearizing a list does to each node's part of it.
use Rattle.std.proofs.Common.{◌≡◌, ◌≢◌, ℕ, Bool, true, false, ◌==◌, refl, sym, ap, subst, ◌∙◌, List, [], ◌∷◌, ◌++◌, inl, inr, ◌⊎◌, arith, eq-eqb, ne_eqb, if◌then◌else◌}
use Rattle.std.proofs.lemmas.Bool.{cases_eq}
use Rattle.vc_process.specs.declared.datum.Datum.{Datum}
use Rattle.vc_accepted.specs.OneList.{by}
use Rattle.vc_accepted.proofs.Main.{by_append}
use Rattle.vc_occam.specs.Traces.{Comm, Out, Fin, In, Stp}
use Rattle.vc_occam.proofs.Counts.{out_of, fin_of, outs, fins, fins_append}
use Rattle.vc_occam.proofs.Responses.{insertion_here, insertion_later}
use Rattle.vc_placement.proofs.Completions.{Rewrites, stays, withdraws, responds, withdrawal_here, response_here, chain, behind, behind_all, later, earlier}
use Rattle.vc_placement.proofs.Elements.{Element, Exchanged, Stopped, Received, Finished, spell_one, spell, chan_of, without, exchanged, linearized, Phase, Offered, Taken, ElementsInTurn, no_more, receives, finishes, stops, other, InTurn, turn_tail, after_out, elements_in_turn, exchanged_past, without_past, exchanged_at, without_at}

-- neither an output begins on the channel, nor is one finished
abbrev Quiet : ℕ → List Comm → Type 0
Quiet c l = (outs c l ≡ 0) × (fins c l ≡ 0)

quiet_more : (c n m : ℕ) (k : Comm) (ks : List (ℕ × Comm)) → out_of c k ≡ 0 → fin_of c k ≡ 0 → Quiet c (by n ks) → Quiet c (by n ((m, k) ∷ ks))
quiet_more c n m k ks o f h = at (m == n)
  where
    at : (b : Bool) → Quiet c (if b then k ∷ by n ks else by n ks)
    at true = let a = h.0 in let b = h.1 in (omega arith, omega arith)
    at false = h

no_out : (c d : ℕ) (x : Datum) → d ≢ c → out_of c (Out d x) ≡ 0
no_out c d x e = ap (λ b. if b then 1 else 0) (ne_eqb d c e)

no_fin : (c d : ℕ) → d ≢ c → fin_of c (Fin d) ≡ 0
no_fin c d e = ap (λ b. if b then 1 else 0) (ne_eqb d c e)

quiet_stop : (c n s d : ℕ) → Quiet c (by n (spell_one (Stopped s d)))
quiet_stop c n s d = quiet_more c n s (Stp d) [] refl refl (refl, refl)

quiet : (c n : ℕ) (i : Element) → chan_of i ≢ c → Quiet c (by n (spell_one i))
quiet c n (Exchanged s r d x y) e =
    quiet_more c n s (Out d x) ((r, In d y) ∷ (s, Fin d) ∷ []) (no_out c d x e) refl
    (quiet_more c n r (In d y) ((s, Fin d) ∷ []) refl refl (quiet_more c n s (Fin d) [] refl (no_fin c d e) (refl, refl)))
quiet c n (Stopped s d) e = quiet_stop c n s d
quiet c n (Received s d y) e = quiet_more c n s (In d y) [] refl refl (refl, refl)
quiet c n (Finished s d) e = quiet_more c n s (Fin d) [] refl (no_fin c d e) (refl, refl)

-- the first end on the channel may come at once, or there is none
abbrev Ends : ℕ → ℕ → List Element → Type 0
Ends c m l = Rewrites (by m (spell l)) (Fin c ∷ by m (spell (without c l))) ⊎ ((without c l ≡ l) × (fins c (by m (spell l)) ≡ 0))

ends_later : (c m : ℕ) (i : Element) (l : List Element) → Quiet c (by m (spell_one i)) → without c (i ∷ l) ≡ i ∷ without c l → Ends c m l → Ends c m (i ∷ l)
ends_later c m i l q w (inl h) =
    let g = by m (spell_one i) in
    inl (subst (λ z. Rewrites z (Fin c ∷ by m (spell (without c (i ∷ l))))) (sym (by_append m (spell_one i) (spell l)))
    (subst (λ z. Rewrites (g ++ by m (spell l)) (Fin c ∷ z)) (sym (ap (λ z. by m (spell z)) w ∙ by_append m (spell_one i) (spell (without c l))))
    (chain (behind_all g h) (earlier c g (by m (spell (without c l))) q.0))))
ends_later c m i l q w (inr h) =
    let a = ap (fins c) (by_append m (spell_one i) (spell l)) in
    let b = fins_append c (by m (spell_one i)) (by m (spell l)) in
    let z = q.1 in
    let y = h.1 in
    inr (w ∙ ap (λ k. i ∷ k) h.0, omega arith)

ends : {c m : ℕ} {l : List Element} → ElementsInTurn c (Taken m) l → Ends c m l
ends no_more = inr (refl, refl)
ends {c} {m} (finishes {l = l} t) =
    inl (subst (λ b. Rewrites (if b then Fin c ∷ by m (spell l) else by m (spell l)) (Fin c ∷ by m (spell (without c (Finished m c ∷ l))))) (sym (eq-eqb m m refl))
    (subst (λ z. Rewrites (Fin c ∷ by m (spell l)) (Fin c ∷ by m (spell z))) (sym (without_at c m l)) stays))
ends {c} {m} (stops {n = n} {l = l} t) = ends_later c m (Stopped n c) l (quiet_stop c m n c) refl (ends t)
ends {c} {m} (other {i = i} {l = l} e t) = ends_later c m i l (quiet c m i e) (without_past c i l e) (ends t)

-- the sender's own part: its output goes to where it is taken, and its end comes there
meets : (c m r : ℕ) (x y : Datum) (l : List Element) → Ends c m l → (b : Bool) →
    Rewrites (Out c x ∷ (if b then In c y ∷ by m (spell l) else by m (spell l))) (Out c x ∷ (if b then In c y ∷ Fin c ∷ by m (spell (without c l)) else Fin c ∷ by m (spell (without c l))))
meets c m r x y l (inl h) true = behind (Out c x) (behind (In c y) h)
meets c m r x y l (inl h) false = behind (Out c x) h
meets c m r x y l (inr h) true =
    let z = h.1 in
    subst (λ w. Rewrites (Out c x ∷ In c y ∷ by m (spell l)) (Out c x ∷ In c y ∷ Fin c ∷ by m (spell w))) (sym h.0) (responds (response_here {c = c} {x = x} (insertion_later insertion_here) (omega arith)) stays)
meets c m r x y l (inr h) false =
    subst (λ w. Rewrites (Out c x ∷ by m (spell l)) (Out c x ∷ Fin c ∷ by m (spell w))) (sym h.0) (responds (response_here {c = c} {x = x} insertion_here h.1) stays)

own_met : (c m r : ℕ) (x y : Datum) (l : List Element) → Ends c m l → Rewrites (Out c x ∷ by m (spell (Received r c y ∷ l))) (by m (spell (Exchanged m r c x y ∷ without c l)))
own_met c m r x y l h =
    let B = by m (spell l) in
    let A = by m (spell (without c l)) in
    subst (λ a. Rewrites (Out c x ∷ (if r == m then In c y ∷ B else B)) (if a then Out c x ∷ (if r == m then In c y ∷ (if a then Fin c ∷ A else A) else (if a then Fin c ∷ A else A)) else (if r == m then In c y ∷ (if a then Fin c ∷ A else A) else (if a then Fin c ∷ A else A))))
    (sym (eq-eqb m m refl)) (meets c m r x y l h (r == m))

own_past : (c m : ℕ) (x : Datum) (i : Element) (l : List Element) → Quiet c (by m (spell_one i)) → exchanged m c x (i ∷ l) ≡ i ∷ exchanged m c x l → Rewrites (Out c x ∷ by m (spell l)) (by m (spell (exchanged m c x l))) →
    Rewrites (Out c x ∷ by m (spell (i ∷ l))) (by m (spell (exchanged m c x (i ∷ l))))
own_past c m x i l q w h =
    let g = by m (spell_one i) in
    subst (λ z. Rewrites (Out c x ∷ z) (by m (spell (exchanged m c x (i ∷ l))))) (sym (by_append m (spell_one i) (spell l)))
    (subst (Rewrites (Out c x ∷ (g ++ by m (spell l)))) (sym (ap (λ z. by m (spell z)) w ∙ by_append m (spell_one i) (spell (exchanged m c x l))))
    (chain (later c x g (by m (spell l)) q.1) (behind_all g h)))

own : {c m : ℕ} (x : Datum) {w : List ℕ} {l : List Element} → ElementsInTurn c (Offered m w) l → Rewrites (Out c x ∷ by m (spell l)) (by m (spell (exchanged m c x l)))
own x no_more = withdraws withdrawal_here stays
own {c} {m} x (receives {m = r} {y = y} {l = l} e t) =
    subst (λ z. Rewrites (Out c x ∷ by m (spell (Received r c y ∷ l))) (by m (spell z))) (sym (exchanged_at m c x r y l)) (own_met c m r x y l (ends t))
own {c} {m} x (stops {n = n} {l = l} t) = own_past c m x (Stopped n c) l (quiet_stop c m n c) refl (own x t)
own {c} {m} x (other {i = i} {l = l} e t) = own_past c m x i l (quiet c m i e) (exchanged_past m c x i l e) (own x t)

-- nobody else's part changes
by_past : (n : ℕ) (i : Element) (l k : List Element) → by n (spell k) ≡ by n (spell l) → by n (spell (i ∷ k)) ≡ by n (spell (i ∷ l))
by_past n i l k h = by_append n (spell_one i) (spell k) ∙ ap (λ z. by n (spell_one i) ++ z) h ∙ sym (by_append n (spell_one i) (spell l))

without_others : {c m : ℕ} (n : ℕ) {l : List Element} → m ≢ n → ElementsInTurn c (Taken m) l → by n (spell (without c l)) ≡ by n (spell l)
without_others n e no_more = refl
without_others {c} {m} n e (finishes {l = l} t) =
    ap (λ z. by n (spell z)) (without_at c m l) ∙ sym (ap (λ b. if b then Fin c ∷ by n (spell l) else by n (spell l)) (ne_eqb m n e))
without_others {c} n e (stops {n = s} {l = l} t) = by_past n (Stopped s c) l (without c l) (without_others n e t)
without_others {c} n e (other {i = i} {l = l} a t) = ap (λ z. by n (spell z)) (without_past c i l a) ∙ by_past n i l (without c l) (without_others n e t)

others : {c m : ℕ} (n : ℕ) (x : Datum) {w : List ℕ} {l : List Element} → m ≢ n → ElementsInTurn c (Offered m w) l → by n (spell (exchanged m c x l)) ≡ by n (spell l)
others n x e no_more = refl
others {c} {m} n x e (receives {m = r} {y = y} {l = l} q t) =
    let A = by n (spell (without c l)) in
    ap (λ z. by n (spell z)) (exchanged_at m c x r y l)
    ∙ ap (λ b. if b then Out c x ∷ (if r == n then In c y ∷ (if b then Fin c ∷ A else A) else (if b then Fin c ∷ A else A)) else (if r == n then In c y ∷ (if b then Fin c ∷ A else A) else (if b then Fin c ∷ A else A))) (ne_eqb m n e)
    ∙ ap (λ z. if r == n then In c y ∷ z else z) (without_others n e t)
others {c} {m} n x e (stops {n = s} {l = l} t) = by_past n (Stopped s c) l (exchanged m c x l) (others n x e t)
others {c} {m} n x e (other {i = i} {l = l} a t) = ap (λ z. by n (spell z)) (exchanged_past m c x i l a) ∙ by_past n i l (exchanged m c x l) (others n x e t)

-- each node's part becomes its part of the linearized list
if_rewritten : (b : Bool) (k : Comm) {l m : List Comm} → Rewrites l m → Rewrites (if b then k ∷ l else l) (if b then k ∷ m else m)
if_rewritten true k h = behind k h
if_rewritten false k h = h

output : (m c n : ℕ) (x : Datum) {w : List ℕ} (l : List Element) → ElementsInTurn c (Offered m w) l → Rewrites (if m == n then Out c x ∷ by n (spell l) else by n (spell l)) (by n (spell (exchanged m c x l)))
output m c n x l t = elim (cases_eq m n) [
  | inl e ↦ subst (λ j. Rewrites (if m == j then Out c x ∷ by j (spell l) else by j (spell l)) (by j (spell (exchanged m c x l)))) e
      (subst (λ b. Rewrites (if b then Out c x ∷ by m (spell l) else by m (spell l)) (by m (spell (exchanged m c x l)))) (sym (eq-eqb m m refl)) (own x t))
  | inr e ↦ subst (λ b. Rewrites (if b then Out c x ∷ by n (spell l) else by n (spell l)) (by n (spell (exchanged m c x l)))) (sym (ne_eqb m n e))
      (subst (λ z. Rewrites (by n (spell l)) z) (sym (others n x e t)) stays)
]

pub projected : (n : ℕ) (ks : List (ℕ × Comm)) → ((c : ℕ) → (h : Phase) × InTurn c h ks) → Rewrites (by n ks) (by n (spell (linearized ks)))
projected n [] g = stays
projected n ((m, Out c x) ∷ ks) g = chain (if_rewritten (m == n) (Out c x) (projected n ks (λ d. turn_tail (g d).1))) (output m c n x (linearized ks) (elements_in_turn (after_out (g c).1 refl)))
projected n ((m, In c y) ∷ ks) g = if_rewritten (m == n) (In c y) (projected n ks (λ d. turn_tail (g d).1))
projected n ((m, Fin c) ∷ ks) g = if_rewritten (m == n) (Fin c) (projected n ks (λ d. turn_tail (g d).1))
projected n ((m, Stp c) ∷ ks) g = if_rewritten (m == n) (Stp c) (projected n ks (λ d. turn_tail (g d).1))

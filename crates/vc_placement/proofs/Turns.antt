-- Where a channel's part of a list is a run of it, and no node finishes more outputs than it began, what happens on the channel comes
-- in turn, and who outputs a message finishes it.
use Rattle.std.proofs.Common.{◌≡◌, ◌≢◌, ℕ, suc, ◌+◌, ◌≤◌, Bool, true, false, ◌==◌, refl, sym, ap, subst, ◌∙◌, List, [], ◌∷◌, ◌++◌, length, slice_get, Some, None, inl, inr, arith, eq-eqb, ne_eqb, length-append, if◌then◌else◌}
use Rattle.std.proofs.lemmas.Bool.{cases_eq}
use Rattle.vc_process.specs.declared.datum.Datum.{Datum}
use Rattle.vc_machine.specs.Rendezvous as rendezvous
use Rattle.vc_machine.specs.Rendezvous.{View, Does, DoesAll}
use Rattle.vc_process.specs.Messages.{message}
use Rattle.vc_accepted.specs.OneList.{by, to_channel, on}
use Rattle.vc_occam.specs.Traces.{Comm, Out, Fin, In, Stp}
use Rattle.vc_occam.proofs.Counts.{out_of, fin_of, outs, fins}
use Rattle.vc_occam.proofs.Prefixes.{Prefix, prefix_none, prefix_more}
use Rattle.vc_occam.proofs.Independence.{out_here, fin_here}
use Rattle.vc_placement.proofs.Elements.{Phase, Idle, Offered, Taken, InTurn, turn_end, turn_out, turn_in, turn_fin, turn_stp, turn_other}

-- however far the list has come, no more outputs on the channel are finished than began, with so many begun before
abbrev pub Bounded : ℕ → ℕ → List Comm → Type 0
Bounded c d l = (w : List Comm) → Prefix w l → fins c w ≤ d + outs c w

-- how many outputs of node j are unfinished in this phase
abbrev pub debt : Phase → ℕ → ℕ
debt Idle j = 0
debt (Offered n w) j = if n == j then 1 else 0
debt (Taken n) j = if n == j then 1 else 0

-- how the channel stands in this phase
abbrev pub InPhase : View → Phase → Type 0
InPhase v Idle = (length v.offered ≡ v.finished) × (length v.taken ≡ v.finished)
InPhase v (Offered n w) = (length v.offered ≡ suc v.finished) × (length v.taken ≡ v.finished) × (slice_get v.offered v.finished ≡ Some w)
InPhase v (Taken n) = (length v.offered ≡ suc v.finished) × (length v.taken ≡ suc v.finished)

pub at_end : (ms : List (List ℕ)) (m : List ℕ) → slice_get (ms ++ m ∷ []) (length ms) ≡ Some m
at_end [] m = refl
at_end (k ∷ ms) m = at_end ms m

past_end : (ms : List (List ℕ)) → slice_get ms (length ms) ≡ None
past_end [] = refl
past_end (k ∷ ms) = past_end ms

offers : (n : ℕ) (m : List ℕ) (h : Phase) (v w : View) → InPhase v h → Does v (rendezvous.Out m) w → (h ≡ Idle) × InPhase w (Offered n m)
offers n m Idle v w p d =
    let l = length-append v.offered (m ∷ []) in
    let a = p.0 in
    let b = p.1 in
    (refl, subst (λ z. InPhase z (Offered n m)) (sym d.1) (omega arith, b, subst (λ k. slice_get (v.offered ++ m ∷ []) k ≡ Some m) a (at_end v.offered m)))
offers n m (Offered j k) v w p d = absurd (let a = p.0 in let b = d.0 in omega arith)
offers n m (Taken j) v w p d = absurd (let a = p.0 in let b = d.0 in omega arith)

takes : (m : List ℕ) (h : Phase) (v w : View) → InPhase v h → Does v (rendezvous.In m) w → (n : ℕ) × (h ≡ Offered n m) × InPhase w (Taken n)
takes m Idle v w p d = absurd (let e : None ≡ Some m = sym (past_end v.offered) ∙ ap (slice_get v.offered) (p.0 ∙ sym p.1) ∙ d.0 in cc)
takes m (Offered n k) v w p d =
    let e : Some k ≡ Some m = sym p.2 ∙ ap (slice_get v.offered) (sym p.1) ∙ d.0 in
    let is : k ≡ m = cc in
    let l = length-append v.taken (m ∷ []) in
    let b = p.1 in
    (n, ap (Offered n) is, subst (λ z. InPhase z (Taken n)) (sym d.2) (p.0, omega arith))
takes m (Taken n) v w p d = absurd (let e : None ≡ Some m = sym (past_end v.offered) ∙ ap (slice_get v.offered) (p.0 ∙ sym p.1) ∙ d.0 in cc)

ends : (h : Phase) (v w : View) → InPhase v h → Does v rendezvous.Fin w → (n : ℕ) × (h ≡ Taken n) × InPhase w Idle
ends Idle v w p d = absurd (let a = p.1 in let b = d.0 in omega arith)
ends (Offered n k) v w p d = absurd (let a = p.1 in let b = d.0 in omega arith)
ends (Taken n) v w p d = (n, refl, subst (λ z. InPhase z Idle) (sym d.1) p)

stands : (h : Phase) (v w : View) → InPhase v h → Does v rendezvous.Stp w → InPhase w h
stands Idle v w p d = subst (λ z. InPhase z Idle) (sym d) p
stands q v w p d = subst (λ z. InPhase z q) (sym d) p

module _ (c : ℕ) where
  -- after one communication of some node
  quiet_after : (d j m : ℕ) (k : Comm) (ks : List (ℕ × Comm)) → out_of c k ≡ 0 → fin_of c k ≡ 0 → Bounded c d (by j ((m, k) ∷ ks)) → Bounded c d (by j ks)
  quiet_after d j m k ks o f = at (m == j)
    where
      at : (b : Bool) → Bounded c d (if b then k ∷ by j ks else by j ks) → Bounded c d (by j ks)
      at true h w p = let a = h (k ∷ w) (prefix_more p) in omega arith
      at false h w p = h w p

  out_after : (j m : ℕ) (x : Datum) (ks : List (ℕ × Comm)) → Bounded c 0 (by j ((m, Out c x) ∷ ks)) → Bounded c (if m == j then 1 else 0) (by j ks)
  out_after j m x ks = at (m == j)
    where
      at : (b : Bool) → Bounded c 0 (if b then Out c x ∷ by j ks else by j ks) → Bounded c (if b then 1 else 0) (by j ks)
      at true h w p = let a = h (Out c x ∷ w) (prefix_more p) in let o = out_here c x in omega arith
      at false h w p = h w p

  fin_after : (j m : ℕ) (ks : List (ℕ × Comm)) → Bounded c (if m == j then 1 else 0) (by j ((m, Fin c) ∷ ks)) → Bounded c 0 (by j ks)
  fin_after j m ks = at (m == j)
    where
      at : (b : Bool) → Bounded c (if b then 1 else 0) (if b then Fin c ∷ by j ks else by j ks) → Bounded c 0 (by j ks)
      at true h w p = let a = h (Fin c ∷ w) (prefix_more p) in let f = fin_here c in omega arith
      at false h w p = h w p

  -- who finishes an output has one that is unfinished
  finisher : (n m : ℕ) (ks : List (ℕ × Comm)) → Bounded c (if n == m then 1 else 0) (by m ((m, Fin c) ∷ ks)) → n ≡ m
  finisher n m ks h = elim (cases_eq n m) [
    | inl e ↦ e
    | inr e ↦ absurd (let g : Bounded c (if n == m then 1 else 0) (Fin c ∷ by m ks) = subst (λ b. Bounded c (if n == m then 1 else 0) (if b then Fin c ∷ by m ks else by m ks)) (eq-eqb m m refl) h in
        let a = subst (λ b. fins c (Fin c ∷ []) ≤ (if b then 1 else 0) + outs c (Fin c ∷ [])) (ne_eqb n m e) (g (Fin c ∷ []) (prefix_more prefix_none)) in
        let f = fin_here c in
        omega arith)
  ]

  no_out : (k : Comm) → (to_channel k).0 ≢ c → out_of c k ≡ 0
  no_out (Out d x) e = ap (λ b. if b then 1 else 0) (ne_eqb d c e)
  no_out k e = refl

  no_fin : (k : Comm) → (to_channel k).0 ≢ c → fin_of c k ≡ 0
  no_fin (Fin d) e = ap (λ b. if b then 1 else 0) (ne_eqb d c e)
  no_fin k e = refl

  -- the rest comes in turn, from whatever phase it begins in
  abbrev pub Rest : List (ℕ × Comm) → View → Type 0
  Rest ks u = (h : Phase) (v : View) → InPhase v h → DoesAll v (on c ks) u → ((j : ℕ) → Bounded c (debt h j) (by j ks)) → InTurn c h ks

  abbrev Bounds : Phase → List (ℕ × Comm) → Type 0
  Bounds h ks = (j : ℕ) → Bounded c (debt h j) (by j ks)

  out_goes : (m : ℕ) (x : Datum) (ks : List (ℕ × Comm)) (h : Phase) (v u : View) → Rest ks u → InPhase v h → DoesAll v (rendezvous.Out (message x) ∷ on c ks) u → Bounds h ((m, Out c x) ∷ ks) → InTurn c h ((m, Out c x) ∷ ks)
  out_goes m x ks h v u f p r b =
      let s = offers m (message x) h v r.0 p r.1 in
      let b' = subst (λ z. Bounds z ((m, Out c x) ∷ ks)) s.0 b in
      subst (λ z. InTurn c z ((m, Out c x) ∷ ks)) (sym s.0) (turn_out (f (Offered m (message x)) r.0 s.1 r.2 (λ j. out_after j m x ks (b' j))))

  in_goes : (m : ℕ) (y : Datum) (ks : List (ℕ × Comm)) (h : Phase) (v u : View) → Rest ks u → InPhase v h → DoesAll v (rendezvous.In (message y) ∷ on c ks) u → Bounds h ((m, In c y) ∷ ks) → InTurn c h ((m, In c y) ∷ ks)
  in_goes m y ks h v u f p r b =
      let s = takes (message y) h v r.0 p r.1 in
      let b' = subst (λ z. Bounds z ((m, In c y) ∷ ks)) s.1 b in
      subst (λ z. InTurn c z ((m, In c y) ∷ ks)) (sym s.1) (turn_in refl (f (Taken s.0) r.0 s.2 r.2 (λ j. quiet_after (debt (Taken s.0) j) j m (In c y) ks refl refl (b' j))))

  fin_goes : (m : ℕ) (ks : List (ℕ × Comm)) (h : Phase) (v u : View) → Rest ks u → InPhase v h → DoesAll v (rendezvous.Fin ∷ on c ks) u → Bounds h ((m, Fin c) ∷ ks) → InTurn c h ((m, Fin c) ∷ ks)
  fin_goes m ks h v u f p r b =
      let s = ends h v r.0 p r.1 in
      let b' = subst (λ z. Bounds z ((m, Fin c) ∷ ks)) s.1 b in
      let is : h ≡ Taken m = s.1 ∙ ap Taken (finisher s.0 m ks (b' m)) in
      let b'' = subst (λ z. Bounds z ((m, Fin c) ∷ ks)) is b in
      subst (λ z. InTurn c z ((m, Fin c) ∷ ks)) (sym is) (turn_fin (f Idle r.0 s.2 r.2 (λ j. fin_after j m ks (b'' j))))

  stp_goes : (m : ℕ) (ks : List (ℕ × Comm)) (h : Phase) (v u : View) → Rest ks u → InPhase v h → DoesAll v (rendezvous.Stp ∷ on c ks) u → Bounds h ((m, Stp c) ∷ ks) → InTurn c h ((m, Stp c) ∷ ks)
  stp_goes m ks h v u f p r b = turn_stp (f h r.0 (stands h v r.0 p r.1) r.2 (λ j. quiet_after (debt h j) j m (Stp c) ks refl refl (b j)))

  here : (m : ℕ) (k : Comm) (ks : List (ℕ × Comm)) (h : Phase) (v u : View) → (to_channel k).0 ≡ c → Rest ks u → InPhase v h → DoesAll v ((to_channel k).1 ∷ on c ks) u → Bounds h ((m, k) ∷ ks) → InTurn c h ((m, k) ∷ ks)
  here m (Out d x) ks h v u e f p r b =
      subst (λ z. InTurn c h ((m, Out z x) ∷ ks)) (sym e) (out_goes m x ks h v u f p r (subst (λ z. Bounds h ((m, Out z x) ∷ ks)) e b))
  here m (In d y) ks h v u e f p r b =
      subst (λ z. InTurn c h ((m, In z y) ∷ ks)) (sym e) (in_goes m y ks h v u f p r (subst (λ z. Bounds h ((m, In z y) ∷ ks)) e b))
  here m (Fin d) ks h v u e f p r b =
      subst (λ z. InTurn c h ((m, Fin z) ∷ ks)) (sym e) (fin_goes m ks h v u f p r (subst (λ z. Bounds h ((m, Fin z) ∷ ks)) e b))
  here m (Stp d) ks h v u e f p r b =
      subst (λ z. InTurn c h ((m, Stp z) ∷ ks)) (sym e) (stp_goes m ks h v u f p r (subst (λ z. Bounds h ((m, Stp z) ∷ ks)) e b))

  pub all_in_turn : (ks : List (ℕ × Comm)) (u : View) → Rest ks u
  all_in_turn [] u h v p r b = turn_end
  all_in_turn ((m, k) ∷ ks) u h v p r b = elim (cases_eq (to_channel k).0 c) [
    | inl e ↦ here m k ks h v u e (all_in_turn ks u) p (subst (λ a. DoesAll v (if a then (to_channel k).1 ∷ on c ks else on c ks) u) (eq-eqb (to_channel k).0 c e) r) b
    | inr e ↦ turn_other e (all_in_turn ks u h v p (subst (λ a. DoesAll v (if a then (to_channel k).1 ∷ on c ks else on c ks) u) (ne_eqb (to_channel k).0 c e) r)
        (λ j. quiet_after (debt h j) j m k ks (no_out k e) (no_fin k e) (b j)))
  ]

-- Linearizing a list changes nothing of what is taken on a channel, and of its being stopped.
use Rattle.std.proofs.Common.{◌≡◌, ◌≢◌, ℕ, suc, ◌<◌, Bool, true, false, ◌==◌, refl, sym, ap, ap₂, subst, ◌∙◌, List, [], ◌∷◌, ◌++◌, length, Some, inl, inr, arith, eq-eqb, ne_eqb, length-append, if◌then◌else◌}
use Rattle.std.proofs.lemmas.Bool.{cases_eq}
use Rattle.vc_process.specs.declared.datum.Datum.{Datum}
use Rattle.vc_machine.specs.Rendezvous as rendezvous
use Rattle.vc_machine.specs.Rendezvous.{View, Does, DoesAll}
use Rattle.vc_process.specs.Messages.{message}
use Rattle.vc_accepted.specs.OneList.{to_channel, on}
use Rattle.vc_occam.specs.Traces.{Comm, Out, Fin, In, Stp}
use Rattle.vc_placement.proofs.Turns.{at_end}
use Rattle.vc_placement.proofs.Elements.{Element, Exchanged, Stopped, Received, Finished, spell, chan_of, without, exchanged, linearized, Idle, ElementsInTurn, passes, stops, other, AreMet}

-- from these messages taken and this flag on, the elements lead to those
pub data Shows (c : ℕ) : List (List ℕ) → Bool → List Element → List (List ℕ) → Bool → Type 0 where
  shows_end : {ms : List (List ℕ)} {b : Bool} → Shows c ms b [] ms b
  shows_passes : {ms ns : List (List ℕ)} {b e : Bool} {n m : ℕ} {x y : Datum} {l : List Element} → b ≡ false → Shows c (ms ++ message y ∷ []) b l ns e → Shows c ms b (Exchanged n m c x y ∷ l) ns e
  shows_gets : {ms ns : List (List ℕ)} {b e : Bool} {n : ℕ} {y : Datum} {l : List Element} → b ≡ false → Shows c (ms ++ message y ∷ []) b l ns e → Shows c ms b (Received n c y ∷ l) ns e
  shows_finished : {ms ns : List (List ℕ)} {b e : Bool} {n : ℕ} {l : List Element} → Shows c ms b l ns e → Shows c ms b (Finished n c ∷ l) ns e
  shows_stopped : {ms ns : List (List ℕ)} {b e : Bool} {n : ℕ} {l : List Element} → Shows c ms true l ns e → Shows c ms b (Stopped n c ∷ l) ns e
  shows_other : {ms ns : List (List ℕ)} {b e : Bool} {i : Element} {l : List Element} → chan_of i ≢ c → Shows c ms b l ns e → Shows c ms b (i ∷ l) ns e

module _ (c d : ℕ) where
  end_shows : {ms ns : List (List ℕ)} {b e : Bool} (s f : ℕ) (l : List Element) → Shows c ms b l ns e → Shows c ms b (Finished s f ∷ without d l) ns e → Shows c ms b (without d (Finished s f ∷ l)) ns e
  end_shows {ms} {ns} {b} {e} s f l t r = at (f == d)
    where
      at : (a : Bool) → Shows c ms b (if a then l else Finished s f ∷ without d l) ns e
      at true = t
      at false = r

  without_shows : {ms ns : List (List ℕ)} {b e : Bool} {l : List Element} → Shows c ms b l ns e → Shows c ms b (without d l) ns e
  without_shows shows_end = shows_end
  without_shows (shows_passes f t) = shows_passes f (without_shows t)
  without_shows (shows_gets f t) = shows_gets f (without_shows t)
  without_shows (shows_finished {n = n} {l = l} t) = end_shows n c l t (shows_finished (without_shows t))
  without_shows (shows_stopped t) = shows_stopped (without_shows t)
  without_shows (shows_other {i = Exchanged s r f x y} a t) = shows_other a (without_shows t)
  without_shows (shows_other {i = Stopped s f} a t) = shows_other a (without_shows t)
  without_shows (shows_other {i = Received s f y} a t) = shows_other a (without_shows t)
  without_shows (shows_other {i = Finished s f} {l = l} a t) = end_shows s f l t (shows_other a (without_shows t))

  received_shows : {ms ns : List (List ℕ)} {b e : Bool} (n : ℕ) (x : Datum) (s f : ℕ) (y : Datum) (l : List Element) → Shows c ms b (Exchanged n s f x y ∷ without d l) ns e → Shows c ms b (Received s f y ∷ exchanged n d x l) ns e → Shows c ms b (exchanged n d x (Received s f y ∷ l)) ns e
  received_shows {ms} {ns} {b} {e} n x s f y l t r = elim (cases_eq f d) [
    | inl q ↦ subst (λ a. Shows c ms b (if a then Exchanged n s d x y ∷ without d l else Received s f y ∷ exchanged n d x l) ns e) (sym (eq-eqb f d q))
        (subst (λ j. Shows c ms b (Exchanged n s j x y ∷ without d l) ns e) q t)
    | inr q ↦ subst (λ a. Shows c ms b (if a then Exchanged n s d x y ∷ without d l else Received s f y ∷ exchanged n d x l) ns e) (sym (ne_eqb f d q)) r
  ]

  exchanged_shows : (n : ℕ) (x : Datum) {ms ns : List (List ℕ)} {b e : Bool} {l : List Element} → Shows c ms b l ns e → Shows c ms b (exchanged n d x l) ns e
  exchanged_shows n x shows_end = shows_end
  exchanged_shows n x (shows_passes f t) = shows_passes f (exchanged_shows n x t)
  exchanged_shows n x (shows_gets {n = s} {y = y} {l = l} f t) = received_shows n x s c y l (shows_passes f (without_shows t)) (shows_gets f (exchanged_shows n x t))
  exchanged_shows n x (shows_finished t) = shows_finished (exchanged_shows n x t)
  exchanged_shows n x (shows_stopped t) = shows_stopped (exchanged_shows n x t)
  exchanged_shows n x (shows_other {i = Exchanged s r f z y} a t) = shows_other a (exchanged_shows n x t)
  exchanged_shows n x (shows_other {i = Stopped s f} a t) = shows_other a (exchanged_shows n x t)
  exchanged_shows n x (shows_other {i = Received s f y} {l = l} a t) = received_shows n x s f y l (shows_other a (without_shows t)) (shows_other a (exchanged_shows n x t))
  exchanged_shows n x (shows_other {i = Finished s f} a t) = shows_other a (exchanged_shows n x t)

abbrev view_of : List (List ℕ) → List (List ℕ) → ℕ → Bool → View
view_of o t n b = record { offered = o; taken = t; finished = n; stopped = b }

-- a channel on which all that was offered is taken and finished
abbrev pub Even : List (List ℕ) → Bool → View
Even ms b = view_of ms ms (length ms) b

even_after : (ms : List (List ℕ)) (b : Bool) (m k : List ℕ) → m ≡ k → view_of (ms ++ m ∷ []) (ms ++ k ∷ []) (suc (length ms)) b ≡ Even (ms ++ k ∷ []) b
even_after ms b m k e =
    let a = length-append ms (k ∷ []) in
    let l : suc (length ms) ≡ length (ms ++ k ∷ []) = omega arith in
    ap₂ (λ z n. view_of z (ms ++ k ∷ []) n b) (ap (λ z. ms ++ z ∷ []) e) l

module _ (c : ℕ) where
  abbrev Seen : List (ℕ × Comm) → View → View → Type 0
  Seen ks v u = Shows c v.taken v.stopped (linearized ks) u.taken u.stopped

  -- one communication on the channel, where the rest shows what it leads to
  here : (n : ℕ) (k : Comm) (ks : List (ℕ × Comm)) (v w u : View) → (to_channel k).0 ≡ c → Does v (to_channel k).1 w → Seen ks w u → Seen ((n, k) ∷ ks) v u
  here n (Out d x) ks v w u e h t = exchanged_shows c d n x (subst (λ z. Seen ks z u) h.1 t)
  here n (In d y) ks v w u e h t = subst (λ j. Shows c v.taken v.stopped (Received n j y ∷ linearized ks) u.taken u.stopped) (sym e) (shows_gets h.1 (subst (λ z. Seen ks z u) h.2 t))
  here n (Fin d) ks v w u e h t = subst (λ j. Shows c v.taken v.stopped (Finished n j ∷ linearized ks) u.taken u.stopped) (sym e) (shows_finished (subst (λ z. Seen ks z u) h.1 t))
  here n (Stp d) ks v w u e h t = subst (λ j. Shows c v.taken v.stopped (Stopped n j ∷ linearized ks) u.taken u.stopped) (sym e) (shows_stopped (subst (λ z. Seen ks z u) h t))

  elsewhere : (n : ℕ) (k : Comm) (ks : List (ℕ × Comm)) (v u : View) → (to_channel k).0 ≢ c → Seen ks v u → Seen ((n, k) ∷ ks) v u
  elsewhere n (Out d x) ks v u e t = exchanged_shows c d n x t
  elsewhere n k ks v u e t = shows_other e t

  pub seen : (ks : List (ℕ × Comm)) (v u : View) → DoesAll v (on c ks) u → Seen ks v u
  seen [] v u r = subst (λ z. Shows c v.taken v.stopped [] z.taken z.stopped) (sym r) shows_end
  seen ((n, k) ∷ ks) v u r = elim (cases_eq (to_channel k).0 c) [
    | inl e ↦ (let s = subst (λ a. DoesAll v (if a then (to_channel k).1 ∷ on c ks else on c ks) u) (eq-eqb (to_channel k).0 c e) r in here n k ks v s.0 u e s.1 (seen ks s.0 u s.2))
    | inr e ↦ elsewhere n k ks v u e (seen ks v u (subst (λ a. DoesAll v (if a then (to_channel k).1 ∷ on c ks else on c ks) u) (ne_eqb (to_channel k).0 c e) r))
  ]

  one_passes : (n r : ℕ) (x y : Datum) (l : List Element) (ms : List (List ℕ)) (b : Bool) (u : View) → message x ≡ message y → b ≡ false → DoesAll (Even (ms ++ message y ∷ []) b) (on c (spell l)) u → DoesAll (Even ms b) (on c (spell (Exchanged n r c x y ∷ l))) u
  one_passes n r x y l ms b u q f h =
      let L = on c (spell l) in
      let one = view_of (ms ++ message x ∷ []) ms (length ms) b in
      let two = view_of (ms ++ message x ∷ []) (ms ++ message y ∷ []) (length ms) b in
      let three = view_of (ms ++ message x ∷ []) (ms ++ message y ∷ []) (suc (length ms)) b in
      let less : length ms < length (ms ++ message y ∷ []) = let a = length-append ms (message y ∷ []) in omega arith in
      let rest : DoesAll three L u = subst (λ z. DoesAll z L u) (sym (even_after ms b (message x) (message y) q)) h in
      subst (λ a. DoesAll (Even ms b) (if a then rendezvous.Out (message x) ∷ (if a then rendezvous.In (message y) ∷ (if a then rendezvous.Fin ∷ L else L) else (if a then rendezvous.Fin ∷ L else L)) else (if a then rendezvous.In (message y) ∷ (if a then rendezvous.Fin ∷ L else L) else (if a then rendezvous.Fin ∷ L else L))) u)
      (sym (eq-eqb c c refl)) (one, (refl, refl), (two, (at_end ms (message x) ∙ ap Some q, f, refl), (three, (less, refl), rest)))

  on_past : (i : Element) (l : List Element) → chan_of i ≢ c → on c (spell (i ∷ l)) ≡ on c (spell l)
  on_past (Exchanged n r d x y) l e =
      let L = on c (spell l) in
      ap (λ a. if a then rendezvous.Out (message x) ∷ (if a then rendezvous.In (message y) ∷ (if a then rendezvous.Fin ∷ L else L) else (if a then rendezvous.Fin ∷ L else L)) else (if a then rendezvous.In (message y) ∷ (if a then rendezvous.Fin ∷ L else L) else (if a then rendezvous.Fin ∷ L else L))) (ne_eqb d c e)
  on_past (Stopped n d) l e = ap (λ a. if a then rendezvous.Stp ∷ on c (spell l) else on c (spell l)) (ne_eqb d c e)
  on_past (Received n d y) l e = ap (λ a. if a then rendezvous.In (message y) ∷ on c (spell l) else on c (spell l)) (ne_eqb d c e)
  on_past (Finished n d) l e = ap (λ a. if a then rendezvous.Fin ∷ on c (spell l) else on c (spell l)) (ne_eqb d c e)

  pub not_received : {n : ℕ} {y : Datum} {l : List Element} → ElementsInTurn c Idle (Received n c y ∷ l) → ⊥
  not_received (other e t) = e refl

  pub not_finished : {n : ℕ} {l : List Element} → ElementsInTurn c Idle (Finished n c ∷ l) → ⊥
  not_finished (other e t) = e refl

  pub idle_tail : {i : Element} {l : List Element} → ElementsInTurn c Idle (i ∷ l) → ElementsInTurn c Idle l
  idle_tail (passes t) = t
  idle_tail (stops t) = t
  idle_tail (other e t) = t

  -- where nothing is under way the channel's part of what is linearized is a run of it
  pub even_run : {ms ns : List (List ℕ)} {b e : Bool} {l : List Element} → Shows c ms b l ns e → ElementsInTurn c Idle l → AreMet l → DoesAll (Even ms b) (on c (spell l)) (Even ns e)
  even_run shows_end t q = refl
  even_run {ns = ns} {b = b} {e = e} (shows_passes {ms = ms} {n = n} {m = r} {x = x} {y = y} {l = l} f h) t q = one_passes n r x y l ms b (Even ns e) q.0 f (even_run h (idle_tail t) q.1)
  even_run (shows_gets f h) t q = absurd (not_received t)
  even_run (shows_finished h) t q = absurd (not_finished t)
  even_run {ns = ns} {e = e} (shows_stopped {ms = ms} {b = b} {l = l} h) t q =
      subst (λ a. DoesAll (Even ms b) (if a then rendezvous.Stp ∷ on c (spell l) else on c (spell l)) (Even ns e)) (sym (eq-eqb c c refl)) (Even ms true, refl, even_run h (idle_tail t) q.1)
  even_run {ms} {ns} {b} {e} (shows_other {i = i} {l = l} a h) t q = subst (λ z. DoesAll (Even ms b) z (Even ns e)) (sym (on_past i l a)) (even_run h (idle_tail t) q.1)

-- What a channel's input gets is what its output sent, so that its message is the message that was taken.
use Rattle.std.proofs.Common.{◌≡◌, ℕ, zero, suc, sym, ap, subst, ◌∙◌, List, [], ◌∷◌, ◌++◌, length, slice_get, Some, eq-eqb, ne_eqb, inl, inr, if◌then◌else◌}
use Rattle.std.proofs.lemmas.Bool.{cases_eq}
use Rattle.vc_machine.specs.Rendezvous as rendezvous
use Rattle.vc_machine.specs.Rendezvous.{View, Does, DoesAll, part}
use Rattle.vc_network.specs.Views.{Said, all_said}
use Rattle.vc_process.specs.declared.value_kind.ValueKind.{ValueKind}
use Rattle.vc_process.specs.Messages.{message}
use Rattle.vc_occam.specs.Traces.{Comm, Out, In, Fin, Stp}
use Rattle.vc_occam.proofs.KindPreservation.{value_as, carries}
use Rattle.vc_accepted.specs.OneList.{to_channel, on}
use Rattle.vc_accepted.proofs.StepTraces.{IsSaid}
use Rattle.vc_accepted.proofs.Concatenation.{AllSaid}

-- the message of a value of this kind
abbrev Carries : ValueKind → List ℕ → Type 0
Carries k m = message (value_as k m) ≡ m

abbrev AllCarry : ValueKind → List (List ℕ) → Type 0
AllCarry k [] = Unit {0}
AllCarry k (m ∷ ms) = Carries k m × AllCarry k ms

carry_at : (k : ValueKind) (ms : List (List ℕ)) (i : ℕ) (m : List ℕ) → AllCarry k ms → slice_get ms i ≡ Some m → Carries k m
carry_at k [] i m h e = absurd (cc)
carry_at k (n ∷ ms) zero m h e = let is : n ≡ m = cc in subst (Carries k) is h.0
carry_at k (n ∷ ms) (suc i) m h e = carry_at k ms i m h.1 e

carry_more : (k : ValueKind) (ms : List (List ℕ)) (m : List ℕ) → AllCarry k ms → Carries k m → AllCarry k (ms ++ m ∷ [])
carry_more k [] m h c = (c, tt)
carry_more k (n ∷ ms) m h c = (h.0, carry_more k ms m h.1 c)

module _ (kinds : ℕ → ValueKind) (c : ℕ) where
  -- one communication on the channel, and what follows
  abbrev Follows : List rendezvous.Comm → List rendezvous.Comm → View → Type 0
  Follows ks ls u = (w : View) → AllCarry (kinds c) w.offered → DoesAll w ks u → DoesAll w ls u

  here : (d : ℕ) (k : rendezvous.Comm) (x : Comm) (ks ls : List rendezvous.Comm) (v u : View) → d ≡ c → IsSaid kinds (d, k) x → Follows ks ls u → AllCarry (kinds c) v.offered → DoesAll v (k ∷ ks) u → ((to_channel x).0 ≡ c) × DoesAll v ((to_channel x).1 ∷ ls) u
  here d (rendezvous.Out m) (Out e x) ks ls v u q s f h run =
      let fits : Carries (kinds c) m = subst (Carries (kinds c)) (sym s.1) (carries (kinds c) x (s.2 ∙ ap kinds q)) in
      let more : AllCarry (kinds c) run.0.offered = subst (λ w. AllCarry (kinds c) w.offered) (sym run.1.1) (carry_more (kinds c) v.offered m h fits) in
      (sym s.0 ∙ q, (run.0, subst (λ z. Does v (rendezvous.Out z) run.0) s.1 run.1, f run.0 more run.2))
  here d (rendezvous.In m) (In e x) ks ls v u q s f h run =
      let fits : Carries (kinds c) m = carry_at (kinds c) v.offered (length v.taken) m h run.1.0 in
      let is : m ≡ message x = sym fits ∙ sym (ap message (s.1 ∙ ap (λ z. value_as (kinds z) m) q)) in
      let more : AllCarry (kinds c) run.0.offered = subst (λ w. AllCarry (kinds c) w.offered) (sym run.1.2) h in
      (sym s.0 ∙ q, (run.0, subst (λ z. Does v (rendezvous.In z) run.0) is run.1, f run.0 more run.2))
  here d rendezvous.Fin (Fin e) ks ls v u q s f h run =
      let more : AllCarry (kinds c) run.0.offered = subst (λ w. AllCarry (kinds c) w.offered) (sym run.1.1) h in
      (sym s ∙ q, (run.0, run.1, f run.0 more run.2))
  here d rendezvous.Stp (Stp e) ks ls v u q s f h run =
      let more : AllCarry (kinds c) run.0.offered = subst (λ w. AllCarry (kinds c) w.offered) (sym run.1) h in
      (sym s ∙ q, (run.0, run.1, f run.0 more run.2))
  here d k x ks ls v u q s f h run = absurd s

  same_channel : (d : ℕ) (k : rendezvous.Comm) (x : Comm) → IsSaid kinds (d, k) x → (to_channel x).0 ≡ d
  same_channel d (rendezvous.Out m) (Out e x) s = sym s.0
  same_channel d (rendezvous.In m) (In e x) s = sym s.0
  same_channel d rendezvous.Fin (Fin e) s = sym s
  same_channel d rendezvous.Stp (Stp e) s = sym s
  same_channel d k x s = absurd s

  pub runs_too : (ks : List Said) (xs : List (ℕ × Comm)) (u : View) → AllSaid kinds ks xs → Follows (part c (all_said ks)) (on c xs) u
  runs_too [] [] u s v h run = run
  runs_too ((m, (d, k)) ∷ ks) ((n, x) ∷ xs) u s v h run = elim (cases_eq d c) [
    | inl q ↦
        (let r = here d k x (part c (all_said ks)) (on c xs) v u q s.1 (runs_too ks xs u s.2) h
        (subst (λ b. DoesAll v (if b then k ∷ part c (all_said ks) else part c (all_said ks)) u) (eq-eqb d c q) run) in
        subst (λ b. DoesAll v (if b then (to_channel x).1 ∷ on c xs else on c xs) u) (sym (eq-eqb (to_channel x).0 c r.0)) r.1)
    | inr ne ↦ subst (λ b. DoesAll v (if b then (to_channel x).1 ∷ on c xs else on c xs) u) (sym (ne_eqb (to_channel x).0 c (λ e. ne (sym (same_channel d k x s.1) ∙ e))))
        (runs_too ks xs u s.2 v h (subst (λ b. DoesAll v (if b then k ∷ part c (all_said ks) else part c (all_said ks)) u) (ne_eqb d c ne) run))
  ]
  runs_too [] (x ∷ xs) u s v h run = absurd s
  runs_too (k ∷ ks) [] u s v h run = absurd s

-- What an input gets was output before it.
use Rattle.std.proofs.Common.{◌≡◌, ℕ, zero, suc, refl, subst, List, [], ◌∷◌, ◌++◌, length, slice_get, Some, ◌⊎◌, inl, inr, eq-eqb, ne_eqb, if◌then◌else◌}
use Rattle.std.proofs.lemmas.Bool.{cases_eq}
use Rattle.std.specs.List.{Contains}
use Rattle.vc_machine.specs.Rendezvous as rendezvous
use Rattle.vc_machine.specs.Rendezvous.{View, Does, DoesAll, nothing_yet}
use Rattle.vc_process.specs.Messages.{message}
use Rattle.vc_occam.specs.Traces.{Comm, Out, In, Fin, Stp}
use Rattle.vc_process.proofs.Lists.{at_front, behind}
use Rattle.vc_accepted.specs.OneList.{to_channel, on}
use Rattle.vc_accepted.specs.OutputFirst.{IsSent, NothingIsGotUnsent}

-- the message was offered already
abbrev IsOffered : View → List ℕ → Type 0
IsOffered v m = (i : ℕ) × (slice_get v.offered i ≡ Some m)

-- one message more was offered: this one, or one before
offered_more : (ms : List (List ℕ)) (k m : List ℕ) (i : ℕ) → slice_get (ms ++ k ∷ []) i ≡ Some m → ((j : ℕ) × (slice_get ms j ≡ Some m)) ⊎ (k ≡ m)
offered_more [] k m zero e = inr (cc)
offered_more [] k m (suc i) e = absurd (cc)
offered_more (x ∷ ms) k m zero e = inl (zero, e)
offered_more (x ∷ ms) k m (suc i) e = elim (offered_more ms k m i e) [ inl h ↦ inl (suc h.0, h.1) | inr h ↦ inr h ]

module _ (c : ℕ) (m : List ℕ) where
  sent_behind : (k : ℕ × Comm) (ks : List (ℕ × Comm)) → IsSent c m ks → IsSent c m (k ∷ ks)
  sent_behind k ks h = (h.0, h.1, behind k ks (h.0, Out c h.1) h.2, h.3)

  -- a communication on the channel changes what was offered by its own message alone
  step_back : (n : ℕ) (k : Comm) (ks : List (ℕ × Comm)) (v w : View) → (to_channel k).0 ≡ c → Does v (to_channel k).1 w → IsOffered w m ⊎ IsSent c m ks → IsOffered v m ⊎ IsSent c m ((n, k) ∷ ks)
  step_back n k ks v w q h (inr s) = inr (sent_behind (n, k) ks s)
  step_back n (Out d x) ks v w q h (inl o) =
      elim (offered_more v.offered (message x) m o.0 (subst (λ u. slice_get u.offered o.0 ≡ Some m) h.1 o.1)) [
        | inl e ↦ inl e
        | inr e ↦ inr (n, x, subst (λ j. Contains ((n, Out d x) ∷ ks) (n, Out j x)) q (at_front (n, Out d x) ks), e)
      ]
  step_back n (In d x) ks v w q h (inl o) = inl (o.0, subst (λ u. slice_get u.offered o.0 ≡ Some m) h.2 o.1)
  step_back n (Fin d) ks v w q h (inl o) = inl (o.0, subst (λ u. slice_get u.offered o.0 ≡ Some m) h.1 o.1)
  step_back n (Stp d) ks v w q h (inl o) = inl (o.0, subst (λ u. slice_get u.offered o.0 ≡ Some m) h o.1)

-- the input's message was offered before these communications, or is sent in them
sent : (c n : ℕ) (x : _) (before after : List (ℕ × Comm)) (v u : View) → DoesAll v (on c (before ++ (n, In c x) ∷ after)) u → IsOffered v (message x) ⊎ IsSent c (message x) before
sent c n x [] after v u run =
    let first = subst (λ b. DoesAll v (if b then rendezvous.In (message x) ∷ on c after else on c after) u) (eq-eqb c c refl) run in
    inl (length v.taken, first.1.0)
sent c n x ((l, k) ∷ ks) after v u run = elim (cases_eq (to_channel k).0 c) [
  | inl q ↦
      (let more = on c (ks ++ (n, In c x) ∷ after) in
      let first = subst (λ b. DoesAll v (if b then (to_channel k).1 ∷ more else more) u) (eq-eqb (to_channel k).0 c q) run in
      step_back c (message x) l k ks v first.0 q first.1 (sent c n x ks after first.0 u first.2))
  | inr ne ↦
      (let more = on c (ks ++ (n, In c x) ∷ after) in
      let rest = subst (λ b. DoesAll v (if b then (to_channel k).1 ∷ more else more) u) (ne_eqb (to_channel k).0 c ne) run in
      elim (sent c n x ks after v u rest) [ inl o ↦ inl o | inr s ↦ inr (sent_behind c (message x) (l, k) ks s) ])
]

pub nothing_unsent : NothingIsGotUnsent
nothing_unsent c n x before after v run = elim (sent c n x before after nothing_yet v run) [
  | inl o ↦ absurd (let e = o.1 in cc)
  | inr s ↦ s
]

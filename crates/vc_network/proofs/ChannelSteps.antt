-- What a step of the ways' machine says, as its channel's new state tells it.
use Rattle.std.proofs.Common.{◌≡◌, ℕ, suc, ◌⊎◌, inl, inr, true, false, List, [], ◌∷◌, ◌++◌, length, refl, sym, ap, subst, ◌∙◌, arith}
use Rattle.std.proofs.lemmas.Bool.{cases_eq}
use Rattle.vc_machine.specs.Paths.{Net, Carries}
use Rattle.vc_machine.specs.Rendezvous.{View, Comm, Out, In, Fin, Stp, Does, DoesAll, part}
use Rattle.vc_machine.specs.Machine.{State, ChanState, view_of, view}
use Rattle.vc_packets.specs.Functions.{put}
use Rattle.vc_machine.proofs.Basics.{put-same, put-other}
use Rattle.vc_machine.proofs.Labels.{Inv, tally}
use Rattle.vc_machine.proofs.Views.{chan_logs, prefix_end}
use Rattle.vc_machine.proofs.Halves.{calm_when_idle}
use Rattle.vc_machine.proofs.Runs.{part_here, part_other}

-- the view after a communication
abbrev pub after : Comm → View → View
after (Out m) v = record v { offered = v.offered ++ m ∷ [] }
after (In m) v = record v { taken = v.taken ++ m ∷ [] }
after Fin v = record v { finished = suc v.finished }
after Stp v = record v { stopped = true }

abbrev pub May : ChanState → Comm → Type 0
May x (Out m) = x.unacked ≡ []
May x (In m) = (x.wants ≡ true) ⊎ (x.stopped ≡ false)
May x Fin = Unit {0}
May x Stp = Unit {0}

pub data Says (net : Net) (t u : State) (ks : List (ℕ × Comm)) : Type 0 where
  silent : ks ≡ [] → ((c : ℕ) → view u c ≡ view t c) → Says net t u ks
  one : (c : ℕ) (k : Comm) (x : ChanState) → ks ≡ (c, k) ∷ [] → Carries net c → May (t.chans c) k → u.chans ≡ put t.chans c x → view_of x ≡ after k (view t c) → Says net t u ks

live : (net : Net) (t : State) (c : ℕ) → Inv net t → Carries net c → ((t.chans c).wants ≡ true) ⊎ ((t.chans c).stopped ≡ false) → (t.chans c).stopped ≡ false
live net t c i r (inl w) = (i.chans c r).«open» w
live net t c i r (inr e) = e

does : (net : Net) (t u : State) (c : ℕ) (k : Comm) → Inv net t → Inv net u → Carries net c → May (t.chans c) k → view u c ≡ after k (view t c) → Does (view t c) k (view u c)
does net t u c (Out m) i j r may e =
    let q = calm_when_idle (net.chan c) (i.phases c) (t.chans c) (tally c net.ways i.labels) (i.chans c r).phase may in
    (ap length (sym q.2.same) ∙ sym q.2.count, e)
does net t u c (In m) i j r may e =
    let p = (chan_logs net u c j r).prefix in
    let q = subst (λ v. (rest : List (List ℕ)) × (v.taken ++ rest ≡ v.offered)) e p in
    (prefix_end (t.chans c).taken (t.chans c).offered m q, live net t c i r may, e)
does net t u c Fin i j r may e =
    let p = (chan_logs net u c j r).finished in
    let a = ap (λ v. v.finished) e in
    let b = ap (λ v. length v.taken) e in
    (omega arith, e)
does net t u c Stp i j r may e = e

-- each channel makes its part of what is said
pub said : (net : Net) (t u : State) (ks : List (ℕ × Comm)) → Inv net t → Inv net u → Says net t u ks → (c : ℕ) → DoesAll (view t c) (part c ks) (view u c)
said net t u ks i j (silent e same) c = subst (λ z. DoesAll (view t c) (part c z) (view u c)) (sym e) (same c)
said net t u ks i j (one d k x e r may chans new) c =
    let here : view u d ≡ after k (view t d) = ap (λ f. view_of (f d)) chans ∙ ap view_of (put-same t.chans d x) ∙ new in
    let there : (d ≡ c → ⊥) → view u c ≡ view t c = λ ne. ap (λ f. view_of (f c)) chans ∙ ap view_of (put-other t.chans d x c (λ q. ne (sym q))) in
    subst (λ z. DoesAll (view t c) (part c z) (view u c)) (sym e)
    (elim (cases_eq d c) [
      | inl q ↦ subst (λ z. DoesAll (view t z) (part z ((d, k) ∷ [])) (view u z)) q
          (subst (λ z. DoesAll (view t d) z (view u d)) (sym (part_here d k [])) (view u d, does net t u d k i j r may here, refl))
      | inr ne ↦ subst (λ z. DoesAll (view t c) z (view u c)) (sym (part_other c d k [] ne)) (there ne)
    ])

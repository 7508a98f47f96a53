-- Whole runs.
use Rattle.std.proofs.Common.{◌≡◌, ℕ, zero, suc, inl, inr, true, List, [], ◌∷◌, ◌++◌, refl, sym, ap, subst, ◌∙◌, arith, Option, Some, None, option_to_list, nat_eq, eq-eqb, ne_eqb}
use Rattle.std.proofs.lemmas.Bool.{cases_eq, cond-true, cond-false}
use Rattle.vc_machine.specs.Paths.{Net, IsAccepted}
use Rattle.vc_machine.specs.Rendezvous.{View, Comm, DoesAll, part}
use Rattle.vc_machine.specs.Machine.{State, start, Event, Offer, Want, Choose, Stop, Send, Receive, Enter, Route, Leave, Step, Run, Shows, RunTells, view}
use Rattle.vc_machine.proofs.Labels.{Calm, Labels, tally, Inv}
use Rattle.vc_machine.proofs.Moves.{sent, entered, routed, departed}
use Rattle.vc_machine.proofs.NodeSteps.{offered, fetched, wanted, stopped}
use Rattle.vc_machine.proofs.Receive.{received}
use Rattle.vc_machine.proofs.Views.{step_told, after_stop}

abbrev no_labels : ℕ → Labels
no_labels w = record { queue = []; line = []; input = [] }

none_yet : (c n : ℕ) → tally c n no_labels ≡ 0
none_yet c zero = refl
none_yet c (suc n) = let h = none_yet c n in omega arith

pub at_start : (net : Net) → Inv net start
at_start net = record {
  labels = no_labels;
  phases = λ c. Calm;
  ways = λ w h. record { queue = tt; line = tt; input = refl };
  chans = λ c h. record { «open» = λ e. absurd (cc); phase = (none_yet c net.ways, refl, record { unacked = refl; stored = refl; same = refl; count = refl }) };
  strays = refl;
  lost = refl;
}

pub stepped : (net : Net) (s : State) (e : Event) (t : State) → IsAccepted net → Inv net s → Step net s e t → Inv net t
stepped net s (Offer c m) t acc i h = offered net s t c m acc i h
stepped net s (Want c) t acc i h = wanted net s t c acc i h.0 h.1
stepped net s (Choose c) t acc i h = fetched net s t c acc i h.0 h.1
stepped net s (Stop c) t acc i h = stopped net s t c i h
stepped net s (Send w) t acc i h = sent net s t w i h
stepped net s (Receive w) t acc i h = received net s t w acc i h
stepped net s (Enter w v) t acc i h = entered net s t w v i h
stepped net s (Route w out) t acc i h = routed net s t w out i h
stepped net s (Leave w) t acc i h = departed net s t w i h

pub ran : (net : Net) (es : List Event) (s t : State) → IsAccepted net → Inv net s → Run net s es t → Inv net t
ran net [] s t acc i h = subst (Inv net) (sym h) i
ran net (e ∷ es) s t acc i h = ran net es h.0 t acc (stepped net s e h.0 acc i h.1) h.2

pub run_told : (net : Net) (es : List Event) (s t : State) → IsAccepted net → Inv net s → Run net s es t → (ks : List (ℕ × Comm)) × RunTells net s es ks t
run_told net [] s t acc i h = ([], (refl, h))
run_told net (e ∷ es) s t acc i h =
    let j = stepped net s e h.0 acc i h.1 in
    let now = step_told net s h.0 e i j h.1 in
    let later = run_told net es h.0 t acc j h.2 in
    (option_to_list now.0 ++ later.0, (h.0, now.0, later.0, h.1, (now.1, now.2), refl, later.1))

pub part_here : (c : ℕ) (k : Comm) (ks : List (ℕ × Comm)) → part c ((c, k) ∷ ks) ≡ k ∷ part c ks
part_here c k ks = cond-true (nat_eq c c) (k ∷ part c ks) (part c ks) (eq-eqb c c refl)

pub part_other : (c d : ℕ) (k : Comm) (ks : List (ℕ × Comm)) → (d ≡ c → ⊥) → part c ((d, k) ∷ ks) ≡ part c ks
part_other c d k ks ne = cond-false (nat_eq d c) (k ∷ part c ks) (part c ks) (ne_eqb d c ne)

one_told : (s u : State) (o : Option (ℕ × Comm)) (rest : List (ℕ × Comm)) (c : ℕ) (v : View) → Shows s o u → DoesAll (view u c) (part c rest) v → DoesAll (view s c) (part c (option_to_list o ++ rest)) v
one_told s u None rest c v h q = subst (λ k. DoesAll k (part c rest) v) (h c) q
one_told s u (Some (d, k)) rest c v h q =
    elim (cases_eq d c) [
      | inl e ↦ subst (λ z. DoesAll (view s z) (part z ((d, k) ∷ rest)) v) e
          (subst (λ z. DoesAll (view s d) z v) (sym (part_here d k rest)) (view u d, h.0, subst (λ z. DoesAll (view u z) (part z rest) v) (sym e) q))
      | inr ne ↦ subst (λ z. DoesAll (view s c) z v) (sym (part_other c d k rest ne)) (subst (λ z. DoesAll z (part c rest) v) (h.1 c (λ z. ne (sym z))) q)
    ]

-- the part of each channel is a run of the rendezvous machine
pub parts_run : (net : Net) (es : List Event) (ks : List (ℕ × Comm)) (s t : State) (c : ℕ) → RunTells net s es ks t → DoesAll (view s c) (part c ks) (view t c)
parts_run net [] ks s t c h = subst (λ k. DoesAll (view s c) (part c k) (view t c)) (sym h.0) (ap (λ k. view k c) h.1)
parts_run net (e ∷ es) ks s t c h =
    subst (λ k. DoesAll (view s c) (part c k) (view t c)) (sym h.5)
    (one_told s h.0 h.1 h.2 c (view t c) h.4.0 (parts_run net es h.2 h.0 t c h.6))

pub all_stopped : (v : View) (ks : List Comm) (u : View) → v.stopped ≡ true → DoesAll v ks u → u.taken ≡ v.taken
all_stopped v [] u e h = ap (λ k. k.taken) h
all_stopped v (k ∷ ks) u e h = let q = after_stop v k h.0 e h.1 in all_stopped h.0 ks u q.1 h.2 ∙ q.0

pub nothing_after_stop : (net : Net) (es : List Event) (s t : State) (c : ℕ) → IsAccepted net → Inv net s → Run net s es t → (s.chans c).stopped ≡ true → (t.chans c).taken ≡ (s.chans c).taken
nothing_after_stop net es s t c acc i h e =
    let q = run_told net es s t acc i h in
    all_stopped (view s c) (part c q.0) (view t c) e (parts_run net es q.0 s t c q.1)

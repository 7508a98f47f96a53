-- A site that waits can go on, on the channel on which it waits.
use Rattle.std.proofs.Common.{◌≡◌, ℕ, List, [], ◌∷◌, refl, subst, inl, inr}
use Rattle.std.specs.List.{Contains}
use Rattle.std.proofs.lemmas.List.Elements.{Contains-append_cases}
use Rattle.vc_process.specs.declared.datum.Datum.{Datum}
use Rattle.vc_occam.specs.SiteActions as action
use Rattle.vc_process.specs.Messages.{received}
use Rattle.vc_occam.specs.Remains.{Rest, Done, Finishing, Getting, Then, Turns, Beside, then_on, turns_on, index_on, beside_on, Step, does_finish, gets, in_then, in_turns, in_left, in_right}
use Rattle.vc_occam.specs.States.{State, Does, output, input, waiting}
use Rattle.vc_process.specs.ProcessStep.{Finishes, Receives}
use Rattle.vc_occam.specs.Traces.{Comm, Fin, In, set}
use Rattle.vc_process.specs.Values.{Store}
use Rattle.vc_process.proofs.Lists.{none, only}

-- the site's output on the channel can be finished
abbrev pub CanFinish : Rest → Store → ℕ → ℕ → Type 0
CanFinish r e i c = (q : Rest) × (f : Store) × Step r e i action.Finish (Fin c ∷ []) q f

finish : (j d : ℕ) (e : Store) (i c : ℕ) → output j d ≡ output i c → CanFinish (Finishing j d) e i c
finish j d e i c h =
    let site : j ≡ i = cc in
    let chan : d ≡ c = cc in
    subst (λ y. CanFinish (Finishing j d) e y c) site (subst (λ y. CanFinish (Finishing j d) e j y) chan (Done, e, does_finish))

pub finishes : (r : Rest) (e : Store) (i c : ℕ) → Contains (waiting r) (output i c) → CanFinish r e i c
finishes (Finishing j d) e i c h = finish j d e i c (only (output j d) (output i c) h)
finishes (Getting j d v) e i c h = absurd (let same = only (input j d) (output i c) h in cc)
finishes (Then r ps) e i c h = let n = finishes r e i c h in (then_on n.0 ps, n.1, in_then n.2)
finishes (Turns r v b k p) e i c h = let n = finishes r e i c h in (turns_on n.0 v b k p, index_on n.0 v b k n.1, in_turns n.2)
finishes (Beside mine r q) e i c h = elim (Contains-append_cases (waiting r) (waiting q) (output i c) h) [
  | inl k ↦ let n = finishes r e i c k in (beside_on mine n.0 q, n.1, in_left n.2)
  | inr k ↦ let n = finishes q e i c k in (beside_on mine r n.0, n.1, in_right n.2)
]
finishes r e i c h = absurd (none (output i c) h)

-- the site's input on the channel can have the message
abbrev pub CanGet : Rest → Store → ℕ → ℕ → List ℕ → Type 0
CanGet r e i c m = (x : Datum) × (q : Rest) × (f : Store) × Step r e i (action.Message m) (In c x ∷ []) q f

get : (j d v : ℕ) (e : Store) (i c : ℕ) (m : List ℕ) → input j d ≡ input i c → CanGet (Getting j d v) e i c m
get j d v e i c m h =
    let site : j ≡ i = cc in
    let chan : d ≡ c = cc in
    subst (λ y. CanGet (Getting j d v) e y c m) site (subst (λ y. CanGet (Getting j d v) e j y m) chan (received (e v) m, Done, set e v (received (e v) m), gets refl))

pub receives : (r : Rest) (e : Store) (i c : ℕ) (m : List ℕ) → Contains (waiting r) (input i c) → CanGet r e i c m
receives (Finishing j d) e i c m h = absurd (let same = only (output j d) (input i c) h in cc)
receives (Getting j d v) e i c m h = get j d v e i c m (only (input j d) (input i c) h)
receives (Then r ps) e i c m h = let n = receives r e i c m h in (n.0, then_on n.1 ps, n.2, in_then n.3)
receives (Turns r v b k p) e i c m h = let n = receives r e i c m h in (n.0, turns_on n.1 v b k p, index_on n.1 v b k n.2, in_turns n.3)
receives (Beside mine r q) e i c m h = elim (Contains-append_cases (waiting r) (waiting q) (input i c) h) [
  | inl k ↦ let n = receives r e i c m k in (n.0, beside_on mine n.1 q, n.2, in_left n.3)
  | inr k ↦ let n = receives q e i c m k in (n.0, beside_on mine r n.1, n.2, in_right n.3)
]
receives r e i c m h = absurd (none (input i c) h)

pub finishes_on : (s : State) (i c : ℕ) → Contains (waiting s.rest) (output i c) → (ks : List Comm) × (s' : State) × Does s (Finishes c) ks s'
finishes_on s i c h = let n = finishes s.rest s.store i c h in (Fin c ∷ [], record { rest = n.0; store = n.1 }, (i, refl, n.2))

pub receives_on : (s : State) (i c : ℕ) (m : List ℕ) → Contains (waiting s.rest) (input i c) → (ks : List Comm) × (s' : State) × Does s (Receives c m) ks s'
receives_on s i c m h = let n = receives s.rest s.store i c m h in (In c n.0 ∷ [], record { rest = n.1; store = n.2 }, (i, n.0, refl, n.3))

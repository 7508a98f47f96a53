-- How many wait, and who.
use Rattle.std.proofs.Common.{◌≡◌, ◌≢◌, ◌⊎◌, inl, inr, ℕ, zero, suc, ◌+◌, ◌≤◌, Bool, true, false, List, [], ◌∷◌, refl, sym, ap, subst, ◌∙◌, arith, eq-eqb, ne_eqb, if◌then◌else◌}
use Rattle.std.proofs.lemmas.Bool.{cases_eq}
use Rattle.std.specs.List.{Contains}
use Rattle.vc_core.specs.PossibleEvents.{NetworkState}
use Rattle.vc_free.proofs.NodePaths.{bit}
use Rattle.vc_free.proofs.PutOff.{total, total_inserted, is_out, is_in}
use Rattle.vc_meaning.proofs.Channels.{one_there, one_asked}
use Rattle.vc_meaning.specs.Meaning.{MessagePasses, EndIsToCome, IsAhead}
use Rattle.vc_occam.proofs.StepWaits.{step_waits}
use Rattle.vc_occam.specs.SiteActions as action
use Rattle.vc_occam.specs.States.{State, StepsTo, Waiting, input, output, waiting, meeting}
use Rattle.vc_occam.specs.Traces.{Out, Fin, In}
use Rattle.vc_plan.specs.declared.plan.Plan.{Plan}
use Rattle.vc_process.proofs.Lists.{at_front, behind, none}
use Rattle.vc_process.specs.declared.datum.Datum.{Datum}
use Rattle.std.specs.Prelude.{Option, Some, None}

pub some_out : (c : ℕ) (ws : List Waiting) → 1 ≤ total (is_out c) ws → (i : ℕ) × Contains ws (output i c)
some_out c [] l = absurd (omega arith)
some_out c (output i d ∷ ws) l = elim (cases_eq d c) [
  | inl e ↦ (i, subst (λ z. Contains (output i d ∷ ws) (output i z)) e (at_front (output i d) ws))
  | inr ne ↦ (let z : is_out c (output i d) ≡ 0 = ap (λ b. if b then 1 else 0) (ne_eqb d c ne) in let r = some_out c ws (omega arith) in (r.0, behind (output i d) ws (output r.0 c) r.1))
]
some_out c (input i d ∷ ws) l = let r = some_out c ws (omega arith) in (r.0, behind (input i d) ws (output r.0 c) r.1)

pub some_in : (c : ℕ) (ws : List Waiting) → 1 ≤ total (is_in c) ws → (i : ℕ) × Contains ws (input i c)
some_in c [] l = absurd (omega arith)
some_in c (input i d ∷ ws) l = elim (cases_eq d c) [
  | inl e ↦ (i, subst (λ z. Contains (input i d ∷ ws) (input i z)) e (at_front (input i d) ws))
  | inr ne ↦ (let z : is_in c (input i d) ≡ 0 = ap (λ b. if b then 1 else 0) (ne_eqb d c ne) in let r = some_in c ws (omega arith) in (r.0, behind (input i d) ws (input r.0 c) r.1))
]
some_in c (output i d ∷ ws) l = let r = some_in c ws (omega arith) in (r.0, behind (output i d) ws (input r.0 c) r.1)

one_or_none : (n : ℕ) → (n ≡ 0) ⊎ (1 ≤ n)
one_or_none zero = inl refl
one_or_none (suc n) = inr (omega arith)

-- being ahead, by numbers
pub record AheadByNumbers (p : Plan) (x : NetworkState) (z : State) : Type 0 where
  pub ends : (c : ℕ) → EndIsToCome p x c → total (is_out c) (waiting z.rest) ≡ 0
  pub messages : (c : ℕ) (m : List ℕ) → MessagePasses p x c m → total (is_in c) (waiting z.rest) ≡ 0

pub by_numbers : {p : Plan} {x : NetworkState} {z : State} → IsAhead p x z → AheadByNumbers p x z
by_numbers {z = z} h = record {
  ends = λ c e. elim (one_or_none (total (is_out c) (waiting z.rest))) [ inl k ↦ k | inr l ↦ absurd (let r = some_out c (waiting z.rest) l in h.ends c e r.0 r.1) ];
  messages = λ c m e. elim (one_or_none (total (is_in c) (waiting z.rest))) [ inl k ↦ k | inr l ↦ absurd (let r = some_in c (waiting z.rest) l in h.messages c m e r.0 r.1) ];
}

pub is_ahead : {p : Plan} {x : NetworkState} {z : State} → AheadByNumbers p x z → IsAhead p x z
is_ahead {z = z} h = record {
  ends = λ c e i k. (let a = one_there c i z k in let b = h.ends c e in omega arith);
  messages = λ c m e i k. (let a = one_asked c i z k in let b = h.messages c m e in omega arith);
}

-- nothing waits
abbrev each : Waiting → ℕ
each w = 1

none_waits : (ws : List Waiting) → total each ws ≡ 0 → ws ≡ []
none_waits [] e = refl
none_waits (w ∷ ws) e = absurd (omega arith)

pub no_output : (s : State) {i c : ℕ} → waiting s.rest ≡ [] → Contains (waiting s.rest) (output i c) → ⊥
no_output s {i = i} {c = c} e k = none (output i c) (subst (λ ws. Contains ws (output i c)) e k)

pub no_input : (s : State) {i c : ℕ} → waiting s.rest ≡ [] → Contains (waiting s.rest) (input i c) → ⊥
no_input s {i = i} {c = c} e k = none (input i c) (subst (λ ws. Contains ws (input i c)) e k)

-- after an output and its end a process waits as before
pub pair_waits : {s t u : State} {i j c d : ℕ} {x : Datum} → StepsTo s i (action.Offer c) (Out c x ∷ []) t → StepsTo t j action.Finish (Fin d ∷ []) u → waiting s.rest ≡ [] → waiting u.rest ≡ []
pair_waits {s} {t} {u} st st2 e =
    let a = total_inserted each (step_waits st) in
    let b = total_inserted each (step_waits st2).2 in
    let z = ap (total each) e in
    none_waits (waiting u.rest) (omega arith)

pub took_waits : {s t : State} {j c : ℕ} {y : Datum} (k : Option ℕ) (m : List ℕ) → StepsTo s j (meeting k c m) (In c y ∷ []) t → waiting t.rest ≡ waiting s.rest
took_waits None m st = step_waits st
took_waits (Some g) m st = step_waits st

pub triple_waits : {s t u v : State} {i l j c : ℕ} {x y : Datum} (k : Option ℕ) (m : List ℕ) → StepsTo s i (action.Offer c) (Out c x ∷ []) t → StepsTo t j (meeting k c m) (In c y ∷ []) u → StepsTo u l action.Finish (Fin c ∷ []) v → waiting s.rest ≡ [] → waiting v.rest ≡ []
triple_waits {s} {t} {u} {v} k m st st2 st3 e =
    let a = total_inserted each (step_waits st) in
    let b = ap (total each) (took_waits k m st2) in
    let d = total_inserted each (step_waits st3).2 in
    let z = ap (total each) e in
    none_waits (waiting v.rest) (omega arith)

pub bit_same : (u v : Bool) → bit u ≡ bit v → u ≡ v
bit_same true true e = refl
bit_same false false e = refl
bit_same true false e = absurd (omega arith)
bit_same false true e = absurd (omega arith)

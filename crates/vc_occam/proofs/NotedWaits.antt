-- The sites that are noted as ones that wait do so after each step.
use Rattle.std.proofs.Common.{◌≡◌, ℕ, zero, suc, sym, ap, ◌∙◌, subst, List, [], ◌∷◌, Option, Some, None, ◌⊎◌, inl, inr}
use Rattle.std.proofs.lemmas.Bool.{cases_eq}
use Rattle.std.specs.List.{Contains}
use Rattle.std.specs.Prelude.{◌%◌, MatchOption, not, is_some, replicate, slice_get}
use Rattle.vc_occam.specs.SiteActions as action
use Rattle.vc_occam.specs.declared.answer.Answer.{Answer}
use Rattle.vc_occam.specs.declared.moves.Move.{Move}
use Rattle.vc_occam.specs.declared.moves.Move.TheVariants.{Offer, Want, Choose, Stopch, Inner, Quiet}
use Rattle.vc_occam.specs.declared.outcome.Outcome.{Outcome}
use Rattle.vc_occam.specs.declared.waiters.Waiter.{Waiter}
use Rattle.vc_occam.specs.declared.waiters.Waiters.{Waiters}
use Rattle.vc_occam.specs.declared.waits.Waits.{Waits}
use Rattle.vc_occam.specs.declared.waits.Waits.TheVariants as waits
use Rattle.vc_occam.specs.Frames.{View, left_by}
use Rattle.vc_occam.specs.Laws.{IsAdded, IsInputOn, IsOutputOn, Inserted}
use Rattle.vc_occam.specs.InUse.{UsesLawfully}
use Rattle.vc_occam.specs.Private.Frames.{Did, waits_at}
use Rattle.vc_occam.specs.Private.MoveSites.{IsAlone, action_for, action_on}
use Rattle.vc_occam.specs.Private.SiteSteps.{one}
use Rattle.vc_occam.specs.MoveSites.{site_of}
use Rattle.vc_occam.specs.Private.StepsInARow.{Stepped, once, more}
use Rattle.vc_occam.specs.Private.Waiters.{AllWait, FitsWait, IsNoted, step_of, wait_of}
use Rattle.vc_occam.specs.Remains.{Rest}
use Rattle.vc_occam.specs.Sites.{OwnSites}
use Rattle.vc_occam.specs.States.{Acts, IsAwaited, State, Waiting, output, input, came, waiting}
use Rattle.vc_occam.specs.Traces.{Comm}
use Rattle.vc_process.specs.Values.{Store}
use Rattle.vc_process.proofs.Lists.{at_front, behind, front_or, none}
use Rattle.vc_occam.proofs.Insertion.{inserted_or}
use Rattle.vc_occam.proofs.MoveActs.{resumes}
use Rattle.vc_occam.proofs.StepWaits.{Changed, added, step_waits, waits_after}
use Rattle.vc_process.specs.ProcessStep.{Finishes, Receives}

-- all that waited wait
abbrev pub AllStay : List Waiting → List Waiting → Type 0
AllStay old new = (w : Waiting) → Contains old w → Contains new w

abbrev empty : Option Waiter
empty = None

none_there : (n k : ℕ) (x : Waiter) → slice_get (replicate n empty) k ≡ Some (Some x) → ⊥
none_there zero k x h = cc
none_there (suc n) zero x h = cc
none_there (suc n) (suc k) x h = none_there n k x h

pub none_waits : (noted : Waiters) (ws : List Waiting) → noted.outputs ≡ replicate 256 None → noted.inputs ≡ replicate 256 None → AllWait noted ws
none_waits noted ws o q (waits.Output c) i n absent = none_there 256 (c % 256) _ (subst (λ xs. slice_get xs (c % 256) ≡ Some (Some (record { chan = c; site = i }))) o n)
none_waits noted ws o q (waits.Input c) i n absent = none_there 256 (c % 256) _ (subst (λ xs. slice_get xs (c % 256) ≡ Some (Some (record { chan = c; site = i }))) q n)

pub all_stay : (noted : Waiters) (old new : List Waiting) → AllStay old new → AllWait noted old → AllWait noted new
all_stay noted old new stay all w i n absent = all w i n (λ c. absent (stay (waits_at w i) c))

pub same_stay : (old new : List Waiting) → new ≡ old → AllStay old new
same_stay old new e w c = subst (λ xs. Contains xs w) (sym e) c

-- one waits no more, and what it waited for is noted no more
pub one_less : (before after : Waiters) (old new : List Waiting) (gone : Waits) (x : Waiting) → Inserted x new old → ((w : Waits) (i : ℕ) → (w ≡ gone → ⊥) → waits_at w i ≡ x → ⊥) →
    ((w : Waits) (i : ℕ) → IsNoted after w i → (w ≡ gone → ⊥) × IsNoted before w i) → AllWait before old → AllWait after new
one_less before after old new gone x less apart only all w i n absent =
    let o = only w i n in
    all w i o.1 (λ c. elim (inserted_or less (waits_at w i) c) [ inl e ↦ apart w i o.0 e | inr k ↦ absent k ])

output_apart : (c : ℕ) (x : Waiting) → IsOutputOn c x → (w : Waits) (i : ℕ) → (w ≡ waits.Output c → ⊥) → waits_at w i ≡ x → ⊥
output_apart c (output j d) on (waits.Output b) i ne e = let same : b ≡ c = cc in ne (ap waits.Output same)
output_apart c (output j d) on (waits.Input b) i ne e = cc
output_apart c (input j d) on w i ne e = absurd on

input_apart : (c : ℕ) (x : Waiting) → IsInputOn c x → (w : Waits) (i : ℕ) → (w ≡ waits.Input c → ⊥) → waits_at w i ≡ x → ⊥
input_apart c (input j d) on (waits.Input b) i ne e = let same : b ≡ c = cc in ne (ap waits.Input same)
input_apart c (input j d) on (waits.Output b) i ne e = cc
input_apart c (output j d) on w i ne e = absurd on

-- the site that waits for this goes on
pub awaits : (r : Rest) (w : Waits) (m : Option (List ℕ)) (i : ℕ) → FitsWait w m → Contains (waiting r) (waits_at w i) → IsAwaited r i m
awaits r (waits.Output c) None i fits h = (c, h)
awaits r (waits.Output c) (Some m) i fits h = cc
awaits r (waits.Input c) (Some m) i fits h = (c, h)
awaits r (waits.Input c) None i fits h = cc

pub record WentOn (s : State) (w : Waits) (m : Option (List ℕ)) (s' : State) : Type 0 where
  pub acts : Acts s (step_of w m) s'
  pub gone : Waiting
  pub less : Inserted gone (waiting s'.rest) (waiting s.rest)
  pub apart : (x : Waits) (i : ℕ) → (x ≡ w → ⊥) → waits_at x i ≡ gone → ⊥

pub went_on : (s s' : State) (w : Waits) (m : Option (List ℕ)) (i : ℕ) → OwnSites s.rest → UsesLawfully s.rest → FitsWait w m → Did s.rest s.store i (one (action_on m)) s'.rest s'.store → Contains (waiting s.rest) (waits_at w i) →
    WentOn s w m s'
went_on s s' (waits.Output c) None i own uses fits did h =
    let a = resumes s s' i None own uses did c h in
    let n = waits_after s s' (Finishes c) a.0 a.1 in
    record { acts = a; gone = n.0; less = n.2; apart = output_apart c n.0 n.1 }
went_on s s' (waits.Output c) (Some m) i own uses fits did h = cc
went_on s s' (waits.Input c) (Some m) i own uses fits did h =
    let a = resumes s s' i (Some m) own uses did c h in
    let n = waits_after s s' (Receives c m) a.0 a.1 in
    record { acts = a; gone = n.0; less = n.2; apart = input_apart c n.0 n.1 }
went_on s s' (waits.Input c) None i own uses fits did h = cc

-- what a move of one site makes wait
abbrev pub WaitsBy : Option (Waits × ℕ) → List Waiting → List Waiting → Type 0
WaitsBy o old new = MatchOption o (AllStay old new) (λ w. IsAdded (waits_at w.0 w.1) old new)

pub waits_by : (m : Move) (a : Answer) (ks : List Comm) (old new : List Waiting) → IsAlone m → Changed (site_of m) (action_for m a) ks old new → WaitsBy (wait_of m (not (is_some (came a)))) old new
waits_by (Offer i c) a ks old new alone h = added h
waits_by (Want i c) a ks old new alone h = by (came a) h
  where
    by : (o : Option (List ℕ)) → Changed i (action.Want c o) ks old new → WaitsBy (wait_of (Want i c) (not (is_some o))) old new
    by None k = added k
    by (Some m) k = same_stay old new k
waits_by (Choose i g c) a ks old new alone h = by (came a) h
  where
    by : (o : Option (List ℕ)) → Changed i (action.Choose g c o) ks old new → WaitsBy (wait_of (Choose i g c) (not (is_some o))) old new
    by None k = added k
    by (Some m) k = same_stay old new k
waits_by (Stopch i c) a ks old new alone h = same_stay old new h
waits_by (Inner i j k c) a ks old new alone h = absurd alone
waits_by (Quiet i) a ks old new alone h = same_stay old new h

-- what it makes wait is noted, and nothing else besides what was
pub begun_waits : (before after : Waiters) (old new : List Waiting) (o : Option (Waits × ℕ)) → WaitsBy o old new → ((w : Waits) (i : ℕ) → IsNoted after w i → (o ≡ Some (w, i)) ⊎ IsNoted before w i) →
    AllWait before old → AllWait after new
begun_waits before after old new None stay only all w i n absent = elim (only w i n) [
  | inl e ↦ cc
  | inr k ↦ all w i k (λ c. absent (stay (waits_at w i) c))
]
begun_waits before after old new (Some p) begins only all w i n absent = elim (only w i n) [
  | inl e ↦ let same : p ≡ (w, i) = cc in absent ((begins (waits_at w i)).1 (inl (ap (λ (q : Waits × ℕ). waits_at q.0 q.1) (sym same))))
  | inr k ↦ all w i k (λ c. absent ((begins (waits_at w i)).1 (inr c)))
]

-- what is noted waits
same_or_not : (x y : Waiting) → (x ≡ y) ⊎ (x ≡ y → ⊥)
same_or_not (output i c) (output j d) = elim (cases_eq i j) [
  | inl p ↦ elim (cases_eq c d) [ inl q ↦ inl (ap (λ k. output k c) p ∙ ap (output j) q) | inr q ↦ inr (λ e. q (let s : c ≡ d = cc in s)) ]
  | inr p ↦ inr (λ e. p (let s : i ≡ j = cc in s))
]
same_or_not (input i c) (input j d) = elim (cases_eq i j) [
  | inl p ↦ elim (cases_eq c d) [ inl q ↦ inl (ap (λ k. input k c) p ∙ ap (input j) q) | inr q ↦ inr (λ e. q (let s : c ≡ d = cc in s)) ]
  | inr p ↦ inr (λ e. p (let s : i ≡ j = cc in s))
]
same_or_not (output i c) (input j d) = inr (λ e. cc)
same_or_not (input i c) (output j d) = inr (λ e. cc)

there_or_not : (ws : List Waiting) (x : Waiting) → Contains ws x ⊎ (Contains ws x → ⊥)
there_or_not [] x = inr (none x)
there_or_not (w ∷ ws) x = elim (same_or_not w x) [
  | inl e ↦ inl (subst (λ z. Contains (w ∷ ws) z) e (at_front w ws))
  | inr ne ↦ elim (there_or_not ws x) [
    | inl c ↦ inl (behind w ws x c)
    | inr absent ↦ inr (λ c. elim (front_or w ws x c) [ inl e ↦ ne e | inr k ↦ absent k ])
  ]
]

pub is_there : (ws : List Waiting) (x : Waiting) → ((Contains ws x → ⊥) → ⊥) → Contains ws x
is_there ws x h = elim (there_or_not ws x) [ inl c ↦ c | inr absent ↦ absurd (h absent) ]

-- steps without a communication change nothing of what waits
pub steps_wait : {i n k : ℕ} {v w : View} {e f : Store} {o : Outcome} → Stepped i n k v e o w f → waiting (left_by o w.rest) ≡ waiting v.rest
steps_wait (once went) = step_waits went.did.1
steps_wait (more went s) = steps_wait s ∙ step_waits went.did.1

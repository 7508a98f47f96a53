-- That a process waits wherever the halves of its channels count on it, whatever its node does.
use Rattle.std.proofs.Common.{◌≡◌, ◌≢◌, inl, inr, ℕ, Bool, List, [], true, false, Option, Some, None, refl, sym, ap, ◌∙◌, subst}
use Rattle.std.specs.List.{Contains}
use Rattle.std.proofs.lemmas.Bool.{cases_eq}
use Rattle.vc_packets.specs.Functions.{put}
use Rattle.vc_machine.proofs.Basics.{put-same, put-other}
use Rattle.vc_occam.specs.States.{Waiting, output, input, waiting}
use Rattle.vc_process.specs.ProcessStep.{Chooses, Wants as Inputs}
use Rattle.vc_occam.specs.Laws.{IsKept, IsAdded, IsRemoved, WaitsAfter}
use Rattle.vc_occam.proofs.Insertion.{inserted_or}
use Rattle.vc_vcp.specs.Carrier.{End, OutHalf, InHalf, Carrier}
use Rattle.vc_vcp.specs.Steps.{Fetches, store, message}
use Rattle.vc_vcp.specs.Steps as steps
use Rattle.vc_actor.specs.OfPlan.{InStep}
use Rattle.vc_accepted.specs.Process.{Process}

-- where a half is busy, a site waits for it
abbrev pub Has : {X : Type 0} → (X → Type 0) → (ℕ → ℕ → Waiting) → (ℕ → X) → List Waiting → Type 0
Has Busy mk f ws = (c : ℕ) → Busy (f c) → (i : ℕ) × Contains ws (mk i c)

abbrev pub Wants : InHalf → Type 0
Wants x = x.wants ≡ true

abbrev pub Sends : OutHalf → Type 0
Sends x = x.unacked ≢ []

pub has_same : {X : Type 0} (Busy : X → Type 0) (mk : ℕ → ℕ → Waiting) (f g : ℕ → X) (ws vs : List Waiting) → g ≡ f → Has Busy mk f ws → ((i d : ℕ) → Contains ws (mk i d) → Contains vs (mk i d)) → Has Busy mk g vs
has_same Busy mk f g ws vs e h keep c b = let r = h c (subst (λ z. Busy (z c)) e b) in (r.0, keep r.0 c r.1)

pub has_put : {X : Type 0} (Busy : X → Type 0) (mk : ℕ → ℕ → Waiting) (f g : ℕ → X) (ws vs : List Waiting) (c : ℕ) (x : X) → g ≡ put f c x → Has Busy mk f ws →
    (Busy x → (i : ℕ) × Contains vs (mk i c)) → ((i d : ℕ) → (d ≡ c → ⊥) → Contains ws (mk i d) → Contains vs (mk i d)) → Has Busy mk g vs
has_put Busy mk f g ws vs c x e h there keep d b = elim (cases_eq d c) [
  | inl same ↦ (let r = there (subst Busy (ap (λ z. z d) e ∙ ap (put f c x) same ∙ put-same f c x) b) in (r.0, subst (λ z. Contains vs (mk r.0 z)) (sym same) r.1))
  | inr other ↦ (let r = h d (subst Busy (ap (λ z. z d) e ∙ put-other f c x d other) b) in (r.0, keep r.0 d other r.1))
]

pub by_parts : (a : Carrier) (p : Process) → Has Wants input a.into (waiting p.state.rest) → Has Sends output a.out (waiting p.state.rest) → InStep a p
by_parts a p inputs outputs = record { inputs = inputs; outputs = outputs }

pub added : (x : Waiting) (ws vs : List Waiting) → IsAdded x ws vs → Contains vs x
added x ws vs h = (h x).1 (inl refl)

pub still : (x : Waiting) (ws vs : List Waiting) → IsAdded x ws vs → (w : Waiting) → Contains ws w → Contains vs w
still x ws vs h w k = (h w).1 (inr k)

pub kept : (ws vs : List Waiting) → IsKept ws vs → (w : Waiting) → Contains ws w → Contains vs w
kept ws vs h w k = (h w).1 k

pub others : (Gone : Waiting → Type 0) (ws vs : List Waiting) → IsRemoved Gone ws vs → (w : Waiting) → (Gone w → ⊥) → Contains ws w → Contains vs w
others Gone ws vs h w ne k = elim (inserted_or h.2 w k) [ inl e ↦ absurd (ne (subst Gone (sym e) h.1)) | inr o ↦ o ]

-- what waits after an input: the same, where it has its message, and else the input too
abbrev pub AfterInput : ℕ → ℕ → Option (List ℕ) → List Waiting → List Waiting → Type 0
AfterInput i c (Some m) ws vs = IsKept ws vs
AfterInput i c None ws vs = IsAdded (input i c) ws vs

pub after_want : (i c : ℕ) (answer : Option (List ℕ)) (ws vs : List Waiting) → WaitsAfter (Inputs i c answer) ws vs → AfterInput i c answer ws vs
after_want i c (Some m) ws vs h = h
after_want i c None ws vs h = h

pub after_choose : (i k c : ℕ) (answer : Option (List ℕ)) (ws vs : List Waiting) → WaitsAfter (Chooses i k c answer) ws vs → AfterInput i c answer ws vs
after_choose i k c (Some m) ws vs h = h
after_choose i k c None ws vs h = h

pub input_keeps : (i c : ℕ) (answer : Option (List ℕ)) (ws vs : List Waiting) → AfterInput i c answer ws vs → (w : Waiting) → Contains ws w → Contains vs w
input_keeps i c (Some m) ws vs h = kept ws vs h
input_keeps i c None ws vs h = still (input i c) ws vs h

-- the input waits where it has no message
stored_wants : (x : InHalf) (load : List ℕ) (last : Bool) (answer : Option (List ℕ)) (i c : ℕ) (ws vs : List Waiting) → answer ≡ message x load last → AfterInput i c answer ws vs → Wants (store x load last) → (j : ℕ) × Contains vs (input j c)
stored_wants x load true answer i c ws vs e h b = absurd (cc)
stored_wants x load false answer i c ws vs e h b = (i, added (input i c) ws vs (subst (λ z. AfterInput i c z ws vs) e h))

pub fetched : (a b : Carrier) (c : ℕ) (end : End) (answer : Option (List ℕ)) (i : ℕ) (ws vs : List Waiting) → Fetches a c end answer b → AfterInput i c answer ws vs → Has Wants input a.into ws → Has Sends output a.out ws →
    Has Wants input b.into vs × Has Sends output b.out vs
fetched a b c end answer i ws vs f h inputs outputs = (
  has_put Wants input a.into b.into ws vs c (store (a.into c) f.load f.last) (ap (λ z. z.into) f.after) inputs (stored_wants (a.into c) f.load f.last answer i c ws vs f.answer_is h) (λ j d ne. input_keeps i c answer ws vs h (input j d)),
  has_same Sends output a.out b.out ws vs (ap (λ z. z.out) f.after) outputs (λ j d. input_keeps i c answer ws vs h (output j d)),
)

pub wanted : (a b : Carrier) (c : ℕ) (end : End) (answer : Option (List ℕ)) (i : ℕ) (ws vs : List Waiting) → steps.Wants a c end answer b → AfterInput i c answer ws vs → Has Wants input a.into ws → Has Sends output a.out ws →
    Has Wants input b.into vs × Has Sends output b.out vs
wanted a b c end answer i ws vs (steps.fetches f) h inputs outputs = fetched a b c end answer i ws vs f h inputs outputs
wanted a b c end answer i ws vs (steps.waits empty none after) h inputs outputs = (
  has_put Wants input a.into b.into ws vs c (record (a.into c) { wants = true }) (ap (λ z. z.into) after) inputs (λ t. (i, added (input i c) ws vs (subst (λ z. AfterInput i c z ws vs) none h))) (λ j d ne. input_keeps i c answer ws vs h (input j d)),
  has_same Sends output a.out b.out ws vs (ap (λ z. z.out) after) outputs (λ j d. input_keeps i c answer ws vs h (output j d)),
)

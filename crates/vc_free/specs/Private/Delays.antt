-- Neighbouring steps of a process that may change places.
use Rattle.std.specs.Prelude.{◌≡◌, ℕ, List, [], ◌∷◌, Some, None}
use Rattle.vc_occam.specs.SiteActions.{SiteAction, Quiet, Offer, Finish, Want, Choose, Message, StopChannel}
use Rattle.vc_occam.specs.Remains.{Rest, Step, KeepsVariablesApart}
use Rattle.vc_occam.specs.Traces.{Comm, Fin}
use Rattle.vc_process.specs.Values.{Store}

-- a step after which no site waits that did not wait before
pub data Plain : SiteAction → Type 0 where
  plain_quiet : Plain Quiet
  plain_finish : Plain Finish
  plain_want : {c : ℕ} {m : List ℕ} → Plain (Want c (Some m))
  plain_choose : {k c : ℕ} {m : List ℕ} → Plain (Choose k c (Some m))
  plain_stop : {c : ℕ} → Plain (StopChannel c)

-- the second step may be made first: the first one begins an output and the second does not finish it, or it begins to wait for a
-- message and the second brings none, or the second finishes an output that the first did not begin
pub data MayDelay : SiteAction → SiteAction → List Comm → Type 0 where
  after_output : {c : ℕ} {f : SiteAction} {n : List Comm} → (n ≡ Fin c ∷ [] → ⊥) → MayDelay (Offer c) f n
  after_input : {c : ℕ} {f : SiteAction} {n : List Comm} → ((a : List ℕ) → f ≡ Message a → ⊥) → MayDelay (Want c None) f n
  after_guard : {k c : ℕ} {f : SiteAction} {n : List Comm} → ((a : List ℕ) → f ≡ Message a → ⊥) → MayDelay (Choose k c None) f n
  before_end : {d : SiteAction} {n : List Comm} → Plain d → MayDelay d Finish n

-- the second step made first
pub record Swapped (r : Rest) (e : Store) (i : ℕ) (d : SiteAction) (m : List Comm) (j : ℕ) (f : SiteAction) (n : List Comm) (r2 : Rest) (e2 : Store) : Type 0 where
  pub rest : Rest
  pub store : Store
  pub first : Step r e j f n rest store
  pub after : Step rest store i d m r2 e2

abbrev pub StepsCanBeDelayed : Type 0
StepsCanBeDelayed =
    (r r1 r2 : Rest) (e e1 e2 : Store) (i j : ℕ) (d f : SiteAction) (m n : List Comm) → MayDelay d f n → Step r e i d m r1 e1 → Step r1 e1 j f n r2 e2 → KeepsVariablesApart r → Swapped r e i d m j f n r2 e2

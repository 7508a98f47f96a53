-- All actors' runs as one list, ordered by stamp, then actor.
use Rattle.std.specs.Prelude.{◌≡◌, ℕ, ◌<◌, ◌≤◌, ◌⊎◌, List, [], ◌∷◌, if◌then◌else◌, ◌==◌}
use Rattle.std.specs.List.{AllByRecursion}
use Rattle.vc_network.specs.LocalRun.{Stamped}

-- a stamped act with its actor
pub record Made (A : Type 0) : Type 0 where
  pub actor : ℕ
  pub act : Stamped A

-- the actor's part of the list
abbrev pub part : {A : Type 0} → ℕ → List (Made A) → List (Stamped A)
part actor [] = []
part actor (m ∷ ms) = if m.actor == actor then m.act ∷ part actor ms else part actor ms

-- by stamp, then actor
abbrev pub NotAfter : {A : Type 0} → Made A → Made A → Type 0
NotAfter m n = (m.act.at < n.act.at) ⊎ ((m.act.at ≡ n.act.at) × (m.actor ≤ n.actor))

abbrev pub IsOrdered : {A : Type 0} → List (Made A) → Type 0
IsOrdered [] = Unit {0}
IsOrdered (m ∷ ms) = AllByRecursion (NotAfter m) ms × IsOrdered ms

-- the list is in order, and each actor's part of it is that actor's run
pub record IsMerge {A : Type 0} (runs : ℕ → List (Stamped A)) (merged : List (Made A)) : Type 0 where
  pub ordered : IsOrdered merged
  pub parts : (actor : ℕ) → part actor merged ≡ runs actor

-- each stamp is above those before it
abbrev pub Rises : {A : Type 0} → ℕ → List (Stamped A) → Type 0
Rises clock [] = Unit {0}
Rises clock (s ∷ ss) = (clock < s.at) × Rises s.at ss

-- an actor's run with the actor's number
pub record Numbered (A : Type 0) : Type 0 where
  pub actor : ℕ
  pub run : List (Stamped A)

-- the run of the actor, if it is there
abbrev pub run_of : {A : Type 0} → List (Numbered A) → ℕ → List (Stamped A)
run_of [] actor = []
run_of (r ∷ rs) actor = if r.actor == actor then r.run else run_of rs actor

-- no actor twice
abbrev pub AreDistinct : {A : Type 0} → List (Numbered A) → Type 0
AreDistinct [] = Unit {0}
AreDistinct {A} (r ∷ rs) = AllByRecursion (λ (s : Numbered A). r.actor ≡ s.actor → ⊥) rs × AreDistinct rs

-- each stamp is above the one before it
abbrev pub StampsRise : {A : Type 0} → List (Stamped A) → Type 0
StampsRise [] = Unit {0}
StampsRise (s ∷ ss) = Rises s.at ss

abbrev pub RunRises : {A : Type 0} → Numbered A → Type 0
RunRises r = StampsRise r.run

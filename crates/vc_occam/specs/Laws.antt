-- Laws of running processes: what is listed can be done, and what waits then.
use Rattle.std.specs.Prelude.{◌≡◌, ◌↔◌, ◌⊎◌, ℕ, List, ◌∷◌, Some, None}
use Rattle.std.specs.List.{Contains}
use Rattle.vc_occam.specs.declared.answer.Answer.{Answer}
use Rattle.vc_occam.specs.SiteActions.{SiteAction}
use Rattle.vc_occam.specs.declared.moves.Move.{Move}
use Rattle.vc_process.specs.declared.process.Process.{Process}
use Rattle.vc_process.specs.Numbering.{written}
use Rattle.vc_process.specs.Usage.{Set}
use Rattle.vc_occam.specs.Traces.{Comm}
use Rattle.vc_occam.specs.Remains.{begin}
use Rattle.vc_occam.specs.First.{first_moves}
use Rattle.vc_occam.specs.Sites.{OwnSites}
use Rattle.vc_occam.specs.States.{State, StepsTo, Does, sent_by, doing, FitsMove, Waiting, output, input, waiting}
use Rattle.vc_process.specs.ProcessStep.{ProcessStep, Offers, Wants, Chooses, Stops, Meets, Rests, Finishes, Receives}

-- a process begins with sites of its own side by side
abbrev pub SitesAreOwnAtFirst : Type 0
SitesAreOwnAtFirst = (p : Process) → OwnSites (begin (written p))

-- a step of one site, and what a process does at once, leave them so
abbrev pub StepsKeepSites : Type 0
StepsKeepSites = (s s' : State) (i : ℕ) (d : SiteAction) (ks : List Comm) → StepsTo s i d ks s' → OwnSites s.rest → OwnSites s'.rest

abbrev pub DoingKeepsSites : Type 0
DoingKeepsSites = (s s' : State) (d : ProcessStep) (ks : List Comm) → Does s d ks s' → OwnSites s.rest → OwnSites s'.rest

-- each move that is listed can be made, whatever answer it gets that fits it
abbrev pub ListedMovesCanBeMade : Type 0
ListedMovesCanBeMade =
    (s : State) (inside : Set) (m : Move) (a : Answer) → OwnSites s.rest → Contains (first_moves inside s.rest s.store) m → FitsMove m (sent_by s m) a → (ks : List Comm) × (s' : State) × Does s (doing m (sent_by s m) a) ks s'

-- the same things wait
abbrev pub IsKept : List Waiting → List Waiting → Type 0
IsKept old new = (w : Waiting) → Contains new w ↔ Contains old w

-- this waits too
abbrev pub IsAdded : Waiting → List Waiting → List Waiting → Type 0
IsAdded x old new = (w : Waiting) → Contains new w ↔ ((w ≡ x) ⊎ Contains old w)

-- one list is another with this put in at some place
pub data Inserted {X : Type 0} (x : X) : List X → List X → Type 0 where
  inserted_here : {xs : List X} → Inserted x xs (x ∷ xs)
  inserted_later : {y : X} {xs ys : List X} → Inserted x xs ys → Inserted x (y ∷ xs) (y ∷ ys)

-- one such thing waits no more; all else waits as before
abbrev pub IsRemoved : (Waiting → Type 0) → List Waiting → List Waiting → Type 0
IsRemoved Gone old new = (x : Waiting) × Gone x × Inserted x new old

abbrev pub IsOutputOn : ℕ → Waiting → Type 0
IsOutputOn c (output i d) = d ≡ c
IsOutputOn c (input i d) = ⊥

abbrev pub IsInputOn : ℕ → Waiting → Type 0
IsInputOn c (input i d) = d ≡ c
IsInputOn c (output i d) = ⊥

-- what waits after a process did this: an output that began, or an input or guard that has no message yet, waits too; one that is
-- finished, or has its message, waits no more
abbrev pub WaitsAfter : ProcessStep → List Waiting → List Waiting → Type 0
WaitsAfter (Offers i c m) old new = IsAdded (output i c) old new
WaitsAfter (Wants i c None) old new = IsAdded (input i c) old new
WaitsAfter (Chooses i k c None) old new = IsAdded (input i c) old new
WaitsAfter (Finishes c) old new = IsRemoved (IsOutputOn c) old new
WaitsAfter (Receives c m) old new = IsRemoved (IsInputOn c) old new
WaitsAfter (Wants i c (Some m)) old new = IsKept old new
WaitsAfter (Chooses i k c (Some m)) old new = IsKept old new
WaitsAfter (Stops i c) old new = IsKept old new
WaitsAfter (Meets i j k c m) old new = IsKept old new
WaitsAfter (Rests i) old new = IsKept old new

abbrev pub WaitingAfter : Type 0
WaitingAfter = (s s' : State) (d : ProcessStep) (ks : List Comm) → Does s d ks s' → WaitsAfter d (waiting s.rest) (waiting s'.rest)

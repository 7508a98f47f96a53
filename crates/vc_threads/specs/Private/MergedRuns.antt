-- The runs of the code, in the words of merges, and which of them comes next.
use Rattle.std.specs.Prelude.{◌≡◌, ◌⊎◌, ℕ, ◌<◌, ◌≤◌, Bool, IsTrue, List, length, map, get_or, slice_get, Option, Some, None}
use Rattle.std.specs.Option.{option_map}
use Rattle.vc_threads.specs.declared.act_log.ActorActs.{ActorActs}
use Rattle.vc_threads.specs.declared.merged_runs.Front.{Front}

-- the run has come to a place
abbrev pub stamp_at : ActorActs → ℕ → Option ℕ
stamp_at r place = option_map (λ a. a.0) (slice_get r.acts.items place)

abbrev pub front_of : ActorActs → ℕ → Front
front_of r place = record { place = place; at = stamp_at r place }

-- the actor of run k
abbrev pub id_at : List ActorActs → ℕ → ℕ
id_at rs k = get_or (map (λ r. r.id) rs) k 0

-- the next act of run k has this stamp
abbrev pub IsNext : List Front → ℕ → ℕ → Type 0
IsNext fs k at = (f : Front) × (slice_get fs k ≡ Some f) × (f.at ≡ Some at)

-- an act of run k with the one stamp is not after one of run j with the other
abbrev pub NotLater : List ActorActs → ℕ → ℕ → ℕ → ℕ → Type 0
NotLater rs at k later j = (at < later) ⊎ ((at ≡ later) × (id_at rs k ≤ id_at rs j))

-- the run whose next act is the first of all, or none where no run has a next act
abbrev pub FindsFirst : List ActorActs → List Front → Option ℕ → Type 0
FindsFirst rs fs None = (k at : ℕ) → IsNext fs k at → ⊥
FindsFirst rs fs (Some k) = (at : ℕ) × IsNext fs k at × ((j later : ℕ) → IsNext fs j later → NotLater rs at k later j)

-- the runs are in their actors' order
abbrev pub IdsRise : List ActorActs → Type 0
IdsRise rs = (j k : ℕ) → j < k → k < length rs → id_at rs j < id_at rs k

-- the first run from one on whose next act has this stamp, or none where there is none
abbrev pub FindsWith : List Front → ℕ → ℕ → Option ℕ → Type 0
FindsWith fs from at None = (j : ℕ) → from ≤ j → IsNext fs j at → ⊥
FindsWith fs from at (Some k) = (from ≤ k) × IsNext fs k at × ((j : ℕ) → from ≤ j → j < k → IsNext fs j at → ⊥)

-- where the runs are in order no next act has a lesser stamp than this, and of those before run `from` none has this one
abbrev pub HavePassed : List Front → Bool → ℕ → ℕ → Type 0
HavePassed fs in_order from at = IsTrue in_order → (j later : ℕ) → IsNext fs j later → (at ≤ later) × (j < from → at < later)

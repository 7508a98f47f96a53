-- The end from which a worker takes: of those from which its actor can take, the one of the least link.
use Rattle.std.specs.Prelude.{◌≡◌, ℕ, ◌≤◌, ◌<◌, List, length, Option, Some, slice_index_or}
use Rattle.vc_actor.specs.ActorView.{Acting}
use Rattle.vc_threads.specs.Works.{In, CanTake}

-- a link below 32 is that of the end at this place, which is one of the first n, and the actor can take from it; 32 says that none was found
abbrev pub IsFound : Acting → List In → ℕ → ℕ → ℕ → Type 0
IsFound x ins n place link =
    link < 32 → (place < n) × ((d : In) → ((slice_index_or ins place d).0 ≡ link) × CanTake x (slice_index_or ins place d))

-- of the first n ends, none from which the actor can take has a link below this one
abbrev pub IsLeast : Acting → List In → ℕ → ℕ → Type 0
IsLeast x ins n link = (j : ℕ) (d : In) → j < n → CanTake x (slice_index_or ins j d) → link ≤ (slice_index_or ins j d).0

-- no end from which the actor can take has a link below that of the end at this place
abbrev pub TakesLeast : Acting → List In → Option ℕ → Type 0
TakesLeast x ins place =
    (j : ℕ) (d : In) → j < length ins → CanTake x (slice_index_or ins j d) → (k : ℕ) × (place ≡ Some k) × ((slice_index_or ins k d).0 ≤ (slice_index_or ins j d).0)

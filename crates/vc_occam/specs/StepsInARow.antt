-- Steps without a communication in a row.
use Rattle.std.specs.Prelude.{◌≡◌, ℕ, zero, suc, [], ◌∷◌}
use Rattle.vc_occam.specs.declared.moves.Move.TheVariants.{Quiet}
use Rattle.vc_occam.specs.First.{first_moves}
use Rattle.vc_occam.specs.States.{State, Acts}
use Rattle.vc_process.specs.ProcessStep.{Rests}
use Rattle.vc_process.specs.Usage.{Set}

-- so many, each the only move at its time; of the sites that make them the last is site k, and site i where none is made
pub data RestsOn (inside : Set) : ℕ → ℕ → State → ℕ → State → Type 0 where
  still : {i : ℕ} {s : State} → RestsOn inside zero i s i s
  on : {n i j k : ℕ} {s t u : State} → first_moves inside s.rest s.store ≡ Quiet j ∷ [] → Acts s (Rests j) t → RestsOn inside n j t k u → RestsOn inside (suc n) i s k u

-- One step of a process, as its channels see it.
use Rattle.std.specs.Prelude.{ℕ, List, Option}

-- a move with its message, where an input or guard without one waits; or an output is finished, or the message comes that an input
-- waited for
pub data ProcessStep : Type 0 where
  Offers : (site chan : ℕ) (message : List ℕ) → ProcessStep
  Wants : (site chan : ℕ) (message : Option (List ℕ)) → ProcessStep
  Chooses : (site guard chan : ℕ) (message : Option (List ℕ)) → ProcessStep
  Stops : (site chan : ℕ) → ProcessStep
  Meets : (sender receiver : ℕ) (guard : Option ℕ) (chan : ℕ) (message : List ℕ) → ProcessStep
  Rests : (site : ℕ) → ProcessStep
  Finishes : (chan : ℕ) → ProcessStep
  Receives : (chan : ℕ) (message : List ℕ) → ProcessStep

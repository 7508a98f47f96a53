-- How a run closes, by why its workers ended.
use Rattle.std.specs.Prelude.{◌≡◌, ◌≢◌, ℕ, ◌<◌, List, get_or}
use Rattle.vc_core.specs.declared.close.Close.{Close}
use Rattle.vc_core.specs.declared.close.Close.TheVariants.{Done, Quiet, Limit, GateClosed, Failed, ClockFull}
use Rattle.vc_threads.specs.declared.run.Stop.{Stop}
use Rattle.vc_threads.specs.declared.run.Stop.TheVariants.{Turns, Gate, Clock, Memory}

-- why worker k ended, where this is told of each in turn
abbrev pub stop_among : List Stop → ℕ → Stop
stop_among stops k = get_or stops k Turns

-- none of the first n workers ended so, or some did
abbrev pub NoneStopped : ℕ → (ℕ → Stop) → Stop → Type 0
NoneStopped n stops stop = (k : ℕ) → k < n → stops k ≢ stop

abbrev pub SomeStopped : ℕ → (ℕ → Stop) → Stop → Type 0
SomeStopped n stops stop = (k : ℕ) × (k < n) × (stops k ≡ stop)

-- How a run closes in which not every process has ended, by why the first n workers ended: with the least one that found no memory, or
-- else that a clock was at its end, or else that the gate closed, or else that all used their turns.
abbrev pub ClosesBy : ℕ → (ℕ → Stop) → Close → Type 0
ClosesBy n stops (Failed k) = (k < n) × (stops k ≡ Memory) × NoneStopped k stops Memory
ClosesBy n stops ClockFull = SomeStopped n stops Clock × NoneStopped n stops Memory
ClosesBy n stops GateClosed = SomeStopped n stops Gate × NoneStopped n stops Memory × NoneStopped n stops Clock
ClosesBy n stops Limit = (k : ℕ) → k < n → stops k ≡ Turns
ClosesBy n stops Done = ⊥
ClosesBy n stops Quiet = ⊥

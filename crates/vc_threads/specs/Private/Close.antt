-- How a run closes, by why its workers ended.
use Rattle.std.specs.Prelude.{◌≡◌, ℕ, List, map, slice_get, Some}
use Rattle.vc_threads.specs.declared.run.ActorRun.{ActorRun}
use Rattle.vc_threads.specs.declared.run.Stop.{Stop}
use Rattle.vc_threads.specs.Close.{stop_among}

module _ {L : Type 0} where
  abbrev pub stop_in : ActorRun L → Stop
  stop_in r = r.stop

  -- why the worker of run k ended
  abbrev pub stop_at : List (ActorRun L) → ℕ → Stop
  stop_at rs = stop_among (map stop_in rs)

  -- the runs stand in the order of their actors, from 0 on
  abbrev pub AreInOrder : List (ActorRun L) → Type 0
  AreInOrder rs = (k : ℕ) (r : ActorRun L) → slice_get rs k ≡ Some r → r.id ≡ k

-- A step of the token machine is at most two steps of the packet machine.
use Rattle.std.proofs.Common.{◌≤◌, List, [], ◌∷◌, ◌++◌, length, refl, subst, arith}
use Rattle.vc_machine.specs.Paths.{Net}
use Rattle.vc_machine.specs.Machine.{State, Event, Enter, Run}
use Rattle.vc_machine.specs.Links.{Tokens}
use Rattle.vc_machine.specs.View.{TokenView, AtMostTwo, stays, moves, enters_bound}

-- the steps as a run
pub record AsRun (net : Net) (s : State) (u : Tokens) : Type 0 where
  pub events : List Event
  pub few : length events ≤ 2
  pub after : State
  pub run : Run net s events after
  pub view : TokenView net u after

pub as_run : (net : Net) (s : State) (u : Tokens) → AtMostTwo net s u → AsRun net s u
as_run net s u (stays view) = record { events = []; few = omega arith; after = s; run = refl; view = view }
as_run net s u (moves e v step view) = record { events = e ∷ []; few = omega arith; after = v; run = (v, step, refl); view = view }
as_run net s u (enters_bound w out drawn v x first second view) =
    record { events = Enter w drawn ∷ Event.Route w out ∷ []; few = omega arith; after = x; run = (v, first, (x, second, refl)); view = view }

pub run_joined : (net : Net) (s u t : State) (es fs : List Event) → Run net s es u → Run net u fs t → Run net s (es ++ fs) t
run_joined net s u t [] fs h k = subst (λ x. Run net x fs t) h k
run_joined net s u t (e ∷ es) fs h k = (h.0, h.1, run_joined net h.0 u t es fs h.2 k)

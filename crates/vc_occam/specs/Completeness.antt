-- Traces and steps say the same: what a lawful process may communicate is what it makes by steps.
use Rattle.std.specs.Prelude.{◌≡◌, ℕ, List, [], ◌++◌}
use Rattle.vc_occam.specs.SiteActions.{SiteAction}
use Rattle.vc_occam.specs.NodeTraces.{so_far}
use Rattle.vc_occam.specs.Remains.{Done, begin}
use Rattle.vc_occam.specs.States.{State, StepsTo}
use Rattle.vc_occam.specs.Traces.{Comm, End, Open, Ended, Trace}
use Rattle.vc_process.specs.Lawful.{Lawfully}
use Rattle.vc_process.specs.Syntax.{Proc}
use Rattle.vc_process.specs.Values.{Store}

-- steps one after another, and all that they communicate
pub data Steps : State → List Comm → State → Type 0 where
  no_more : {s : State} → Steps s [] s
  one_more : {s t u : State} {i : ℕ} {d : SiteAction} {ks ls : List Comm} → StepsTo s i d ks t → Steps t ls u → Steps s (ks ++ ls) u

-- the process at first, with these variables
abbrev pub at_first : Proc → Store → State
at_first p e = record { rest = begin p; store = e }

-- where a trace has ended nothing remains, and the variables hold what it leaves
abbrev pub EndsAs : State → End → Type 0
EndsAs s Open = Unit {0}
EndsAs s (Ended f) = (s.rest ≡ Done) × (s.store ≡ f)

-- the steps that make a list of communications, to an end
pub record IsMadeBySteps (s : State) (ks : List Comm) (x : End) : Type 0 where
  pub last : State
  pub steps : Steps s ks last
  pub ends : EndsAs last x

-- each trace of a process that uses its channels and variables lawfully is made by steps
abbrev pub TracesAreMadeBySteps : Type 0
TracesAreMadeBySteps = (p : Proc) (e : Store) (ks : List Comm) (x : End) → Lawfully p → Trace p e ks x → IsMadeBySteps (at_first p e) ks x

-- and whatever its steps make is a trace of it: ended where nothing remains, and cut off where something does
abbrev pub StepsMakeTraces : Type 0
StepsMakeTraces = (p : Proc) (e : Store) (ks : List Comm) (s : State) → Lawfully p → Steps (at_first p e) ks s → Trace p e ks (so_far s.rest s.store)

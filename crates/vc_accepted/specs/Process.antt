-- An occam process as its node sees it: what remains of it, and the channels inside its node; and what it does.
use Rattle.std.specs.Prelude.{◌≡◌, List}
use Rattle.std.specs.List.{Contains}
use Rattle.vc_network.specs.Processes.{StepRelation}
use Rattle.vc_process.specs.ProcessStep.{Offers, Wants, Chooses, Stops, Meets, Rests, Finishes, Receives, ProcessStep}
use Rattle.vc_occam.specs.First.{first_moves}
use Rattle.vc_occam.specs.States.{State}
use Rattle.vc_occam.specs.States as occam
use Rattle.vc_occam.specs.Traces.{Comm}
use Rattle.vc_process.specs.Usage.{Set}
use Rattle.vc_occam.specs.declared.moves.Move.{Move}
use Rattle.vc_occam.specs.declared.moves.Move.TheVariants as move

pub record Process : Type 0 where
  pub inside : Set  -- the channels inside its node
  pub state : State

-- the move is one that it can begin with
abbrev pub Lists : Process → Move → Type 0
Lists p m = Contains (first_moves p.inside p.state.rest p.state.store) m

-- it does this at once
pub record Goes (old : Process) (d : ProcessStep) (new : Process) : Type 0 where
  pub comms : List Comm
  pub does : occam.Does old.state d comms new.state
  pub inside : new.inside ≡ old.inside

-- a move is made only where it is one of the first, and a site that waits goes on when its message comes or its output is finished
abbrev pub does : StepRelation Process
does old (Offers i c m) new = Lists old (move.Offer i c) × Goes old (Offers i c m) new
does old (Wants i c answer) new = Lists old (move.Want i c) × Goes old (Wants i c answer) new
does old (Chooses i k c answer) new = Lists old (move.Choose i k c) × Goes old (Chooses i k c answer) new
does old (Stops i c) new = Lists old (move.Stopch i c) × Goes old (Stops i c) new
does old (Meets i j k c m) new = Lists old (move.Inner i j k c) × Goes old (Meets i j k c m) new
does old (Rests i) new = Lists old (move.Quiet i) × Goes old (Rests i) new
does old (Finishes c) new = Goes old (Finishes c) new
does old (Receives c m) new = Goes old (Receives c m) new

-- one of its sites waits for this
abbrev pub Awaits : Process → occam.Waiting → Type 0
Awaits p w = Contains (occam.waiting p.state.rest) w

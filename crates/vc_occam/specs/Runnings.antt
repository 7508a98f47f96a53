-- The state that a running process is in.
use Rattle.std.specs.Prelude.{List}
use Rattle.vc_occam.specs.declared.running.Running.{Running}
use Rattle.vc_occam.specs.declared.moves.Move.{Move}
use Rattle.vc_occam.specs.Frames.{remains, view}
use Rattle.vc_occam.specs.First.{first_moves}
use Rattle.vc_process.specs.Syntax.{Proc}
use Rattle.vc_process.specs.Terms.{store}
use Rattle.vc_process.specs.Usage.{Set, among}
use Rattle.vc_occam.specs.States.{State}

-- what remains of it, and what its variables hold
unfoldable pub state : Running → State
state r = record { rest = remains r.task; store = store r.vars.items }

-- the process that was written
unfoldable pub process_of : Running → Proc
process_of r = (view r.task.frame).plan

-- the channels inside its node
unfoldable pub inner_channels : Running → Set
inner_channels r = among r.inside

-- the moves that it can begin with
abbrev pub moves : Running → List Move
moves r = first_moves (inner_channels r) (state r).rest (state r).store

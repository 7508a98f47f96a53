-- What a process means.
use Rattle.std.specs.Prelude.{ℕ, List, Result, Ok}
use Rattle.serde_json.specs.Data.{Data}
use Rattle.vc_process.specs.declared.condition.Cond.{Cond}
use Rattle.vc_process.specs.declared.process.Branch.{Branch}
use Rattle.vc_process.specs.declared.process.Guard.{Guard}
use Rattle.vc_process.specs.declared.process.Process.{Process}
use Rattle.vc_plan.specs.declared.channel.Channel.{Channel}
use Rattle.vc_plan.specs.declared.node_plan.Variable.{Variable}
use Rattle.vc_reader.specs.declared.fault.Fault.{Fault}
use Rattle.vc_reader.specs.declared.process.WholeProcess.{WholeProcess}
use Rattle.vc_reader.specs.Reading.{◌>>=◌, cell, row}
use Rattle.vc_reader.specs.Private.Reading.{beside}
use Rattle.vc_reader.specs.Bytes.{read_variable}
use Rattle.vc_reader.specs.Conditions.{whole_cond}
use Rattle.vc_reader.specs.Processes.{channel_named, read_branch, read_guard, read_process}

-- the condition at the head of a list of so many items
abbrev pub cond_first : ℕ → List Variable → Data → Result Cond Fault
cond_first wanted vars d = row wanted d >>= λ _. cell 0 (whole_cond vars) d

-- the channel of a guard's input, and the variable that takes what comes
abbrev pub read_input : List Variable → List Channel → Data → Result (ℕ × ℕ) Fault
read_input vars channels d = do
  chan ← cell 1 (channel_named channels) d
  var ← cell 2 (read_variable chan.1 vars) d
  Ok (chan.0, var)

-- what a guard has before its body
abbrev pub guard_head : List Variable → List Channel → Data → Result (Cond × (ℕ × ℕ)) Fault
guard_head vars channels d = cond_first 4 vars d >>= λ cond. beside cond (read_input vars channels d)

-- a process that nests no deeper than so many parts in one another, over the reader's variables and channels; a branch and a guard
-- whose bodies are such
abbrev pub part_by : WholeProcess → ℕ → Data → Result Process Fault
part_by r depth = read_process depth r.vars.now r.channels.now

abbrev pub branch_by : WholeProcess → ℕ → Data → Result Branch Fault
branch_by r depth = read_branch (part_by r depth) r.vars.now

abbrev pub guard_by : WholeProcess → ℕ → Data → Result Guard Fault
guard_by r depth = read_guard (part_by r depth) r.vars.now r.channels.now

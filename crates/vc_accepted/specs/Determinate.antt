-- Processes that use their channels and variables lawfully, and have sites of their own side by side: what such a process does leads
-- to one state.
use Rattle.vc_network.specs.Processes.{StepRelation, IsDeterminate}
use Rattle.vc_process.specs.ProcessStep.{ProcessStep}
use Rattle.vc_occam.specs.InUse.{UsesLawfully}
use Rattle.vc_occam.specs.Sites.{OwnSites}
use Rattle.vc_accepted.specs.Process.{Process, does}

pub record IsLawful (p : Process) : Type 0 where
  pub uses : UsesLawfully p.state.rest
  pub sites : OwnSites p.state.rest

-- what a lawful process does
abbrev pub proceeds : StepRelation Process
proceeds old d new = IsLawful old × does old d new

-- a step of a lawful process leads to one state, and the message that goes out by it is one
abbrev pub DeedsLeadToOneState : Type 0
DeedsLeadToOneState = IsDeterminate proceeds

-- whatever a lawful process does, it stays so
abbrev pub LawfulProcessesStaySo : Type 0
LawfulProcessesStaySo = (old new : Process) (d : ProcessStep) → proceeds old d new → IsLawful new

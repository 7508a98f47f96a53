-- What an exploration of a network file answers and writes.
use Rattle.std.specs.Prelude.{◌≡◌, ℕ, List, Option, Some, None, Result, Ok, Err}
use Rattle.std.specs.Io.KnownBytes.{Appends}
use Rattle.vc_explore.specs.Explored.{IsVerdict}
use Rattle.vc_explore.specs.declared.explored.Ends.TheVariants.{Always}
use Rattle.vc_explore.specs.declared.explored.Explored.{Explored}
use Rattle.vc_explore.specs.declared.explored.Verdict.{Verdict}
use Rattle.vc_explore.specs.declared.explored.Verdict.TheVariants.{NeverStuck, Stuck, NotStuckWithin}
use Rattle.vc_explore_text.specs.declared.finding.Finding.{Finding}
use Rattle.vc_explore_text.specs.declared.finding.Finding.TheVariants.{Free, MayStop, Open}
use Rattle.vc_explore_text.specs.ExploredJson.{explored_json}
use Rattle.vc_explore_text.specs.ExploredText.{explored_text}
use Rattle.vc_free.specs.NeverStuck.{NeverStops}
use Rattle.vc_meaning.specs.Endings.{AlwaysEnds}
use Rattle.vc_plan.specs.declared.plan.Plan.{Plan as Network}
use Rattle.vc_plan.specs.declared.port.Port.{Port}
use Rattle.vc_stats.specs.declared.form.Form.{Form}
use Rattle.vc_stats.specs.declared.form.Form.TheVariants.{Lines, Json}
use Rattle.vc_text.specs.declared.fault.RunFault.{RunFault}
use Rattle.vc_text.specs.declared.fault.RunFault.TheVariants.{Write}
use Rattle.vc_text.specs.CheckText.{ReadsAccepted}
use Rattle.vc_text.specs.Deadlock.{IsFound}
use Rattle.vc_text.specs.Streams.{AppendsFront}

-- what is known of the network's runs: a network whose wires have a cycle may stop by its wires
abbrev pub finding_of : Verdict → Option (List Port) → Finding
finding_of (Stuck schedule parts) cycle = MayStop
finding_of verdict (Some ports) = MayStop
finding_of (NeverStuck ends) None = Free
finding_of (NotStuckWithin n) None = Open

-- what was found, as lines or as JSON
abbrev pub text_in : Form → Network → Explored → Option (List Port) → List ℕ
text_in Lines plan explored cycle = explored_text plan explored cycle
text_in Json plan explored cycle = explored_json plan explored cycle

-- What was found is so. If the program is never stuck and the wires have no cycle, then of this network, wherever a run has come, if no
-- event can happen all processes have ended; and if each schedule ends too, no events of it go on for ever.
pub record IsExploration (plan : Network) (explored : Explored) (cycle : Option (List Port)) : Type 0 where
  pub verdict : IsVerdict plan explored.verdict
  pub wires : IsFound plan cycle
  pub never_stops : finding_of explored.verdict cycle ≡ Free → NeverStops plan
  pub always_ends : explored.verdict ≡ NeverStuck Always → cycle ≡ None → AlwaysEnds plan

-- The text of an accepted network was written, or a prefix of them before a fault of the writer; else nothing was. The answer is what
-- is known of its runs.
abbrev pub TellsExplored : Form → Option (List ℕ) → Option (List ℕ) → Option (List ℕ) → Result Finding RunFault → Type 0
TellsExplored form known old new (Ok finding) =
    (plan : Network) × (explored : Explored) × (cycle : Option (List Port)) × ReadsAccepted known (Ok plan) × IsExploration plan explored cycle
    × (finding ≡ finding_of explored.verdict cycle) × Appends old new (text_in form plan explored cycle)
TellsExplored form known old new (Err Write) =
    (plan : Network) × (explored : Explored) × (cycle : Option (List Port)) × ReadsAccepted known (Ok plan) × IsExploration plan explored cycle × AppendsFront old new (text_in form plan explored cycle)
TellsExplored form known old new (Err fault) = ReadsAccepted known (Err fault) × (new ≡ old)

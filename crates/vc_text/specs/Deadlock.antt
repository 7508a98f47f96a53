-- A cycle of dependencies along which packets of a network might wait for one another, as it is shown.
use Rattle.std.specs.Prelude.{◌≡◌, ℕ, Bool, List, ◌++◌, codes, Option, Some, None, is_none, Result, Ok, Err}
use Rattle.std.specs.Io.KnownBytes.{Appends}
use Rattle.std.specs.List.{flat_map}
use Rattle.vc_plan.specs.declared.plan.Plan.{Plan as Network}
use Rattle.vc_plan.specs.declared.port.Port.{Port}
use Rattle.vc_plan.specs.Dependencies.{HasRanks, IsLeastCycle}
use Rattle.vc_text.specs.declared.fault.RunFault.{RunFault}
use Rattle.vc_text.specs.declared.fault.RunFault.TheVariants.{Write}
use Rattle.vc_text.specs.CheckText.{ReadsAccepted}
use Rattle.vc_waits.specs.Ports.{port_text}
use Rattle.vc_text.specs.Streams.{AppendsFront}
use Rattle.vc_waits.specs.Waits.{newline}

-- a port behind a space
abbrev pub next_port : Network → Port → List ℕ
next_port plan p = codes " " ++ port_text plan p

-- ports, each behind a space
abbrev pub ports_text : Network → List Port → List ℕ
ports_text plan ports = flat_map (next_port plan) ports

-- the line of a cycle with these ports
abbrev pub cycle_text : Network → List Port → List ℕ
cycle_text plan ports = codes "cycle" ++ ports_text plan ports ++ newline

-- `free`, or `cycle` with the ports of a cycle
abbrev pub deadlock_text : Network → Option (List Port) → List ℕ
deadlock_text plan None = codes "free" ++ newline
deadlock_text plan (Some ports) = cycle_text plan ports

-- no cycle is found where the ports have ranks, and else the least one
abbrev pub IsFound : Network → Option (List Port) → Type 0
IsFound plan None = HasRanks plan
IsFound plan (Some ports) = IsLeastCycle plan ports

-- The line of an accepted network was written, or a front of it before a fault of the writer; else nothing was. The answer is whether
-- the network is free.
abbrev pub TellsDeadlock : Option (List ℕ) → Option (List ℕ) → Option (List ℕ) → Result Bool RunFault → Type 0
TellsDeadlock known old new (Ok free) =
    (plan : Network) × (found : Option (List Port)) × ReadsAccepted known (Ok plan) × IsFound plan found × (free ≡ is_none found) × Appends old new (deadlock_text plan found)
TellsDeadlock known old new (Err Write) =
    (plan : Network) × (found : Option (List Port)) × ReadsAccepted known (Ok plan) × IsFound plan found × AppendsFront old new (deadlock_text plan found)
TellsDeadlock known old new (Err fault) = ReadsAccepted known (Err fault) × (new ≡ old)

-- How the processes of a plan's nodes begin.
use Rattle.std.specs.Prelude.{ℕ, suc, Bool, false, ◌==◌, List, [], ◌∷◌, ◌++◌, get_or, if◌then◌else◌}
use Rattle.vc_occam.specs.Opening.{opening}
use Rattle.vc_process.specs.Usage.{among}
use Rattle.vc_process.specs.declared.process.Process.TheVariants.{Skip}
use Rattle.vc_plan.specs.declared.channel.Channel.{Channel}
use Rattle.vc_plan.specs.declared.channel.Home.{Home}
use Rattle.vc_plan.specs.declared.channel.Home.TheVariants.{Way, Inside}
use Rattle.vc_plan.specs.declared.node_plan.NodePlan.{NodePlan}
use Rattle.vc_plan.specs.declared.plan.Plan.{Plan}
use Rattle.vc_plan.specs.Limits.{kinds_of}
use Rattle.vc_accepted.specs.Process.{Process}

abbrev pub is_inside : ℕ → Home → Bool
is_inside n (Inside m) = m == n
is_inside n (Way v ab) = false

-- the numbers of those of these channels that are inside node n, where the first one has number c
abbrev pub numbers_inside : ℕ → ℕ → List Channel → List ℕ
numbers_inside n c [] = []
numbers_inside n c (x ∷ xs) = (if is_inside n x.home then c ∷ [] else []) ++ numbers_inside n (suc c) xs

-- a node past the list would end at once
abbrev pub no_node : NodePlan
no_node = record { name = []; vars = []; process = Skip }

abbrev pub node_plan : Plan → ℕ → NodePlan
node_plan p n = get_or p.nodes n no_node

-- the process of node n as it begins: whole, with its variables empty
abbrev pub begin_of : Plan → ℕ → Process
begin_of p n = record {
  inside = among (numbers_inside n 0 p.channels);
  state = opening (kinds_of (node_plan p n).vars) (node_plan p n).process;
}

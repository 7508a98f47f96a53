-- The plan of one node that runs all processes of another plan side by side: a PAR of them, each over variables of its own, with every
-- channel inside it (occam 2.1 Reference Manual, "Parallel": the parts of a PAR run together, and it ends when all have ended).
use Rattle.std.specs.Prelude.{◌≡◌, ℕ, suc, ◌+◌, ◌<◌, List, [], ◌∷◌, ◌++◌, length, map, nat_le, codes, Option, is_some, IfSome}
use Rattle.vc_process.specs.InOrder.{number}
use Rattle.vc_process.specs.declared.process.Process.{Process}
use Rattle.vc_process.specs.Numbering.{written, parts_from}
use Rattle.vc_process.specs.Renaming.{Renamed}
use Rattle.vc_process.specs.Syntax.{Proc, PAR, Procs, no_parts, part}
use Rattle.vc_plan.specs.Limits.{kinds_of}
use Rattle.vc_plan.specs.declared.channel.Channel.{Channel}
use Rattle.vc_plan.specs.declared.channel.Home.TheVariants.{Inside}
use Rattle.vc_plan.specs.declared.node_plan.NodePlan.{NodePlan}
use Rattle.vc_plan.specs.declared.node_plan.Variable.{Variable}
use Rattle.vc_plan.specs.declared.plan.Plan.{Plan}

-- the variables of all these nodes, node by node
abbrev pub all_vars : List NodePlan → List Variable
all_vars [] = []
all_vars (n ∷ ns) = n.vars ++ all_vars ns

-- the second process is the first, of a node with so many variables, with these numbered from the k-th on
abbrev pub IsBehind : ℕ → ℕ → Proc → Proc → Type 0
IsBehind k vars p q = (ρ : ℕ → ℕ) × ((v : ℕ) → v < vars → ρ v ≡ k + v) × Renamed ρ p q

-- the parts are the nodes' processes, each with its variables numbered behind those of the nodes before it
abbrev pub AreProcesses : ℕ → List NodePlan → Procs → Type 0
AreProcesses k [] no_parts = Unit {0}
AreProcesses k (n ∷ ns) (part q qs) = IsBehind k (length n.vars) (written n.process) q × AreProcesses (k + length n.vars) ns qs
AreProcesses k [] (part q qs) = ⊥
AreProcesses k (n ∷ ns) no_parts = ⊥

-- so they are where these processes are the parts of a PAR at site 0
abbrev pub AreTogether : List NodePlan → List Process → Type 0
AreTogether nodes parts = AreProcesses 0 nodes (parts_from 1 (map number parts))

-- one is a plan of one node, which runs all processes of p side by side
pub record IsOnOneNode (p one : Plan) : Type 0 where
  pub node : NodePlan
  pub nodes : one.nodes ≡ node ∷ []
  pub vars : kinds_of node.vars ≡ kinds_of (all_vars p.nodes)
  pub parts : Procs
  pub process : written node.process ≡ PAR 0 parts
  pub processes : AreProcesses 0 p.nodes parts

-- the channel inside that node
abbrev pub inside : Channel → Channel
inside c = record c { home = Inside 0 }

-- how many processes are written in all these nodes
abbrev pub all_sites : List NodePlan → ℕ
all_sites [] = 0
all_sites (n ∷ ns) = (number n.process).sites + all_sites ns

-- and it has nothing else: the node is named `all` and has the nodes' variables, its process is theirs and the PAR, the channels are the
-- same in the same order, inside the node, and there is no switch, no wire and no virtual link
pub record IsOneNodeOf (p one : Plan) : Type 0 where
  pub is : IsOnOneNode p one
  pub name : is.node.name ≡ codes "all"
  pub variables : is.node.vars ≡ all_vars p.nodes
  pub sites : (number is.node.process).sites ≡ suc (all_sites p.nodes)
  pub version : one.version ≡ 2
  pub switches : one.switches ≡ []
  pub wires : one.wires ≡ []
  pub vlinks : one.vlinks ≡ []
  pub channels : one.channels ≡ map inside p.channels

-- a plan of one node is made exactly where the nodes have at most 64 variables together, and it is the one node of p
abbrev pub IsTogether : Plan → Option Plan → Type 0
IsTogether p made =
    (is_some made ≡ nat_le (length (all_vars p.nodes)) 64) × IfSome made (λ one. IsOneNodeOf p one)

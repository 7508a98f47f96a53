-- That an actor of the code is one of a plan.
use Rattle.std.specs.Prelude.{◌≡◌, ◌≢◌, ◌↔◌, ℕ, ◌+◌, ◌<◌, true, List, [], IsSome}
use Rattle.vc_network.specs.Plan.{Plan, ends, body_limit, switch_plan}
use Rattle.vc_network.specs.Network.{IsInside}
use Rattle.vc_vcp.specs.Carrier.{Carrier}
use Rattle.vc_vcp.specs.Names.{named}
use Rattle.vc_vcp.specs.VcpView.{seen, ends_of}
use Rattle.vc_vcp.specs.State.{limit_of}
use Rattle.vc_switch.specs.State.{State as SwitchState, plan_of as plan_of_switch, limit_of as limit_of_switch}
use Rattle.vc_occam.specs.Runnings.{state}
use Rattle.vc_occam.specs.Sites.{OwnSites}
use Rattle.vc_occam.specs.States.{output, input}
use Rattle.vc_accepted.specs.Process.{Process, Awaits}
use Rattle.vc_actor.specs.ActorView.{process_of, Acting, OfNode, OfSwitch}
use Rattle.vc_actor.specs.declared.inside.Internal.{Internal}
use Rattle.vc_actor.specs.declared.node.Node.{Node}

-- a process waits wherever the halves of its channels count on it
pub record InStep (a : Carrier) (p : Process) : Type 0 where
  pub inputs : (c : ℕ) → (a.into c).wants ≡ true → (i : ℕ) × Awaits p (input i c)
  pub outputs : (c : ℕ) → (a.out c).unacked ≢ [] → (i : ℕ) × Awaits p (output i c)

-- these are the channels inside node k
abbrev pub AreInside : Plan → ℕ → List Internal → Type 0
AreInside plan k xs = (c : ℕ) → IsSome (named (λ x. x.chan) c xs) ↔ IsInside plan k c

-- the code's node is node k of the plan
pub record IsNodeOf (plan : Plan) (k : ℕ) (n : Node) : Type 0 where
  pub ends : ends_of n.vcp ≡ ends plan k
  pub limit : limit_of n.vcp.ins ≡ body_limit plan
  pub inside : AreInside plan k n.inside
  pub in_step : InStep (seen n.vcp).carrier (process_of n.process)
  pub own : OwnSites (state n.process).rest

-- the code's switch is switch i of the plan
pub record IsSwitchOf (plan : Plan) (i : ℕ) (s : SwitchState) : Type 0 where
  pub given : plan_of_switch s ≡ switch_plan plan i
  pub limit : limit_of_switch s.inputs ≡ body_limit plan

-- the code's actor is actor k of the plan: its nodes come first, then its switches
abbrev pub IsActorOf : Plan → ℕ → Acting → Type 0
IsActorOf plan k (OfNode n) = (k < plan.nodes) × IsNodeOf plan k n
IsActorOf plan k (OfSwitch s) = (i : ℕ) × (k ≡ plan.nodes + i) × IsSwitchOf plan i s

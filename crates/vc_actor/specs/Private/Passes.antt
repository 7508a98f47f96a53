-- A token that passes at a node.
use Rattle.std.specs.Prelude.{ℕ, Option, Some, None}
use Rattle.vc_occam.specs.States.{output, input}
use Rattle.vc_vcp.specs.Steps.{Taken, Held, Stored, Complete, More, Finished, Stray}
use Rattle.vc_network.specs.Network.{NodeStep, Pass}
use Rattle.vc_network.specs.Actors.Label.{Own}
use Rattle.vc_network.specs.Plan.{Plan}
use Rattle.vc_actor.specs.OfPlan.{IsNodeOf}
use Rattle.vc_accepted.specs.Process.{Process, Awaits, does}
use Rattle.vc_actor.specs.ActorView.{node_of}
use Rattle.vc_actor.specs.declared.node.Node.{Node}

-- a site of the process waits for what came whole, or was finished
abbrev pub IsAwaited : Process → Option Taken → Type 0
IsAwaited p (Some (Complete c m)) = (i : ℕ) × Awaits p (input i c)
IsAwaited p (Some (Finished c)) = (i : ℕ) × Awaits p (output i c)
IsAwaited p (Some (Held c)) = Unit {0}
IsAwaited p (Some (Stored c)) = Unit {0}
IsAwaited p (Some (More c)) = Unit {0}
IsAwaited p (Some Stray) = Unit {0}
IsAwaited p None = Unit {0}

-- a token passes, and the node stays one of the plan
pub record MakesPass (plan : Plan) (k : ℕ) (old : Node) (link : ℕ) (new : Node) : Type 0 where
  pub step : NodeStep plan does k (node_of old) (Own (Pass link)) (node_of new)
  pub kept : IsNodeOf plan k new

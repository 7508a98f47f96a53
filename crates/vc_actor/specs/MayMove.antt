-- When a node's process can make a move.
use Rattle.std.specs.Prelude.{◌≢◌, ◌⊎◌, ℕ, None, IsSome}
use Rattle.std.specs.List.{Contains}
use Rattle.vc_occam.specs.Runnings.{moves}
use Rattle.vc_occam.specs.declared.moves.Move.{Move}
use Rattle.vc_occam.specs.declared.moves.Move.TheVariants.{Offer, Want, Choose, Stopch, Inner, Quiet}
use Rattle.vc_vcp.specs.Names.{named}
use Rattle.vc_vcp.specs.VcpView.{seen}
use Rattle.vc_vcp.specs.State.{IsIdle, IsOpen, IsUnwanted}
use Rattle.vc_network.specs.Network.{Moves}
use Rattle.vc_network.specs.Plan.{Plan}
use Rattle.vc_actor.specs.Inside.{IsOpen as IsGoing}
use Rattle.vc_actor.specs.OfPlan.{IsNodeOf}
use Rattle.vc_accepted.specs.Process.{does}
use Rattle.vc_actor.specs.ActorView.{move_of, node_of}
use Rattle.vc_actor.specs.declared.node.Node.{Node}

-- the move's channel lets it be made: an output is idle, no input waits, a guard's piece is there, an output meets an input
abbrev pub AnswersMove : Node → Move → Type 0
AnswersMove n (Offer i c) = IsIdle n.vcp c
AnswersMove n (Want i c) = IsOpen n.vcp c
AnswersMove n (Choose i k c) = IsOpen n.vcp c × (((seen n.vcp).carrier.into c).held ≢ None)
AnswersMove n (Stopch i c) = IsUnwanted n.vcp c ⊎ IsSome (named (λ x. x.chan) c n.inside)
AnswersMove n (Inner i j k c) = IsGoing n.inside c
AnswersMove n (Quiet i) = Unit {0}

-- the process can begin with the move, and the channel lets it
pub record MayMove (n : Node) (m : Move) : Type 0 where
  pub listed : Contains (moves n.process) m
  pub answers : AnswersMove n m

-- the move is made, and the node stays one of the plan
pub record MakesMove (plan : Plan) (k : ℕ) (old : Node) (m : Move) (new : Node) : Type 0 where
  pub moves : Moves plan does k (node_of old) (move_of m) (node_of new)
  pub kept : IsNodeOf plan k new

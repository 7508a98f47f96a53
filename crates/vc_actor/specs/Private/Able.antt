-- Which moves of a node and which acts of an actor the definitions have a step for.
use Rattle.std.specs.Prelude.{◌⊎◌, ℕ, List, IsSome}
use Rattle.vc_occam.specs.declared.moves.Move.{Move}
use Rattle.vc_occam.specs.declared.moves.Move.TheVariants.{Offer, Want, Choose, Stopch, Inner, Quiet}
use Rattle.vc_vcp.specs.Able.{CanOffer, CanWant, CanFetch, CanStop}
use Rattle.vc_vcp.specs.Names.{named}
use Rattle.vc_vcp.specs.VcpView.{seen, ends_of}
use Rattle.vc_actor.specs.Inside.{IsOpen}
use Rattle.vc_actor.specs.declared.node.Node.{Node}

-- the half of the move's channel has such a step; inside the node the channel is there, and not stopped where something goes over it
abbrev pub HalfCan : Node → Move → Type 0
HalfCan n (Offer i c) = (m : List ℕ) → CanOffer (ends_of n.vcp) (seen n.vcp).carrier c m
HalfCan n (Want i c) = CanWant (ends_of n.vcp) (seen n.vcp).carrier c
HalfCan n (Choose i k c) = CanFetch (ends_of n.vcp) (seen n.vcp).carrier c
HalfCan n (Stopch i c) = CanStop (ends_of n.vcp) (seen n.vcp).carrier c ⊎ IsSome (named (λ x. x.chan) c n.inside)
HalfCan n (Inner i j k c) = IsOpen n.inside c
HalfCan n (Quiet i) = Unit {0}

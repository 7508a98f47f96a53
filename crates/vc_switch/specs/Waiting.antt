-- When a switch may bind a packet to an output and put its tokens: with the packet's mark, or as soon as its header is there
-- (wormhole routing, "Networks, Routers and Transputers", chapter 1).
use Rattle.std.specs.Prelude.{Option, Some, None}
use Rattle.vc_packets.specs.declared.mark.Mark.{Mark}

pub data Waiting : Type 0 where
  StoreAndForward : Waiting
  Wormhole : Waiting

abbrev pub MayGo : Waiting → Option Mark → Type 0
MayGo StoreAndForward None = ⊥
MayGo StoreAndForward (Some m) = Unit {0}
MayGo Wormhole mark = Unit {0}

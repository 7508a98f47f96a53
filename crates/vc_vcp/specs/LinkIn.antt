-- The receiving end of a node's link: the buffer under credit, and the bytes passed of the packet whose mark has not.
use Rattle.std.specs.Prelude.{ℕ, List}
use Rattle.vc_credit.specs.Ends.{Receiver}

pub record Receiving : Type 0 where
  pub receiver : Receiver
  pub passed : List ℕ
  pub limit : ℕ  -- of a packet's bytes

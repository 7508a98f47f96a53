-- What happens on a channel inside a node.
use Rattle.std.specs.Prelude.{◌≡◌, ℕ, false, List, Some}
use Rattle.vc_vcp.specs.Names.{named}
use Rattle.vc_actor.specs.declared.inside.Internal.{Internal}

-- the node has the channel, and it is not stopped
pub record IsOpen (xs : List Internal) (c : ℕ) : Type 0 where
  pub channel : Internal
  pub here : named (λ x. x.chan) c xs ≡ Some channel
  pub going : channel.stopped ≡ false

-- What the parts of a node's process are at that do not go on by themselves.
use Rattle.std.specs.Prelude.{ℕ, List, []}
use Rattle.vc_network.specs.Network.{Actor, IsNode, IsSwitch}
use Rattle.vc_occam.specs.BlockedParts.{blocked}
use Rattle.vc_occam.specs.declared.blocked.Blocked.{Blocked}
use Rattle.vc_accepted.specs.Process.{Process}
use Rattle.vc_core.specs.PossibleEvents.{NetworkState}

-- of an actor's process, if it is a node
abbrev pub blocked_of : Actor Process → List Blocked
blocked_of (IsNode a) = blocked a.process.state.rest a.process.state.store
blocked_of (IsSwitch s) = []

abbrev pub blocked_in : NetworkState → ℕ → List Blocked
blocked_in x n = blocked_of (x.state n)

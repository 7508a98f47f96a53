-- What stands at the links of a network: tokens on the wires, and credit and receive buffers at their ends.
use Rattle.std.specs.Prelude.{ℕ, Bool, true, false, suc, ◌*◌, ◌-◌, List, length, Option, slice_get}
use Rattle.vc_network.specs.Network.{Actor, IsNode, IsSwitch}
use Rattle.vc_tokens.specs.Tokens.{Token}
use Rattle.vc_accepted.specs.Process.{Process}
use Rattle.vc_core.specs.PossibleEvents.{NetworkState}

-- each wire is two ways: from its port one, and from its port two
abbrev pub way_of : ℕ → Bool → ℕ
way_of wire true = 2 * wire
way_of wire false = suc (2 * wire)

-- how many more tokens an actor may put on a link
abbrev pub credit_at : Actor Process → ℕ → ℕ
credit_at (IsNode a) link = (a.vcp.link link).sender.credit
credit_at (IsSwitch s) link = (s.output link).credit

abbrev pub credit_in : NetworkState → ℕ → ℕ → ℕ
credit_in x n link = credit_at (x.state n) link

-- the tokens in the receive buffer of an actor's link
abbrev pub buffer_at : Actor Process → ℕ → List Token
buffer_at (IsNode a) link = (a.vcp.link link).receiver.buffer
buffer_at (IsSwitch s) link = (s.input link).receiver.buffer

-- how many they are
abbrev pub buffered_in : NetworkState → ℕ → ℕ → ℕ
buffered_in x n link = length (buffer_at (x.state n) link)

-- the token at the end of a way, which was put last of those that stand there
abbrev pub last_of : List Token → Option Token
last_of way = slice_get way (length way - 1)

-- Whatever processes may do together, a free network does. What they may do is a list in which each message passes at one moment, as
-- on one transputer: each process's part is a trace of it, and each channel's part a run of the channel.
use Rattle.std.specs.Prelude.{◌≡◌, ℕ, ◌≤◌, ◌<◌, List, [], ◌++◌, length}
use Rattle.vc_machine.specs.Rendezvous.{View, DoesAll, nothing_yet}
use Rattle.vc_network.specs.Actors.{Network, ActBy}
use Rattle.vc_network.specs.Network.{Act, Node, Actor, IsNode, begins, HappenAll}
use Rattle.vc_network.specs.Views.{view}
use Rattle.vc_occam.specs.Completeness.{EndsAs}
use Rattle.vc_occam.specs.Traces.{End, Trace}
use Rattle.vc_placement.specs.Linearization.{Atomic, all_comms, AreFaithful}
use Rattle.vc_plan.specs.Accepted.{IsAccepted}
use Rattle.vc_plan.specs.Dependencies.{HasRanks}
use Rattle.vc_plan.specs.declared.plan.Plan.{Plan}
use Rattle.vc_process.specs.Numbering.{written}
use Rattle.vc_accepted.specs.Begin.{node_plan, begin_of}
use Rattle.vc_accepted.specs.NetworkOf.{network_of}
use Rattle.vc_accepted.specs.OneList.{by, on}
use Rattle.vc_accepted.specs.Process.{Process, does}
use Rattle.vc_switch.specs.Waiting.{Waiting}
use Rattle.vc_tokens.specs.Tokens.{Token}

-- Each node's part of hs is a trace of its process, to these ends, nobody else has a part, each message is got as it was sent, and each
-- channel's part leads to what is shown here.
pub record IsPossible (p : Plan) (ends : ℕ → End) (shown : ℕ → View) (hs : List Atomic) : Type 0 where
  pub by_node : (n : ℕ) → n < length p.nodes → Trace (written (node_plan p n).process) (begin_of p n).state.store (by n (all_comms hs)) (ends n)
  pub by_no_other : (n : ℕ) → length p.nodes ≤ n → by n (all_comms hs) ≡ []
  pub faithful : AreFaithful hs
  pub on_channel : (c : ℕ) → c < length p.channels → DoesAll nothing_yet (on c (all_comms hs)) (shown c)

-- each channel shows what the list leads to
abbrev pub ShowsAll : Plan → List Atomic → Network (Actor Process) Token → Type 0
ShowsAll p hs s = (c : ℕ) → c < length p.channels → DoesAll nothing_yet (on c (all_comms hs)) (view (network_of p) s c)

-- The network does the list in its order: for each prefix of the list, some prefix of the events leads to a state in which each channel
-- shows what the prefix of the list leads to.
abbrev pub KeepsOrder : Plan → Waiting → List Atomic → List (ActBy Act) → Type 0
KeepsOrder p waiting hs events =
    (before after : List Atomic) → hs ≡ before ++ after
    → (first rest : List (ActBy Act)) × (s : Network (Actor Process) Token) × (events ≡ first ++ rest)
    × HappenAll (network_of p) waiting does (begins (network_of p) (begin_of p)) first s × ShowsAll p before s

-- events of p's network, from its opening, that do the list in its order, to a state in which each channel shows this and each process has
-- ended as its trace has
pub record IsRun (p : Plan) (waiting : Waiting) (ends : ℕ → End) (shown : ℕ → View) (hs : List Atomic) : Type 0 where
  pub events : List (ActBy Act)
  pub end : Network (Actor Process) Token
  pub happen : HappenAll (network_of p) waiting does (begins (network_of p) (begin_of p)) events end
  pub order : KeepsOrder p waiting hs events
  pub on_channel : (c : ℕ) → c < length p.channels → view (network_of p) end c ≡ shown c
  pub by_node : (n : ℕ) → n < length p.nodes → (a : Node Process) × (end.state n ≡ IsNode a) × EndsAs a.process.state (ends n)

-- what the processes of an accepted plan may do, its network does, under either waiting rule, if its ports have ranks
abbrev pub FreeNetworksDoAll : Type 0
FreeNetworksDoAll =
    (p : Plan) (waiting : Waiting) (ends : ℕ → End) (shown : ℕ → View) (hs : List Atomic) → IsAccepted p → HasRanks p → IsPossible p ends shown hs → IsRun p waiting ends shown hs

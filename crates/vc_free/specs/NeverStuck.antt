-- A program that cannot get stuck, side by side on one transputer, gets stuck on no free placement.
use Rattle.std.specs.Prelude.{◌≡◌, ◌≢◌, ◌↔◌, ℕ, ◌≤◌, ◌<◌, List, [], length}
use Rattle.vc_accepted.specs.Begin.{begin_of}
use Rattle.vc_accepted.specs.NetworkOf.{network_of}
use Rattle.vc_accepted.specs.OneList.{by, on}
use Rattle.vc_accepted.specs.Process.{Process, does}
use Rattle.vc_free.specs.Placements.{IsOtherPlacement}
use Rattle.vc_free.specs.Rest.{NothingGoesOn, StepsAtOnce}
use Rattle.vc_machine.specs.Rendezvous.{View, DoesAll, nothing_yet}
use Rattle.vc_network.specs.Actors.{Network, ActBy}
use Rattle.vc_network.specs.EnabledEvents.{IsEnabled}
use Rattle.vc_network.specs.Network.{Act, Node, Actor, IsNode, begins, HappenAll}
use Rattle.vc_network.specs.Views.{view}
use Rattle.vc_occam.specs.Remains.{Done}
use Rattle.vc_occam.specs.States.{State}
use Rattle.vc_placement.specs.Linearization.{Atomic, all_comms, AreFaithful}
use Rattle.vc_placement.specs.OneNode.{HaveEnded}
use Rattle.vc_plan.specs.Accepted.{IsAccepted}
use Rattle.vc_plan.specs.Dependencies.{HasRanks}
use Rattle.vc_plan.specs.declared.plan.Plan.{Plan}
use Rattle.vc_program.specs.Program as program
use Rattle.vc_program.specs.Program.{Program, Reaches, IsQuiet}
use Rattle.vc_switch.specs.Waiting.{Waiting}
use Rattle.vc_tokens.specs.Tokens.{Token}

-- The processes of the plan's nodes, side by side over channels that hold nothing, come to these states by these communications, each
-- message at one moment, and the channels show this then.
pub record ComesTo (p : Plan) (hs : List Atomic) (stands : ℕ → State) (shown : ℕ → View) : Type 0 where
  pub made : (n : ℕ) → n < length p.nodes → StepsAtOnce (begin_of p n).state (by n (all_comms hs)) (stands n)
  pub by_no_other : (n : ℕ) → length p.nodes ≤ n → by n (all_comms hs) ≡ []
  pub faithful : AreFaithful hs
  pub on_channel : (c : ℕ) → c < length p.channels → DoesAll nothing_yet (on c (all_comms hs)) (shown c)

-- they come to states in which nothing goes on, and some process has not ended
pub record GetsStuck (p : Plan) (hs : List Atomic) : Type 0 where
  pub stands : ℕ → State
  pub shown : ℕ → View
  pub comes : ComesTo p hs stands shown
  pub rest : NothingGoesOn (length p.nodes) stands (λ c. (shown c).stopped)
  pub waits : (n : ℕ) × (n < length p.nodes) × ((stands n).rest ≢ Done)

-- whatever the processes communicate, they do not get stuck
abbrev pub NeverStuck : Plan → Type 0
NeverStuck p = (hs : List Atomic) → GetsStuck p hs → ⊥

-- a schedule of the program leads to these states, with the channels stopped and the messages passed that are shown
pub record IsScheduled (p : Plan) (stands : ℕ → State) (shown : ℕ → View) : Type 0 where
  pub moves : List program.Move
  pub state : Program
  pub reaches : Reaches p moves state
  pub parts : (n : ℕ) → n < length p.nodes → state.part n ≡ stands n
  pub stopped : (c : ℕ) → c < length p.channels → state.stopped c ≡ (shown c).stopped
  pub passed : (c : ℕ) → c < length p.channels → state.passed c ≡ (shown c).taken

-- what the processes of an accepted plan come to by a list of communications, a schedule of its program comes to by its moves
abbrev pub ListsAreSchedules : Type 0
ListsAreSchedules = (p : Plan) (hs : List Atomic) (stands : ℕ → State) (shown : ℕ → View) → IsAccepted p → ComesTo p hs stands shown → IsScheduled p stands shown

-- what a channel of the program shows: each message that passed was offered, taken and finished
abbrev pub shown_by : Program → ℕ → View
shown_by s c = record { offered = s.passed c; taken = s.passed c; finished = length (s.passed c); stopped = s.stopped c }

-- and what a schedule leads to, they come to by a list of communications
abbrev pub SchedulesAreLists : Type 0
SchedulesAreLists = (p : Plan) (ms : List program.Move) (s : Program) → IsAccepted p → Reaches p ms s → (hs : List Atomic) × ComesTo p hs s.part (shown_by s)

-- so the program of an accepted plan is never stuck by lists of communications exactly if no schedule of its moves gets stuck
abbrev pub ProgramAndListsAgree : Type 0
ProgramAndListsAgree = (p : Plan) → IsAccepted p → NeverStuck p ↔ program.NeverStuck p

-- no event can happen
abbrev pub IsAtRest : Plan → Waiting → Network (Actor Process) Token → Type 0
IsAtRest p waiting s = (e : ActBy Act) → IsEnabled (network_of p) waiting does s e → ⊥

-- Where the program of a plan never gets stuck, and no event can happen any more on the network of an accepted placement of it whose ports
-- have ranks, after any events and under either waiting rule, all its processes have ended.
abbrev pub NeverStuckAnywhere : Type 0
NeverStuckAnywhere =
    (p q : Plan) (waiting : Waiting) (es : List (ActBy Act)) (s : Network (Actor Process) Token) → NeverStuck p → IsOtherPlacement p q → IsAccepted q → HasRanks q
    → HappenAll (network_of q) waiting does (begins (network_of q) (begin_of q)) es s → IsAtRest q waiting s → HaveEnded q s

-- wherever a run of the plan's network has come, under either waiting rule, if no event can happen all processes have ended
abbrev pub NeverStops : Plan → Type 0
NeverStops p =
    (waiting : Waiting) (es : List (ActBy Act)) (s : Network (Actor Process) Token) → HappenAll (network_of p) waiting does (begins (network_of p) (begin_of p)) es s → IsAtRest p waiting s
    → HaveEnded p s

-- so it is of an accepted placement whose ports have ranks where no schedule of the program of an accepted plan gets stuck
abbrev pub FreePlacementsNeverStop : Type 0
FreePlacementsNeverStop = (p q : Plan) → IsAccepted p → program.NeverStuck p → IsOtherPlacement p q → IsAccepted q → HasRanks q → NeverStops q

-- A schedule of the program leads to a state in which no move can be made. The messages that passed by it are those that are taken on the
-- network, the same channels are stopped, and the same processes have ended.
pub record IsOutcome (p : Plan) (s : Network (Actor Process) Token) : Type 0 where
  pub moves : List program.Move
  pub state : Program
  pub reaches : Reaches p moves state
  pub quiet : IsQuiet p state
  pub passed : (c : ℕ) → c < length p.channels → state.passed c ≡ (view (network_of p) s c).taken
  pub stopped : (c : ℕ) → c < length p.channels → state.stopped c ≡ (view (network_of p) s c).stopped
  pub ended : (n : ℕ) → n < length p.nodes → (a : Node Process) → s.state n ≡ IsNode a → ((state.part n).rest ≡ Done) ↔ (a.process.state.rest ≡ Done)

-- so it is where no event can happen any more on the network of an accepted plan whose ports have ranks, under either waiting rule
abbrev pub QuietNetworksAreOutcomes : Type 0
QuietNetworksAreOutcomes =
    (p : Plan) (waiting : Waiting) (es : List (ActBy Act)) (s : Network (Actor Process) Token) → IsAccepted p → HasRanks p
    → HappenAll (network_of p) waiting does (begins (network_of p) (begin_of p)) es s → IsAtRest p waiting s → IsOutcome p s

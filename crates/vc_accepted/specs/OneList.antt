-- One list of all nodes' communications, in occam's words.
use Rattle.std.specs.Prelude.{◌≡◌, ℕ, ◌≤◌, ◌<◌, ◌==◌, List, [], ◌∷◌, ◌++◌, length, map, if◌then◌else◌}
use Rattle.vc_network.specs.Actors.{Network, ActBy, Alike}
use Rattle.vc_machine.specs.Rendezvous as rendezvous
use Rattle.vc_machine.specs.Rendezvous.{DoesAll, part, nothing_yet}
use Rattle.vc_network.specs.Network.{Act, Node, Actor, IsNode, begins, Happens, HappenAll}
use Rattle.vc_network.specs.Views.{view}
use Rattle.vc_process.specs.Messages.{message}
use Rattle.vc_occam.specs.NodeTraces.{NodeTrace, so_far}
use Rattle.vc_process.specs.Numbering.{written}
use Rattle.vc_occam.specs.States.{State}
use Rattle.vc_occam.specs.Traces.{Comm, Out, In, Fin, Stp}
use Rattle.vc_plan.specs.declared.plan.Plan.{Plan}
use Rattle.vc_plan.specs.Accepted.{IsAccepted}
use Rattle.vc_accepted.specs.NetworkOf.{network_of}
use Rattle.vc_switch.specs.Waiting.{Waiting}
use Rattle.vc_tokens.specs.Tokens.{Token}
use Rattle.vc_accepted.specs.Begin.{node_plan, begin_of}
use Rattle.vc_accepted.specs.Process.{Process, does}

-- node n's part of a list of communications, each with the node that makes it
abbrev pub by : ℕ → List (ℕ × Comm) → List Comm
by n [] = []
by n ((m, k) ∷ ks) = if m == n then k ∷ by n ks else by n ks

-- what a communication is to its channel: an output offers its message, and an input takes one that gives what it got
abbrev pub to_channel : Comm → ℕ × rendezvous.Comm
to_channel (Out c x) = (c, rendezvous.Out (message x))
to_channel (In c x) = (c, rendezvous.In (message x))
to_channel (Fin c) = (c, rendezvous.Fin)
to_channel (Stp c) = (c, rendezvous.Stp)

-- channel c's part of the list
abbrev pub on : ℕ → List (ℕ × Comm) → List rendezvous.Comm
on c ks = part c (map (λ k. to_channel k.1) ks)

-- so far, node n may make this list by its process, from the process as the plan has it and its empty variables on
abbrev pub IsMadeBy : Plan → ℕ → List Comm → State → Type 0
IsMadeBy p n ks s = NodeTrace (begin_of p n).inside (written (node_plan p n).process) (begin_of p n).state.store ks (so_far s.rest s.store)

-- the one list: each node's part is a trace of its process, and each channel's part is a run of the channel to what it shows
pub record IsTold (p : Plan) (s : Network (Actor Process) Token) (ks : List (ℕ × Comm)) : Type 0 where
  pub by_node : (n : ℕ) → n < length p.nodes → (a : Node Process) × (s.state n ≡ IsNode a) × IsMadeBy p n (by n ks) a.process.state
  pub by_no_other : (n : ℕ) → length p.nodes ≤ n → by n ks ≡ []
  pub on_channel : (c : ℕ) → DoesAll nothing_yet (on c ks) (view (network_of p) s c)

-- from one state on the events happen one after another, and lead from what was told there to a whole list: before each event and after the
-- last one the list so far tells all, and what an event tells stands behind it
abbrev pub IsToldAlong : Plan → Waiting → List (ℕ × Comm) → Network (Actor Process) Token → List (ActBy Act) → Network (Actor Process) Token → List (ℕ × Comm) → Type 0
IsToldAlong p waiting ks s [] t whole = IsTold p s ks × Alike s t × (ks ≡ whole)
IsToldAlong p waiting ks s (e ∷ es) t whole =
    IsTold p s ks × ((mid : Network (Actor Process) Token) × Happens (network_of p) waiting does s e mid × ((more : List (ℕ × Comm)) × IsToldAlong p waiting (ks ++ more) mid es t whole))

-- from the opening state on, where nothing was told
abbrev pub FollowsEvents : Plan → Waiting → List (ActBy Act) → Network (Actor Process) Token → List (ℕ × Comm) → Type 0
FollowsEvents p waiting es s ks = IsToldAlong p waiting [] (begins (network_of p) (begin_of p)) es s ks

-- after any events of an accepted plan's network there is one list that tells all and follows the events
abbrev pub AllIsTold : Type 0
AllIsTold =
    (p : Plan) (waiting : Waiting) (es : List (ActBy Act)) (s : Network (Actor Process) Token) → IsAccepted p →
    HappenAll (network_of p) waiting does (begins (network_of p) (begin_of p)) es s → (ks : List (ℕ × Comm)) × IsTold p s ks × FollowsEvents p waiting es s ks

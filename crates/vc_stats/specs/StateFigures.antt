-- The states of a run, and figures of them.
use Rattle.std.specs.Prelude.{◌≡◌, ℕ, suc, ◌*◌, ◌==◌, nat_lt, Bool, List, [], ◌∷◌, length, map, max, count_by}
use Rattle.std.specs.List.{range_with_len}
use Rattle.vc_accepted.specs.Begin.{begin_of}
use Rattle.vc_accepted.specs.NetworkOf.{network_of}
use Rattle.vc_accepted.specs.Process.{does}
use Rattle.vc_core.specs.PossibleEvents.{NetworkState}
use Rattle.vc_core.specs.Links.{buffered_in}
use Rattle.vc_core.specs.State.{event_of}
use Rattle.vc_core.specs.declared.event.Event.{Event}
use Rattle.vc_machine.specs.Rendezvous.{View}
use Rattle.vc_network.specs.Network.{Happens, actor_at, begins}
use Rattle.vc_network.specs.Plan.{far}
use Rattle.vc_network.specs.Views.{view}
use Rattle.vc_plan.specs.declared.plan.Plan.{Plan}
use Rattle.vc_switch.specs.Waiting.{Wormhole}
use Rattle.vc_stats.specs.Packets.{is_ack, link_at, packets_on}
use Rattle.vc_stats.specs.declared.state_figures.WayFigures.{WayFigures}

-- ---- the states

-- the events lead from state x to one of these states after the other, and the last is y
abbrev pub LeadThrough : Plan → NetworkState → List Event → List NetworkState → NetworkState → Type 0
LeadThrough p x [] [] y = y ≡ x
LeadThrough p x (e ∷ es) (z ∷ zs) y = Happens (network_of p) Wormhole does x (event_of e) z × LeadThrough p z es zs y
LeadThrough p x _ _ y = ⊥

-- a run of these events from the opening state on visits these states, one after each event, and ends in state y
abbrev pub Visits : Plan → List Event → List NetworkState → NetworkState → Type 0
Visits p = LeadThrough p (begins (network_of p) (begin_of p))

-- ---- figures of them

-- an output on a channel with this view is not finished
abbrev pub is_open : View → Bool
is_open v = length v.offered == suc v.finished

abbrev pub is_unfinished : Plan → ℕ → NetworkState → Bool
is_unfinished p chan x = is_open (view (network_of p) x chan)

-- in how many of the states an output on the channel is not finished
abbrev pub unfinished_in : Plan → List NetworkState → ℕ → ℕ
unfinished_in p xs chan = count_by (is_unfinished p chan) xs

-- how many tokens stand on a way; way 2 n goes from port one to port two of wire n, and way 2 n + 1 back
abbrev pub tokens_on : ℕ → NetworkState → ℕ
tokens_on way x = length (x.way way)

-- how many tokens stand in the receive buffer at the end of a way
abbrev pub buffered_at : Plan → ℕ → NetworkState → ℕ
buffered_at p way x = buffered_in x (actor_at (network_of p) (far (network_of p) way)) (link_at (far (network_of p) way))

-- the greatest of the numbers that f has in the states; where there is no state it is 0
abbrev pub greatest : {X : Type 0} → (X → ℕ) → List X → ℕ
greatest f [] = 0
greatest f (x ∷ xs) = max (f x) (greatest f xs)

-- in how many of the states f has another number than 0
abbrev pub count_some : {X : Type 0} → (X → ℕ) → List X → ℕ
count_some f xs = count_by (λ x. nat_lt 0 (f x)) xs

-- of a way: the packets that were put whole on it, and how many of them are acknowledges; the most tokens that stand on it, the most that
-- stand in the buffer at its end, and how often one stands there
abbrev pub way_figures : Plan → List Event → List NetworkState → ℕ → WayFigures
way_figures p es xs way = record {
  packets = length (packets_on p es xs way);
  acks = count_by is_ack (packets_on p es xs way);
  most = greatest (tokens_on way) xs;
  buffered = greatest (buffered_at p way) xs;
  waited = count_some (buffered_at p way) xs;
}

-- the figures of a run that its states tell: a number for each channel, and some for each way
pub record Figures : Type 0 where
  pub unfinished : List ℕ
  pub ways : List WayFigures

abbrev pub figures_of : Plan → List Event → List NetworkState → Figures
figures_of p es xs = record {
  unfinished = map (unfinished_in p xs) (range_with_len 0 (length p.channels));
  ways = map (way_figures p es xs) (range_with_len 0 (2 * length p.wires));
}

-- none, where the states are not known
abbrev pub no_figures : Figures
no_figures = record { unfinished = []; ways = [] }

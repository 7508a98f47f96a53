-- A free network delivers by itself: as long as a token can move, it does, and there is a bound on how often.
use Rattle.std.proofs.Common.{◌≡◌, ◌⊎◌, ℕ, zero, suc, ◌<◌, ◌≤◌, inl, inr, [], ◌∷◌, length, refl, sym, subst, arith}
use Rattle.std.proofs.lemmas.List.{length-map}
use Rattle.vc_accepted.proofs.AcceptedNetwork.{accepted}
use Rattle.vc_accepted.proofs.Ranks.{ranked}
use Rattle.vc_accepted.specs.Begin.{begin_of}
use Rattle.vc_accepted.specs.NetworkOf.{network_of, home_in}
use Rattle.vc_accepted.specs.Process.{Process, does}
use Rattle.vc_free.proofs.Held.{all_held, ways_empty, held_unasked, asked_through}
use Rattle.vc_free.proofs.TokenEvents.{Moved, lifted}
use Rattle.vc_free.proofs.Places.{Arrived, happened, arrived}
use Rattle.vc_free.specs.Delivery.{HasDelivered, Delivers, FreeNetworksDeliver}
use Rattle.vc_machine.proofs.Progress.{IsAtRest, Progress, goes_on}
use Rattle.vc_machine.proofs.Standing.{Standing, stands}
use Rattle.vc_machine.specs.Dependencies as ways_ranks
use Rattle.vc_machine.specs.Paths.{Net}
use Rattle.vc_machine.specs.Still.{IsStill, IsClear}
use Rattle.vc_machine.specs.TokenMachine.{TokenRun}
use Rattle.vc_network.proofs.Backs.{back_real}
use Rattle.vc_network.proofs.Descent.{ends}
use Rattle.vc_network.proofs.PacketSizes.{has_headers}
use Rattle.vc_network.proofs.Nexts.{next}
use Rattle.vc_network.proofs.TokenViews.{wires}
use Rattle.vc_network.proofs.Wiring.{net_accepted}
use Rattle.vc_network.specs.Actors.{Network, ActBy}
use Rattle.vc_network.specs.EnabledEvents.{IsEnabled}
use Rattle.vc_network.specs.Network.{Act, Actor}
use Rattle.vc_network.specs.Plan as network
use Rattle.vc_network.specs.Plan.{back, net_of, ways}
use Rattle.vc_network.specs.Still.{IsNoMove, BoundsRuns}
use Rattle.vc_plan.specs.Accepted.{IsAccepted}
use Rattle.vc_plan.specs.Dependencies.{HasRanks}
use Rattle.vc_plan.specs.declared.plan.Plan.{Plan}
use Rattle.vc_switch.specs.Waiting.{Waiting}
use Rattle.vc_tokens.specs.Tokens.{Token}

module _ (p : Plan) (waiting : Waiting) (acc : IsAccepted p) (ranks : HasRanks p) where
  abbrev plan : network.Plan
  plan = network_of p

  abbrev ways_net : Net
  ways_net = net_of plan

  abbrev State : Type 0
  State = Network (Actor Process) Token

  ok : network.IsAccepted plan
  ok = accepted p acc

  ways_ranked : ways_ranks.HasRanks ways_net
  ways_ranked = ranked p acc ranks

  standing : (s : State) (a : Arrived p waiting s) → Standing ways_net back waiting plan.headers a.tokens
  standing s a = stands ways_net back waiting plan.headers (net_accepted plan ok) (has_headers plan ok) (wires plan) a.events a.tokens a.run

  -- a token that can move is an event, and where none can there is no event without a move
  found : (s : State) (a : Arrived p waiting s) → Progress ways_net back waiting a.tokens ⊎ IsAtRest ways_net back waiting a.tokens
  found s a = goes_on ways_net back waiting plan.headers a.tokens (net_accepted plan ok) ways_ranked (λ v h. back_real plan v h) (standing s a)

  no_event : (s : State) (a : Arrived p waiting s) → IsStill ways_net back waiting a.tokens → (e : ActBy Act) → IsNoMove e.act → IsEnabled plan waiting does s e → ⊥
  no_event s a still e none (u, h) =
      let x = next plan waiting does ok s u a.tokens e.actor h.0 a.good h.2 in
      let m = x.moves (subst IsNoMove (sym h.1) none) in
      let r : TokenRun ways_net back waiting a.tokens (m.0 ∷ []) x.new = subst (λ z. TokenRun ways_net back waiting a.tokens z x.new) m.1 x.run in
      still m.0 r.0 m.2 r.1

  delivered : (s : State) (a : Arrived p waiting s) → IsAtRest ways_net back waiting a.tokens → HasDelivered p waiting s
  delivered s a rest =
      let clear : (w : ℕ) → w < ways plan → IsClear ways_net a.tokens w = rest.clear in
      record {
        still = no_event s a rest.still;
        held = record { packets = all_held p acc s a.tokens a.good clear; ways = ways_empty p acc s a.tokens a.good clear };
        asked = λ c v ab at less. asked_through p acc s a.tokens a.good clear c v ab at (subst (λ n. c < n) same_channels less);
        unasked = λ c v ab at less. held_unasked p acc s a.tokens a.good clear c v ab at (subst (λ n. c < n) same_channels less);
      }
    where
      same_channels : length p.channels ≡ length plan.channels
      same_channels = sym (length-map p.channels home_in)

  -- one event more
  first_event : (s : State) (m : Moved p waiting s) → Delivers p waiting m.new → Delivers p waiting s
  first_event s m d = record {
    events = m.event ∷ d.events;
    end = d.end;
    no_moves = (m.no_move, d.no_moves);
    happen = (m.new, m.happens, d.happen);
    delivered = d.delivered;
  }

  goes : (bound : ℕ) (s : State) (a : Arrived p waiting s) → BoundsRuns plan waiting does s bound → Progress ways_net back waiting a.tokens ⊎ IsAtRest ways_net back waiting a.tokens → Delivers p waiting s
  goes bound s a few (inr rest) = record { events = []; end = s; no_moves = tt; happen = record { states = λ n. refl; ways = λ w. refl }; delivered = delivered s a rest }
  goes zero s a few (inl x) =
      let m = lifted p acc waiting s a.tokens a.good a.placed x.event x.new x.moves x.step in
      absurd (let k : 1 ≤ 0 = few (m.event ∷ []) m.new (m.no_move, tt) (m.new, m.happens, record { states = λ n. refl; ways = λ w. refl }) in omega arith)
  goes (suc bound) s a few (inl x) =
      let m = lifted p acc waiting s a.tokens a.good a.placed x.event x.new x.moves x.step in
      let b = happened p waiting acc s m.new m.event a m.happens in
      first_event s m (goes bound m.new b
      (λ later u none more. (let k : suc (length later) ≤ suc bound = few (m.event ∷ later) u (m.no_move, none) (m.new, m.happens, more) in omega arith))
      (found m.new b))

pub delivers : FreeNetworksDeliver
delivers p waiting es s acc ranks happen =
    let few = ends (network_of p) waiting does (begin_of p) es s (accepted p acc) (ranked p acc ranks) happen in
    let a = arrived p waiting acc es s happen in
    goes p waiting acc ranks few.0 s a few.1 (found p waiting acc ranks s a)

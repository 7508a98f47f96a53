-- The actors' runs fit on the network's ways, so that their acts lead to the state that they left.
use Rattle.std.proofs.Common.{◌≡◌, ℕ, ◌+◌, ◌*◌, ◌/◌, ◌%◌, ◌<◌, ◌≤◌, Bool, true, false, not, ◌&&◌, if◌then◌else◌, ◌==◌, List, [], ◌∷◌, ◌++◌, length, map, slice_get, Some, refl, sym, ap, subst, ◌∙◌, inl, inr, arith, eq-eqb, eqb-true, ◌≢◌}
use mathlib.Core.Path.{fun_ext}
use Rattle.std.specs.List.{AllByRecursion}
use Rattle.std.proofs.lemmas.Bool.{cases_lt, eqb-false}
use Rattle.std.proofs.lemmas.List.{map-append}
use Rattle.std.proofs.lemmas.Option.{slice_get_within}
use Rattle.vc_accepted.specs.NetworkOf.{network_of, wire_of}
use Rattle.vc_accepted.specs.NetworkOf as to
use Rattle.vc_accepted.specs.ActorWays.{actor_of, link_port}
use Rattle.vc_accepted.proofs.AcceptedNetwork.{accepted}
use Rattle.vc_accepted.proofs.Across.{wire_is}
use Rattle.vc_accepted.proofs.Elements.{there}
use Rattle.vc_accepted.proofs.Ports.{side_of}
use Rattle.vc_accepted.proofs.WayPorts.{link_is_at, wired}
use Rattle.vc_network.specs.Actors.{Label, act_of}
use Rattle.vc_network.specs.Actors.Label.{Own}
use Rattle.vc_network.specs.LocalRun.{Stamped, Turn, LocalRun, all_put, all_taken, items, restamped}
use Rattle.vc_network.specs.Merge.{Made, part, NotAfter, IsOrdered, IsMerge}
use Rattle.vc_network.specs.Private.Merge.{remade}
use Rattle.vc_core.specs.Replay.{Replays}
use Rattle.vc_actor.specs.ActorView.{actor_of as net_actor, act_of as code_act}
use Rattle.vc_core.specs.State.{State, shown, IsNetworkOf}
use Rattle.vc_core.specs.State as core
use Rattle.vc_core.proofs.ReplayRuns.{replays}
use Rattle.vc_actor.specs.Turns.{actors}
use Rattle.vc_actor.specs.declared.act.Act.{Act}
use Rattle.vc_core.specs.declared.event.Event.{Event}
use Rattle.vc_network.specs.Network.{Actor, Local, first, begins, actor_at}
use Rattle.vc_network.specs.Network as net
use Rattle.vc_network.specs.Plan.{ways, near, far}
use Rattle.vc_network.specs.Plan as network
use Rattle.vc_network.specs.Threads.{AreThreads, ended, made_by, source, sink}
use Rattle.vc_network.proofs.Threads.{threads_headline}
use Rattle.vc_plan.specs.Accepted.{IsAccepted, port_of}
use Rattle.vc_plan.specs.declared.plan.Plan.{Plan}
use Rattle.vc_plan.specs.declared.port.Spot.{Spot}
use Rattle.vc_plan.specs.declared.port.Spot.TheVariants.{Node, Switch}
use Rattle.vc_plan.specs.declared.port.Wire.{Wire}
use Rattle.vc_switch.specs.Waiting.{Wormhole}
use Rattle.vc_accepted.specs.Begin.{begin_of}
use Rattle.vc_accepted.specs.Process.{Process, does}
use Rattle.vc_tokens.specs.CodeTokens.{token}
use Rattle.vc_tokens.specs.Tokens as tokens
use Rattle.vc_tokens.specs.declared.token.Token.{Token}
use Rattle.vc_threads.specs.MergedRuns.{made_event}
use Rattle.vc_threads.specs.Order.{OnWays}
use Rattle.vc_threads.specs.Threads.{IsOverWires, IsRunOf, TakesInOrder}
use Rattle.vc_threads.specs.declared.run.Stop.{Stop}
use Rattle.vc_threads.proofs.ByWays.{item_by, label_by, turn_by, all_put_by, all_taken_by, none_put_by, none_taken_by, run_by}

-- A merge stays one where each act is said in other words.
module _ {A B : Type 0} (f : A → B) where
  part_of : (k : ℕ) (ms : List (Made A)) → part k (map (remade f) ms) ≡ map (restamped f) (part k ms)
  part_of k [] = refl
  part_of k (m ∷ ms) = by_test (m.actor == k) (part_of k ms)
    where
      by_test : (b : Bool) → part k (map (remade f) ms) ≡ map (restamped f) (part k ms)
          → (if b then restamped f m.act ∷ part k (map (remade f) ms) else part k (map (remade f) ms)) ≡ map (restamped f) (if b then m.act ∷ part k ms else part k ms)
      by_test true e = ap (λ xs. restamped f m.act ∷ xs) e
      by_test false e = e

  not_after : (m : Made A) (ms : List (Made A)) → AllByRecursion (NotAfter m) ms → AllByRecursion (NotAfter (remade f m)) (map (remade f) ms)
  not_after m [] h = tt
  not_after m (n ∷ ns) h = (h.0, not_after m ns h.1)

  ordered : (ms : List (Made A)) → IsOrdered ms → IsOrdered (map (remade f) ms)
  ordered [] o = tt
  ordered (m ∷ ms) o = (not_after m ms o.0, ordered ms o.1)

  merge_of : (runs : ℕ → List (Stamped A)) (ms : List (Made A)) → IsMerge runs ms → IsMerge (λ k. map (restamped f) (runs k)) (map (remade f) ms)
  merge_of runs ms m = record { ordered = ordered ms m.ordered; parts = λ k. part_of k ms ∙ ap (map (restamped f)) (m.parts k) }

-- the actor at a port of the plan
port_actor : (p : Plan) (s : Spot) (l : ℕ) → actor_at (network_of p) (to.port_at s l) ≡ actor_of (length p.nodes) s
port_actor p (Node n) l = refl
port_actor p (Switch k) l = refl

act_by : (p : Plan) (k : ℕ) (l : Label Act (Stamped Token)) → code_act (act_of l) ≡ act_of (label_by p k l)
act_by p k (Own act) = refl
act_by p k d = refl

acts_by : (p : Plan) (k : ℕ) (ts : List (Turn Act Token)) → map (restamped code_act) (map (restamped act_of) ts) ≡ map (restamped act_of) (map (turn_by p k) ts)
acts_by p k [] = refl
acts_by p k (t ∷ ts) = λ i. record { at = t.at; it = act_by p k t.it i } ∷ acts_by p k ts i

events_by : (ms : List (Made Act)) → map made_by (map (remade code_act) ms) ≡ map core.event_of (map made_event ms)
events_by [] = refl
events_by (m ∷ ms) = ap (λ xs. made_by (remade code_act m) ∷ xs) (events_by ms)

-- what is left on a way, with its stamps
record Fits (p : Plan) (runs : ℕ → List (Turn net.Act tokens.Token)) (left : ℕ → List tokens.Token) (w : ℕ) : Type 0 where
  rest : List (Stamped tokens.Token)
  is : all_taken w (runs (sink (network_of p) w)) ++ rest ≡ all_put w (runs (source (network_of p) w))
  left_is : items rest ≡ left w

-- the items of stamped tokens, in the words of the definitions
items_by : (ss : List (Stamped Token)) → items (map item_by ss) ≡ map token (items ss)
items_by [] = refl
items_by (s ∷ ss) = ap (λ ts. token s.it ∷ ts) (items_by ss)

module _ (p : Plan) (acc : IsAccepted p) (refuses : ℕ → ℕ → Type 0) (turns seed : ℕ) (runs : ℕ → List (Turn Act Token)) (stops : ℕ → Stop) (last : ℕ → Actor Process)
    (each : (k : ℕ) → k < actors p → IsRunOf p refuses turns seed k (runs k) (stops k) (last k))
    (none : (k : ℕ) → actors p ≤ k → runs k ≡ []) (idle : (k : ℕ) → actors p ≤ k → last k ≡ first (network_of p) (begin_of p) k)
    (left : ℕ → List tokens.Token) (order : OnWays (TakesInOrder (length p.nodes) runs left) p.wires (length p.wires)) (bare : (w : ℕ) → ways (network_of p) ≤ w → left w ≡ []) where
  abbrev by_ways : ℕ → List (Turn net.Act tokens.Token)
  by_ways k = map (turn_by p k) (runs k)

  over : (k : ℕ) → AllByRecursion (λ t. IsOverWires p k t.it) (runs k)
  over k = elim (cases_lt k (actors p)) [
    | inl less ↦ (each k less).wires
    | inr past ↦ subst (AllByRecursion (λ t. IsOverWires p k t.it)) (sym (none k past)) tt
  ]

  local : (k : ℕ) → LocalRun (Local (network_of p) Wormhole does) k 0 (first (network_of p) (begin_of p) k) (by_ways k) (last k)
  local k = elim (cases_lt k (actors p)) [
    | inl less ↦
        let r = each k less in
        subst (λ x. LocalRun (Local (network_of p) Wormhole does) k 0 x (by_ways k) (last k)) r.begins.first
        (subst (LocalRun (Local (network_of p) Wormhole does) k 0 (net_actor r.from) (by_ways k)) r.ends (run_by p acc k 0 r.from (runs k) r.to r.wires r.run))
    | inr past ↦ subst (λ ts. LocalRun (Local (network_of p) Wormhole does) k 0 (first (network_of p) (begin_of p) k) (map (turn_by p k) ts) (last k)) (sym (none k past)) (idle k past)
  ]

  module _ (w : ℕ) (real : w < ways (network_of p)) (x : Wire) (is : slice_get p.wires (w / 2) ≡ Some x) where
    abbrev side : Bool
    side = w % 2 == 0

    near_is : near (network_of p) w ≡ to.port_of (port_of x side)
    near_is = ap (λ z. network.port_of z side) (wire_is p (w / 2) x is) ∙ side_of x side

    far_is : far (network_of p) w ≡ to.port_of (port_of x (not side))
    far_is = ap (λ z. network.port_of z (not side)) (wire_is p (w / 2) x is) ∙ side_of x (not side)

    -- the port at an end of the wire, by its actor and its link
    at : (b : Bool) → to.port_of (port_of x b) ≡ link_port p (actor_of (length p.nodes) (port_of x b).spot) (port_of x b).link
    at b =
        let q = port_of x b in
        let k = actor_of (length p.nodes) q.spot in
        link_is_at p k q.link q (wired p acc (w / 2) x b is) (ap (λ z. z && (q.link == q.link)) (eq-eqb k k refl) ∙ eq-eqb q.link q.link refl)

    in_order : (b : Bool) → side ≡ b → TakesInOrder (length p.nodes) runs left w (port_of x b) (port_of x (not b))
    in_order true even =
        let here : 2 * (w / 2) ≡ w = let e = eqb-true (w % 2) 0 even in omega (arith, e) in
        subst (λ v. TakesInOrder (length p.nodes) runs left v x.one x.two) here (order (w / 2) x (slice_get_within p.wires (w / 2) x is) is).0
    in_order false odd =
        let here : 2 * (w / 2) + 1 ≡ w = let e : w % 2 ≢ 0 = eqb-false (w % 2) 0 odd in omega (arith, e) in
        subst (λ v. TakesInOrder (length p.nodes) runs left v x.two x.one) here (order (w / 2) x (slice_get_within p.wires (w / 2) x is) is).1

    fits_here : Fits p by_ways left w
    fits_here =
        let from = port_of x side in
        let dest = port_of x (not side) in
        let s = actor_of (length p.nodes) from.spot in
        let t = actor_of (length p.nodes) dest.spot in
        let source_is : source (network_of p) w ≡ s = ap (actor_at (network_of p)) near_is ∙ port_actor p from.spot from.link in
        let sink_is : sink (network_of p) w ≡ t = ap (actor_at (network_of p)) far_is ∙ port_actor p dest.spot dest.link in
        let o = in_order side refl in
        record {
          rest = map item_by o.0;
          is = ap (λ k. all_taken w (by_ways k) ++ map item_by o.0) sink_is
              ∙ (ap (λ xs. xs ++ map item_by o.0) (all_taken_by p acc t dest.link w (real, far_is ∙ at (not side)) (runs t) (over t))
              ∙ (sym (map-append item_by (all_taken dest.link (runs t)) o.0)
              ∙ (ap (map item_by) o.1
              ∙ (sym (all_put_by p acc s from.link w (real, near_is ∙ at side) (runs s) (over s)) ∙ ap (λ k. all_put w (by_ways k)) (sym source_is)))));
          left_is = items_by o.0 ∙ sym o.2;
        }

  fits : (w : ℕ) → Fits p by_ways left w
  fits w = elim (cases_lt w (ways (network_of p))) [
    | inl real ↦ (let x = there wire_of p.wires (w / 2) (omega (arith, real)) in fits_here w real x.0 x.1)
    | inr past ↦
        let s = source (network_of p) w in
        let t = sink (network_of p) w in
        record { rest = []; is = ap (λ xs. xs ++ []) (none_taken_by p acc t w past (runs t) (over t)) ∙ sym (none_put_by p acc s w past (runs s) (over s)); left_is = sym (bare w past) }
  ]

  module _ (merged : List (Made Act)) (merge : IsMerge (λ k. map (restamped act_of) (runs k)) merged) where
    merge_by : IsMerge (λ k. map (restamped act_of) (by_ways k)) (map (remade code_act) merged)
    merge_by =
        let m = merge_of code_act (λ k. map (restamped act_of) (runs k)) merged merge in
        record { ordered = m.ordered; parts = λ k. m.parts k ∙ acts_by p k (runs k) }

    threads : AreThreads (network_of p) Wormhole does (begin_of p) by_ways last (λ w. (fits w).rest) (map (remade code_act) merged)
    threads = record { fit = record { local = local; ways = λ w. (fits w).is }; merged = merge_by }

    module _ (steps : List Event) (steps_are : steps ≡ map made_event merged) where
      events_are : map made_by (map (remade code_act) merged) ≡ map core.event_of steps
      events_are = events_by merged ∙ ap (map core.event_of) (sym steps_are)

      -- the events lead to the network that the runs left
      pub leads_there : (s : State) → IsNetworkOf p s → ((k : ℕ) → last k ≡ (shown s).state k) → ((w : ℕ) → left w ≡ (shown s).way w) → Replays p steps s
      leads_there s is states lefts =
          let plan = network_of p in
          let done = threads_headline plan Wormhole does (begin_of p) last by_ways (λ w. (fits w).rest) (map (remade code_act) merged) (accepted p acc) threads in
          let there : ended last (λ w. (fits w).rest) ≡ shown s = λ i. record { state = fun_ext states i; way = fun_ext (λ w. (fits w).left_is ∙ lefts w) i } in
          replays p steps s (record {
            is = is;
            happen = subst (λ es. net.HappenAll plan Wormhole does (begins plan (begin_of p)) es (shown s)) events_are
                (subst (net.HappenAll plan Wormhole does (begins plan (begin_of p)) (map made_by (map (remade code_act) merged))) there done.0);
          })

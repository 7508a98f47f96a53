-- The opening state, and what a replay has come to, event by event.
use Rattle.std.proofs.Common.{◌≡◌, ℕ, zero, suc, ◌≤◌, ◌*◌, false, List, [], ◌∷◌, ◌++◌, length, map, take, slice_get, Option, Some, None, refl, sym, ap, ◌∙◌, subst, arith, nat_lt, if◌then◌else◌}
use Rattle.std.specs.List.{AllByRecursion}
use Rattle.std.proofs.lemmas.Bool.Decides.{nat_tests}
use Rattle.std.proofs.lemmas.List.{length-map, map-append}
use mathlib.Core.Path.{fun_ext}
use Rattle.vc_network.specs.Actors.{Network, ActBy}
use Rattle.vc_network.specs.Headline.{AreTold, HeadlineAndList}
use Rattle.vc_network.specs.Views.{Said}
use Rattle.vc_network.specs.Network as net
use Rattle.vc_network.specs.Network.{Happens, HappenAll, begins, first}
use Rattle.vc_network.specs.Plan.{ways}
use Rattle.vc_network.specs.Plan as network
use Rattle.vc_network.proofs.Main.{headline}
use Rattle.vc_plan.specs.declared.plan.Plan.{Plan}
use Rattle.vc_plan.specs.Accepted.{IsAccepted}
use Rattle.vc_accepted.specs.NetworkOf.{network_of, wire_of}
use Rattle.vc_accepted.specs.ActorWays.{outgoing}
use Rattle.vc_accepted.proofs.AcceptedNetwork.{accepted}
use Rattle.vc_switch.specs.Switch.{new_switch}
use Rattle.vc_switch.specs.Waiting.{Wormhole}
use Rattle.vc_tokens.specs.Tokens.{Token}
use Rattle.vc_packets.specs.Functions.{shown_or}
use Rattle.vc_vcp.specs.Links.{new_vcp}
use Rattle.vc_machine.specs.Rendezvous.{nothing_yet}
use Rattle.vc_actor.specs.Begin.{AreFirst}
use Rattle.vc_placement.proofs.Networks.{invisible}
use Rattle.vc_placement.proofs.OneNodeRuns.{one_node_runs}
use Rattle.vc_placement.specs.Placement.{Linearizes}
use Rattle.vc_accepted.specs.Begin.{begin_of}
use Rattle.vc_core.specs.Channels.{AreChannelsOf}
use Rattle.vc_accepted.specs.Process.{Process, does}
use Rattle.vc_core.specs.Replay.{IsOpening, Replays, Reached}
use Rattle.vc_actor.specs.ActorView.{Acting, actor_of}
use Rattle.vc_core.specs.State.{State, shown, event_of, MakesEvent}
use Rattle.vc_actor.specs.Turns.{actors}
use Rattle.vc_core.specs.Wiring.{out_at}
use Rattle.vc_core.specs.declared.event.Event.{Event}
use Rattle.vc_core.proofs.Events.{none_past}

not_less : (m n : ℕ) → n ≤ m → nat_lt m n ≡ false
not_less m n h = grind (arith, nat_tests)

first_at : (p : Plan) (xs : List Acting) → AreFirst p (actors p) xs → (k : ℕ) → shown_or (net.IsSwitch new_switch) actor_of (slice_get xs k) ≡ first (network_of p) (begin_of p) k
first_at p xs are k = by_place (slice_get xs k) refl
  where
    by_place : (o : Option Acting) → slice_get xs k ≡ o → shown_or (net.IsSwitch new_switch) actor_of o ≡ first (network_of p) (begin_of p) k
    by_place (Some a) e = (are.each k a e).first
    by_place None e =
        let past : actors p ≤ k = subst (λ z. z ≤ k) are.count (none_past xs k e) in
        sym (ap (λ b. if b then net.IsNode (record { vcp = new_vcp; process = begin_of p k; inner = λ c. nothing_yet }) else net.IsSwitch new_switch) (not_less k (length p.nodes) (omega arith)))

pub no_token : (ws : List (List Token)) → AllByRecursion (λ way. way ≡ []) ws → (w : ℕ) → shown_or [] (λ ts. ts) (slice_get ws w) ≡ []
no_token [] all w = refl
no_token (x ∷ xs) all zero = all.0
no_token (x ∷ xs) all (suc w) = no_token xs all.1 w

pub opened : (p : Plan) (s : State) → IsAccepted p → AreFirst p (actors p) s.actors → s.nodes ≡ length p.nodes → length s.ways ≡ 2 * length p.wires → AllByRecursion (λ way. way ≡ []) s.ways →
    ((actor link : ℕ) → out_at s.wiring actor link ≡ outgoing p actor link) → s.wires ≡ p.wires → AreChannelsOf p s.channels → IsOpening p s
opened p s acc first nodes count empty wiring wires channels = record {
  is = record {
    accepted = acc;
    count = first.count;
    actors = λ k a e. (first.each k a e).is;
    nodes = nodes;
    ways = count ∙ ap (λ n. 2 * n) (sym (length-map p.wires wire_of));
    wiring = wiring;
    wires = wires;
    channels = channels;
  };
  begins = (λ i. record { state = fun_ext (first_at p s.actors first) i; way = fun_ext (no_token s.ways empty) i });
}

-- one event more
pub happen_more : (plan : network.Plan) (old mid new : Network (net.Actor Process) Token) (es : List (ActBy net.Act)) (e : ActBy net.Act) → HappenAll plan Wormhole does old es mid → Happens plan Wormhole does mid e new → HappenAll plan Wormhole does old (es ++ e ∷ []) new
happen_more plan old mid new [] e alike h =
    (new, subst (λ z. Happens plan Wormhole does z e new) (λ i. record { state = λ a. alike.states a i; way = λ w. alike.ways w i }) h, record { states = λ a. refl; ways = λ w. refl })
happen_more plan old mid new (f ∷ es) e all h = (all.0, all.1, happen_more plan all.0 mid new es e all.2 h)

pub take_more : {X : Type 0} (xs : List X) (i : ℕ) (x : X) → slice_get xs i ≡ Some x → take (suc i) xs ≡ take i xs ++ x ∷ []
take_more [] i x e = absurd (cc)
take_more (y ∷ ys) zero x e = let same : y ≡ x = cc in ap (λ z. z ∷ []) same
take_more (y ∷ ys) (suc i) x e = ap (λ zs. y ∷ zs) (take_more ys i x e)

pub reached_first : (p : Plan) (events : List Event) (s : State) → IsOpening p s → Reached p (take 0 events) s
reached_first p events s open_at = record { is = open_at.is; happen = subst (HappenAll (network_of p) Wormhole does (begins (network_of p) (begin_of p)) []) (sym open_at.begins) (record { states = λ a. refl; ways = λ w. refl }) }

pub reached_more : (p : Plan) (events : List Event) (i : ℕ) (e : Event) (s t : State) → Reached p (take i events) s → slice_get events i ≡ Some e → MakesEvent p s e t → Reached p (take (suc i) events) t
reached_more p events i e s t r here made = record {
  is = made.kept;
  happen = subst (λ es. HappenAll (network_of p) Wormhole does (begins (network_of p) (begin_of p)) es (shown t))
      (sym (ap (map event_of) (take_more events i e here) ∙ map-append event_of (take i events) (e ∷ [])))
      (happen_more (network_of p) (begins (network_of p) (begin_of p)) (shown s) (shown t) (map event_of (take i events)) (event_of e) r.happen made.happens);
}

-- there the headline holds, and one list tells all
both : (p : Plan) (events : List Event) (s : State) → Reached p events s → HeadlineAndList (network_of p) Wormhole does (begin_of p) (shown s)
both p events s r = headline (network_of p) Wormhole does (begin_of p) (map event_of events) (shown s) (accepted p r.is.accepted) r.happen

pub by_steps : (p : Plan) (events : List Event) (s : State) → Reached p events s → (ks : List Said) × AreTold (network_of p) does (begins (network_of p) (begin_of p)) (shown s) ks
by_steps p events s r = (both p events s r).1

-- and it is told in occam's words, with a linearization
pub replays : (p : Plan) (events : List Event) (s : State) → Reached p events s → Replays p events s
replays p events s r =
    let found = invisible p Wormhole (map event_of events) (shown s) r.is.accepted r.happen in
    let lin : Linearizes p (shown s) = found.0 in
    record {
      is = r.is;
      runs = record {
        accepted = r.is.accepted;
        happen = r.happen;
        headline = (both p events s r).0;
        linearizes = lin;
        follows = found.1;
        on_one_node = λ one is accepted. one_node_runs p one Wormhole (shown s) lin.atomics r.is.accepted is accepted lin.linearization;
      };
    }

pub all_taken : {X : Type 0} (xs : List X) (n : ℕ) → length xs ≤ n → take n xs ≡ xs
all_taken [] zero h = refl
all_taken [] (suc n) h = refl
all_taken (x ∷ xs) zero h = absurd (omega arith)
all_taken (x ∷ xs) (suc n) h = ap (λ ys. x ∷ ys) (all_taken xs n (omega arith))

-- one event more, at the end of the list
pub reached_next : (p : Plan) (events : List Event) (e : Event) (s t : State) → Reached p events s → MakesEvent p s e t → Reached p (events ++ e ∷ []) t
reached_next p events e s t r made = record {
  is = made.kept;
  happen = subst (λ es. HappenAll (network_of p) Wormhole does (begins (network_of p) (begin_of p)) es (shown t)) (sym (map-append event_of events (e ∷ [])))
      (happen_more (network_of p) (begins (network_of p) (begin_of p)) (shown s) (shown t) (map event_of events) (event_of e) r.happen made.happens);
}

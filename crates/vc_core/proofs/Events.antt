-- What an act of one actor of the code is: an event of the network.
use Rattle.std.proofs.Common.{◌≡◌, ℕ, zero, suc, ◌<◌, ◌≤◌, List, [], ◌∷◌, ◌++◌, length, slice_get, slice_set, Some, None, refl, sym, ap, ◌∙◌, subst, arith, inl, inr}
use Rattle.std.proofs.lemmas.Bool.{cases_eq}
use Rattle.std.proofs.lemmas.Option.{slice_get_within}
use Rattle.std.proofs.lemmas.List.{length-set}
use Rattle.std.specs.Option.{option_map}
use Rattle.vc_network.specs.Actors.{Step}
use Rattle.vc_network.specs.Actors.Label.{Own, Takes, Puts}
use Rattle.vc_packets.specs.Functions.{put, shown_or}
use Rattle.vc_network.specs.Network as net
use Rattle.vc_network.specs.Plan.{IsOutOf, IsInto, back}
use Rattle.vc_network.specs.Plan as network
use Rattle.vc_network.proofs.Writes.{own_step, take_step, put_step}
use Rattle.vc_plan.specs.declared.plan.Plan.{Plan}
use Rattle.vc_accepted.specs.NetworkOf.{network_of}
use Rattle.vc_accepted.proofs.WayPorts.{outgoing_is, incoming_is}
use Rattle.vc_switch.specs.Switch.{new_switch}
use Rattle.vc_switch.specs.Waiting.{Wormhole}
use Rattle.vc_tokens.specs.Tokens.{Token}
use Rattle.vc_tokens.specs.Tokens as tokens
use Rattle.vc_vcp.proofs.ListWrites.{place-set_same, place-set_other, by_place-set}
use Rattle.vc_actor.specs.Acts.{port, MakesOwn, MakesTake, MakesPut, MakesGrant}
use Rattle.vc_actor.specs.OfPlan.{IsActorOf}
use Rattle.vc_accepted.specs.Process.{does}
use Rattle.vc_actor.specs.ActorView.{Acting, actor_of, act_of}
use Rattle.vc_core.specs.State.{State, shown, IsNetworkOf, HasFront, HasWay, MakesEvent}
use Rattle.vc_core.specs.Private.State.{Accepts, GrantsBy, with_actor, with_line}
use Rattle.vc_core.specs.Wiring.{out_at}
use Rattle.vc_actor.specs.declared.act.Act.TheVariants as act
use Rattle.vc_core.specs.declared.event.Event.{Event}

pub none_past : {X : Type 0} (xs : List X) (k : ℕ) → slice_get xs k ≡ None → length xs ≤ k
none_past [] k e = omega arith
none_past (x ∷ xs) zero e = absurd (cc)
none_past (x ∷ xs) (suc k) e = let r = none_past xs k e in omega arith

-- each actor is as before, but for one that is another of the plan's
pub each_actor : (p : Plan) (s : State) (k : ℕ) (b : Acting) → IsNetworkOf p s → k < length s.actors → IsActorOf (network_of p) k b → (j : ℕ) (c : Acting) → slice_get (slice_set s.actors k b) j ≡ Some c → IsActorOf (network_of p) j c
each_actor p s k b is less ok j c h = elim (cases_eq j k) [
  | inl same ↦ (let e : Some b ≡ Some c = sym (place-set_same s.actors k b less) ∙ ap (slice_get (slice_set s.actors k b)) (sym same) ∙ h in
      let f : b ≡ c = cc in subst (λ z. IsActorOf (network_of p) z c) (sym same) (subst (λ z. IsActorOf (network_of p) k z) f ok))
  | inr other ↦ is.actors j c (sym (place-set_other s.actors k j b other) ∙ h)
]

-- the network with another state of one actor, and other tokens on one way
abbrev pub with_way : State → ℕ → Acting → ℕ → List Token → State
with_way s k b w ts = record s { actors = slice_set s.actors k b; ways = slice_set s.ways w ts }

pub states : (s : State) (k : ℕ) (b : Acting) → k < length s.actors → (shown (with_actor s k b)).state ≡ put (shown s).state k (actor_of b)
states s k b less = by_place-set actor_of (net.IsSwitch new_switch) s.actors k b less

lines : (s : State) (w : ℕ) (ts : List Token) → w < length s.ways → (λ (v : ℕ). shown_or [] (λ (xs : List Token). xs) (slice_get (slice_set s.ways w ts) v)) ≡ put (shown s).way w ts
lines s w ts less = by_place-set (λ xs. xs) [] s.ways w ts less

pub state_at : (s : State) (k : ℕ) (a : Acting) → slice_get s.actors k ≡ Some a → (shown s).state k ≡ actor_of a
state_at s k a h = ap (shown_or (net.IsSwitch new_switch) actor_of) h

pub way_at : (s : State) (w : ℕ) (ts : List Token) → slice_get s.ways w ≡ Some ts → (shown s).way w ≡ ts
way_at s w ts h = ap (shown_or [] (λ xs. xs)) h

pub own_happens : (p : Plan) (s : State) (e : Event) (a b : Acting) → IsNetworkOf p s → slice_get s.actors e.actor ≡ Some a → MakesOwn (network_of p) e.actor a e.act b → MakesEvent p s e (with_actor s e.actor b)
own_happens p s e a b is here made =
    let k = e.actor in
    let plan = network_of p in
    let less = slice_get_within s.actors k a here in
    let local : net.Local plan Wormhole does k ((shown s).state k) (Own (act_of e.act)) (actor_of b) = subst (λ z. net.Local plan Wormhole does k z (Own (act_of e.act)) (actor_of b)) (sym (state_at s k a here)) made.step in
    record {
      happens = (Own (act_of e.act), refl, subst (Step (net.Local plan Wormhole does) (shown s) k (Own (act_of e.act))) (λ i. record { state = sym (states s k b less) i; way = (shown s).way }) (own_step (net.Local plan Wormhole does) (shown s) k (act_of e.act) (actor_of b) local));
      kept = record { accepted = is.accepted; count = length-set s.actors k b ∙ is.count; actors = each_actor p s k b is less made.kept; nodes = is.nodes; ways = is.ways; wiring = is.wiring; wires = is.wires; channels = is.channels };
    }

-- the way that comes in by an actor's link, and the one that goes out
pub into : (p : Plan) (s : State) (k l : ℕ) (f : HasFront s k l) → IsNetworkOf p s → IsInto (network_of p) f.way (port (network_of p) k l)
into p s k l f is = (incoming_is p is.accepted k l f.way).0 (sym (ap (option_map back) (is.wiring k l)) ∙ f.into)

pub out_of : (p : Plan) (s : State) (k l : ℕ) (f : HasWay s k l) → IsNetworkOf p s → IsOutOf (network_of p) f.way (port (network_of p) k l)
out_of p s k l f is = (outgoing_is p is.accepted k l f.way).0 (sym (is.wiring k l) ∙ f.out)

pub take_happens : (p : Plan) (s : State) (e : Event) (l x : ℕ) (a b : Acting) (f : HasFront s e.actor l) → e.act ≡ act.Take l x → IsNetworkOf p s → slice_get s.actors e.actor ≡ Some a →
    MakesTake (network_of p) e.actor a l x f.token b → MakesEvent p s e (with_way s e.actor b f.way f.rest)
take_happens p s e l x a b f is_take is here made =
    let k = e.actor in
    let plan = network_of p in
    let less = slice_get_within s.actors k a here in
    let real = slice_get_within s.ways f.way (f.token ∷ f.rest) f.stands in
    let label = Takes (net.Take l x) f.way f.token in
    let local : net.Local plan Wormhole does k ((shown s).state k) label (actor_of b) = subst (λ z. net.Local plan Wormhole does k z label (actor_of b)) (sym (state_at s k a here)) (made.step f.way (into p s k l f is)) in
    record {
      happens = (
        label,
        sym (ap act_of is_take),
        subst (Step (net.Local plan Wormhole does) (shown s) k label) (λ i. record { state = sym (states s k b less) i; way = sym (lines s f.way f.rest real) i })
            (take_step (net.Local plan Wormhole does) (shown s) k (net.Take l x) f.way f.token f.rest (actor_of b) (way_at s f.way (f.token ∷ f.rest) f.stands) local),
      );
      kept = record { accepted = is.accepted; count = length-set s.actors k b ∙ is.count; actors = each_actor p s k b is less made.kept; nodes = is.nodes; ways = length-set s.ways f.way f.rest ∙ is.ways; wiring = is.wiring; wires = is.wires; channels = is.channels };
    }

-- what a put of any kind is to the network
put_by : (p : Plan) (s : State) (e : Event) (l : ℕ) (a b : Acting) (f : HasWay s e.actor l) (t : Token) → IsNetworkOf p s → slice_get s.actors e.actor ≡ Some a →
    net.Local (network_of p) Wormhole does e.actor (actor_of a) (Puts (act_of e.act) f.way t) (actor_of b) → IsActorOf (network_of p) e.actor b → MakesEvent p s e (with_way s e.actor b f.way (f.tokens ++ t ∷ []))
put_by p s e l a b f t is here step kept =
    let k = e.actor in
    let plan = network_of p in
    let less = slice_get_within s.actors k a here in
    let real = slice_get_within s.ways f.way f.tokens f.stand in
    let label = Puts (act_of e.act) f.way t in
    let local : net.Local plan Wormhole does k ((shown s).state k) label (actor_of b) = subst (λ z. net.Local plan Wormhole does k z label (actor_of b)) (sym (state_at s k a here)) step in
    record {
      happens = (
        label,
        refl,
        subst (Step (net.Local plan Wormhole does) (shown s) k label) (λ i. record { state = sym (states s k b less) i; way = (ap (λ z. put (shown s).way f.way (z ++ t ∷ [])) (way_at s f.way f.tokens f.stand) ∙ sym (lines s f.way (f.tokens ++ t ∷ []) real)) i })
            (put_step (net.Local plan Wormhole does) (shown s) k (act_of e.act) f.way t (actor_of b) local),
      );
      kept = record { accepted = is.accepted; count = length-set s.actors k b ∙ is.count; actors = each_actor p s k b is less kept; nodes = is.nodes; ways = length-set s.ways f.way (f.tokens ++ t ∷ []) ∙ is.ways; wiring = is.wiring; wires = is.wires; channels = is.channels };
    }

pub put_happens : (p : Plan) (s : State) (e : Event) (l : ℕ) (a b : Acting) (f : HasWay s e.actor l) (t : Token) → e.act ≡ act.Put l → IsNetworkOf p s → slice_get s.actors e.actor ≡ Some a →
    MakesPut (network_of p) e.actor a l t b → MakesEvent p s e (with_way s e.actor b f.way (f.tokens ++ t ∷ []))
put_happens p s e l a b f t is_put is here made =
    put_by p s e l a b f t is here (subst (λ z. net.Local (network_of p) Wormhole does e.actor (actor_of a) (Puts z f.way t) (actor_of b)) (sym (ap act_of is_put)) (made.step f.way (out_of p s e.actor l f is))) made.kept

pub grant_happens : (p : Plan) (s : State) (e : Event) (l : ℕ) (a b : Acting) (f : HasWay s e.actor l) → e.act ≡ act.Fct l → IsNetworkOf p s → slice_get s.actors e.actor ≡ Some a →
    MakesGrant (network_of p) e.actor a l b → MakesEvent p s e (with_way s e.actor b f.way (f.tokens ++ tokens.Fct ∷ []))
grant_happens p s e l a b f is_fct is here made =
    put_by p s e l a b f tokens.Fct is here (subst (λ z. net.Local (network_of p) Wormhole does e.actor (actor_of a) (Puts z f.way tokens.Fct) (actor_of b)) (sym (ap act_of is_fct)) (made.step f.way (out_of p s e.actor l f is))) made.kept

-- a token is taken: it leaves its way, and comes to the actor
pub taken : (p : Plan) (s t u : State) (e : Event) (l x : ℕ) (f : HasFront s e.actor l) (k : Token) → e.act ≡ act.Take l x → f.token ≡ k → t ≡ with_line s f.way f.rest → Accepts t e.actor l x k u → IsNetworkOf p s → MakesEvent p s e u
taken p s t u e l x f k is_take token took accepts is =
    let here : slice_get s.actors e.actor ≡ Some accepts.before = sym (ap (λ z. slice_get z.actors e.actor) took) ∙ accepts.here in
    let after : u ≡ with_way s e.actor accepts.after f.way f.rest = accepts.new_is ∙ ap (λ z. with_actor z e.actor accepts.after) took in
    subst (MakesEvent p s e) (sym after)
    (take_happens p s e l x accepts.before accepts.after f is_take is here (subst (λ z. MakesTake (network_of p) e.actor accepts.before l x z accepts.after) (sym token) (accepts.takes (network_of p) e.actor (is.actors e.actor accepts.before here))))

-- a flow control token is put: it comes to the end of the way, and the actor grants its places
pub granted : (p : Plan) (s t u : State) (e : Event) (l : ℕ) (f : HasWay s e.actor l) → e.act ≡ act.Fct l → t ≡ with_line s f.way (f.tokens ++ tokens.Fct ∷ []) → GrantsBy t e.actor l u → IsNetworkOf p s → MakesEvent p s e u
granted p s t u e l f is_fct pushed grants is =
    let here : slice_get s.actors e.actor ≡ Some grants.before = sym (ap (λ z. slice_get z.actors e.actor) pushed) ∙ grants.here in
    let after : u ≡ with_way s e.actor grants.after f.way (f.tokens ++ tokens.Fct ∷ []) = grants.new_is ∙ ap (λ z. with_actor z e.actor grants.after) pushed in
    subst (MakesEvent p s e) (sym after) (grant_happens p s e l grants.before grants.after f is_fct is here (grants.grants (network_of p) e.actor (is.actors e.actor grants.before here)))

-- a token is put: the actor puts it, and it comes to the end of the way
pub placed : (p : Plan) (s u : State) (e : Event) (l : ℕ) (a b : Acting) (f : HasWay s e.actor l) (k : Token) → e.act ≡ act.Put l → slice_get s.actors e.actor ≡ Some a →
    ((plan : network.Plan) (n : ℕ) → IsActorOf plan n a → MakesPut plan n a l k b) → u ≡ with_way s e.actor b f.way (f.tokens ++ k ∷ []) → IsNetworkOf p s → MakesEvent p s e u
placed p s u e l a b f k is_put here puts after is = subst (MakesEvent p s e) (sym after) (put_happens p s e l a b f k is_put is here (puts (network_of p) e.actor (is.actors e.actor a here)))

-- the way that the code found, as the event's
pub way_found : (s : State) (a l w : ℕ) (f : HasWay s a l) → out_at s.wiring a l ≡ Some w → slice_get s.ways w ≡ Some f.tokens
way_found s a l w f out = let e : Some w ≡ Some f.way = sym out ∙ f.out in let same : w ≡ f.way = cc in ap (slice_get s.ways) same ∙ f.stand

abbrev pub way_is : (s : State) (a l w : ℕ) (f : HasWay s a l) → out_at s.wiring a l ≡ Some w → HasWay s a l
way_is s a l w f out = record { way = w; tokens = f.tokens; out = out; stand = way_found s a l w f out }

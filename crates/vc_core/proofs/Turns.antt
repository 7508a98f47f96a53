-- What an actor does next is an event that can happen, and where it does nothing none can.
use Rattle.std.proofs.Common.{◌≡◌, ◌↔◌, ℕ, ◌+◌, ◌*◌, ◌%◌, ◌^◌, ◌≤◌, ◌<◌, max, bit_or, nat_lt, Bool, true, false, inl, inr, List, length, slice_get, Option, Some, None, refl, sym, ap, ◌∙◌, subst, arith, if◌then◌else◌}
use Rattle.std.proofs.lemmas.Bool.{cases_lt}
use Rattle.std.proofs.lemmas.Bool.Decides.{nat_tests}
use Rattle.std.proofs.lemmas.Nat.Bits.{bit_at_or, bit_at-pow_same, bit_at-pow_other}
use Rattle.std.proofs.lemmas.Option.{slice_get_past}
use Rattle.std.proofs.Math.Pow.{pow-lt}
use Rattle.std.specs.Int.{bit_at}
use Rattle.vc_accepted.specs.NetworkOf.{network_of}
use Rattle.vc_network.specs.Network as net
use Rattle.vc_network.specs.Views.{vcp_of, switch_of}
use Rattle.vc_occam.specs.Remains.{Done}
use Rattle.vc_plan.specs.declared.plan.Plan.{Plan}
use Rattle.vc_actor.specs.Acts.{MayAct}
use Rattle.vc_core.specs.PossibleEvents.{CanHappen}
use Rattle.vc_actor.specs.OfPlan.{IsActorOf}
use Rattle.vc_actor.specs.Private.Parts.{IsDone}
use Rattle.vc_actor.specs.Parts.{strays_of, lost_of}
use Rattle.vc_accepted.specs.Process.{Process}
use Rattle.vc_core.specs.Replay.{Replays}
use Rattle.vc_actor.specs.ActorView.{Acting, OfNode, OfSwitch, node_of}
use Rattle.vc_core.specs.State.{State, shown, IsNetworkOf, HasFront, HasWay, WaysLet}
use Rattle.vc_actor.specs.Turns.{RoomLets, IsTurn, FindsTurn, TakesNone, actors}
use Rattle.vc_core.specs.Turns.{FindsEvent, FindsFront, FindsTake, AllHaveEnded}
use Rattle.vc_core.specs.Private.Turns.{Rests, IsAtRest}
use Rattle.vc_core.specs.Wiring.{out_at, there}
use Rattle.vc_actor.specs.declared.act.Act.{Act}
use Rattle.vc_actor.specs.declared.act.Act.TheVariants as act
use Rattle.vc_core.specs.declared.event.Event.{Event}
use Rattle.vc_actor.specs.declared.node.Node.{Node}
use Rattle.vc_core.proofs.Events.{state_at}
use Rattle.vc_core.proofs.Enablement.{happens, has_act, has_ways, has_actor, can_take}
use Rattle.vc_switch.proofs.ListWrites.{some_at}

-- the table of ways some_at 32 places an actor
pub few_at : (out : List (Option ℕ)) (k l w : ℕ) → out_at out k l ≡ Some w → l < 32
few_at out k l w e = by_test (nat_lt l 32) refl e
  where
    by_test : (b : Bool) → nat_lt l 32 ≡ b → (if b then there (slice_get out (k * 32 + l)) else None) ≡ Some w → l < 32
    by_test true t e = grind (arith, nat_tests)
    by_test false t e = absurd (cc)

way_few : (s : State) (k l : ℕ) → HasWay s k l → l < 32
way_few s k l f = few_at s.wiring k l f.way f.out

-- The network's search.

-- what is put is put by one of 32 links
abbrev pub FewLinks : Act → Type 0
FewLinks (act.Put l) = l < 32
FewLinks (act.Fct l) = l < 32
FewLinks a = Unit {0}

pub few_links : (x : Acting) (b : Act) → MayAct x b → FewLinks b
few_links (OfNode n) (act.Put l) may = let few = may.0 in omega arith
few_links (OfNode n) (act.Fct l) may = let few = may.0 in omega arith
few_links (OfSwitch s) (act.Put l) may = may.links
few_links (OfSwitch s) (act.Fct l) may = may.links
few_links (OfSwitch s) (act.Proc m) may = tt
few_links (OfSwitch s) (act.Pass l) may = tt
few_links (OfSwitch s) (act.Take l w) may = tt
few_links (OfSwitch s) (act.Route l o) may = tt
few_links (OfNode n) a may = tt

-- the ways let what the room lets
module _ (s : State) (k room : ℕ) (bits : (link : ℕ) → link < 32 → (bit_at room link ≡ 1) ↔ HasWay s k link) where
  lets_by : (b : Act) → TakesNone b → WaysLet s k b → RoomLets room b
  lets_by (act.Put l) none ways = (bits l (way_few s k l ways)).1 ways
  lets_by (act.Fct l) none ways = (bits l (way_few s k l ways)).1 ways
  lets_by (act.Take l w) none ways = none
  lets_by a none ways = tt

  pub ways_by : (b : Act) → FewLinks b → RoomLets room b → WaysLet s k b
  ways_by (act.Put l) few lets = (bits l few).0 lets
  ways_by (act.Fct l) few lets = (bits l few).0 lets
  ways_by (act.Take l w) few lets = absurd lets
  ways_by a few lets = tt

module _ (p : Plan) (s : State) (k room : ℕ) (bits : (link : ℕ) → link < 32 → (bit_at room link ≡ 1) ↔ HasWay s k link) (is : IsNetworkOf p s) where
  abbrev event : Act → Event
  event b = record { actor = k; act = b }

  takes_none : (b : Act) → RoomLets room b → TakesNone b
  takes_none (act.Take l w) lets = lets
  takes_none a lets = tt

  pub some_event : (a : Acting) → slice_get s.actors k ≡ Some a → (b : Act) → FewLinks b → IsTurn (network_of p) k a room b → FindsEvent p s k (Some (record { actor = k; act = b }))
  some_event a here b few t = (refl, takes_none b t.lets, happens p s (event b) a is here t.can (ways_by s k room bits b few t.lets))

  pub no_event : (a : Acting) → slice_get s.actors k ≡ Some a → FindsTurn (network_of p) k a room None → FindsEvent p s k None
  no_event a here none b takes can =
      let act = has_act p s (event b) a is here can in
      none b (record { can = act; lets = lets_by s k room bits b takes (has_ways p s (event b) a is here can) })

pub no_actor : (p : Plan) (s : State) (k : ℕ) → IsNetworkOf p s → slice_get s.actors k ≡ None → FindsEvent p s k None
no_actor p s k is none b takes can = has_actor p s (record { actor = k; act = b }) is can none

-- A token that comes.

pub front_of : (p : Plan) (s : State) (k l w : ℕ) → IsNetworkOf p s → CanHappen p s (record { actor = k; act = act.Take l w }) → HasFront s k l
front_of p s k l w is can = by_place (slice_get s.actors k) refl
  where
    by_place : (o : Option Acting) → slice_get s.actors k ≡ o → HasFront s k l
    by_place (Some a) here = has_ways p s (record { actor = k; act = act.Take l w }) a is here can
    by_place None none = absurd (has_actor p s (record { actor = k; act = act.Take l w }) is can none)

pub takes : (p : Plan) (s : State) (k : ℕ) (o : Option ℕ) → IsNetworkOf p s → FindsFront s k o → FindsTake p s k o
takes p s k None is none = λ l w can. none l (front_of p s k l w is can)
takes p s k (Some l) is (f, least) = λ less w.
    let a = some_at s.actors k (subst (λ z. k < z) (sym is.count) less) in
    happens p s (record { actor = k; act = act.Take l w }) a.0 is a.1 (can_take p s k l w a.0 f is a.1) f

-- where each actor rests, all does
pub at_rest : (p : Plan) (s : State) → IsNetworkOf p s → ((k : ℕ) → k < actors p → Rests p s k) → IsAtRest p s
at_rest p s is rests e can = by_act e.act can
  where
    less : e.actor < actors p
    less = elim (cases_lt e.actor (actors p)) [
      | inl h ↦ h
      | inr far ↦ absurd (has_actor p s e is can (slice_get_past s.actors e.actor (subst (λ z. z ≤ e.actor) (sym is.count) far)))
    ]

    quiet : Rests p s e.actor
    quiet = rests e.actor less

    by_act : (b : Act) → CanHappen p s (record { actor = e.actor; act = b }) → ⊥
    by_act (act.Take l w) can = quiet.takes l w can
    by_act a can = quiet.acts a tt can

-- nothing remains of any process, as the code keeps them
pub ended : (p : Plan) (s : State) → IsNetworkOf p s → ((k : ℕ) (a : Acting) → slice_get s.actors k ≡ Some a → IsDone a) ↔ AllHaveEnded p s
ended p s is = ((λ all k less. to k less all), (λ have k a here. from k a here (is.actors k a here) have))
  where
    node_there : (k : ℕ) (a : Acting) → k < length p.nodes → IsActorOf (network_of p) k a → (n : Node) × (a ≡ OfNode n)
    node_there k (OfNode n) less of = (n, refl)
    node_there k (OfSwitch x) less (i, at, of) = absurd (omega arith)

    to : (k : ℕ) → k < length p.nodes → ((j : ℕ) (a : Acting) → slice_get s.actors j ≡ Some a → IsDone a) → (n : net.Node Process) × ((shown s).state k ≡ net.IsNode n) × (n.process.state.rest ≡ Done)
    to k less all =
        let a = some_at s.actors k (subst (λ z. k < z) (sym is.count) (let more = less in omega arith)) in
        let n = node_there k a.0 less (is.actors k a.0 a.1) in
        let here : slice_get s.actors k ≡ Some (OfNode n.0) = a.1 ∙ ap Some n.1 in
        (node_of n.0, state_at s k (OfNode n.0) here, all k (OfNode n.0) here)

    rest_of : (m n : net.Node Process) → net.IsNode m ≡ net.IsNode n → n.process.state.rest ≡ Done → m.process.state.rest ≡ Done
    rest_of m n e done = let same : m ≡ n = cc in ap (λ (z : net.Node Process). z.process.state.rest) same ∙ done

    from : (k : ℕ) (a : Acting) → slice_get s.actors k ≡ Some a → IsActorOf (network_of p) k a → AllHaveEnded p s → IsDone a
    from k (OfNode n) here (less, of) have = let m = have k less in rest_of (node_of n) m.0 (sym (state_at s k (OfNode n) here) ∙ m.1) m.2
    from k (OfSwitch x) here of have = tt

-- an actor of a network that runs some_at dropped nothing
pub none_stray : (p : Plan) (events : List Event) (s : State) (k : ℕ) (a : Acting) → Replays p events s → slice_get s.actors k ≡ Some a → strays_of a ≡ 0
none_stray p events s k (OfNode n) r here = ap (λ (z : net.Actor Process). (vcp_of z).carrier.strays) (sym (state_at s k (OfNode n) here)) ∙ r.runs.headline.no_strays k
none_stray p events s k (OfSwitch x) r here = refl

pub none_lost : (p : Plan) (events : List Event) (s : State) (k : ℕ) (a : Acting) → Replays p events s → slice_get s.actors k ≡ Some a → lost_of a ≡ 0
none_lost p events s k (OfNode n) r here = refl
none_lost p events s k (OfSwitch x) r here =
    let (i, at, of) = r.is.actors k (OfSwitch x) here in
    ap (λ (z : net.Actor Process). (switch_of z).lost) (sym (state_at s k (OfSwitch x) here)) ∙ ap (λ z. (switch_of ((shown s).state z)).lost) at ∙ r.runs.headline.none_lost i

-- Bits of room.

whole : (n : ℕ) → n < 4294967296 → 1 * n % 4294967296 ≡ n
whole n small = omega arith

-- one more is set
set_bit : (room new i j : ℕ) → i < 32 → new ≡ bit_or room (1 * 2 ^ i % 4294967296) → bit_at new j ≡ max (bit_at room j) (bit_at (2 ^ i) j)
set_bit room new i j small is = ap (λ z. bit_at z j) (is ∙ ap (bit_or room) (whole (2 ^ i) (pow-lt small))) ∙ bit_at_or room (2 ^ i) j

module _ (Has : ℕ → Type 0) (room new i : ℕ) (small : i < 32) (before : (j : ℕ) → j < i → (bit_at room j ≡ 1) ↔ Has j) (rest : (j : ℕ) → i ≤ j → bit_at room j ≡ 0) where
  abbrev Told : Type 0
  Told = (j : ℕ) → j < i + 1 → (bit_at new j ≡ 1) ↔ Has j

  abbrev Rest : Type 0
  Rest = (j : ℕ) → i + 1 ≤ j → bit_at new j ≡ 0

  with_bit : (j : ℕ) → new ≡ bit_or room (1 * 2 ^ i % 4294967296) → j ≡ i → bit_at new j ≡ 1
  with_bit j is same =
      let none : bit_at room j ≡ 0 = rest j (omega arith) in
      set_bit room new i j small is ∙ ap (λ z. max z (bit_at (2 ^ i) j)) none ∙ ap (λ z. max 0 (bit_at (2 ^ i) z)) same ∙ ap (max 0) (bit_at-pow_same i)

  as_before : (j : ℕ) → new ≡ bit_or room (1 * 2 ^ i % 4294967296) → (j ≡ i → ⊥) → bit_at new j ≡ bit_at room j
  as_before j is other = set_bit room new i j small is ∙ ap (max (bit_at room j)) (bit_at-pow_other i j other) ∙ least (bit_at room j)
    where
      least : (n : ℕ) → max n 0 ≡ n
      least n = omega arith

  pub bit_set : new ≡ bit_or room (1 * 2 ^ i % 4294967296) → Has i → Told × Rest
  bit_set is some_at = (told, (λ j later. as_before j is (λ same. omega arith) ∙ rest j (omega arith)))
    where
      told : Told
      told j less = elim (cases_lt j i) [
        | inl sooner ↦ subst (λ z. (z ≡ 1) ↔ Has j) (sym (as_before j is (λ same. omega arith))) (before j sooner)
        | inr later ↦ (let same : j ≡ i = omega arith in ((λ t. subst Has (sym same) some_at), (λ h. with_bit j is same)))
      ]

  pub bit_clear : new ≡ room → (Has i → ⊥) → Told × Rest
  bit_clear is none = (told, (λ j later. ap (λ z. bit_at z j) is ∙ rest j (omega arith)))
    where
      told : Told
      told j less = elim (cases_lt j i) [
        | inl sooner ↦ subst (λ z. (bit_at z j ≡ 1) ↔ Has j) (sym is) (before j sooner)
        | inr later ↦ (let same : j ≡ i = omega arith in
            let zero_bit : bit_at new j ≡ 0 = ap (λ z. bit_at z j) is ∙ rest j later in
            ((λ t. absurd (let q : 0 ≡ 1 = sym zero_bit ∙ t in omega arith)), (λ h. absurd (none (subst Has same h)))))
      ]

pub same_some : {X : Type 0} (o : Option X) (x y : X) → o ≡ Some x → o ≡ Some y → x ≡ y
same_some o x y e f = let g : Some x ≡ Some y = sym e ∙ f in cc

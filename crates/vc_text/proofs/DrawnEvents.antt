-- Events that are drawn, one after another.
use Rattle.std.proofs.Common.{◌≡◌, ◌⊎◌, ◌+◌, ◌<◌, ◌≤◌, ◌%◌, ◌≢◌, ℕ, List, [], ◌∷◌, ◌++◌, length, length-append, get_or, slice_get, Some, refl, sym, ap, ◌∙◌, subst, inl, inr, arith}
use mathlib.Core.Path.{fun_ext}
use Rattle.std.specs.List.{range_with_len}
use Rattle.std.proofs.lemmas.Option.{slice_get_read, slice_get_within}
use Rattle.rand_pcg.specs.Lcg.{Lcg}
use Rattle.rand_pcg.specs.Pcg.{pcg32}
use Rattle.vc_network.specs.Network.{Happens, begins}
use Rattle.vc_switch.specs.Waiting.{Wormhole}
use Rattle.vc_plan.specs.declared.plan.Plan.{Plan}
use Rattle.vc_plan.proofs.Members.{range-In}
use Rattle.vc_accepted.specs.Begin.{begin_of}
use Rattle.vc_accepted.specs.NetworkOf.{network_of}
use Rattle.vc_accepted.specs.Process.{does}
use Rattle.vc_actor.specs.Turns.{TakesNone, actors}
use Rattle.vc_actor.specs.declared.act.Act.{Act}
use Rattle.vc_actor.specs.declared.act.Act.TheVariants.{Proc, Take, Put, Route, Fct, Pass}
use Rattle.vc_core.specs.Choices.{AreReady, HasEvent, MayMakeOne, acts_of, without_word}
use Rattle.vc_core.specs.PossibleEvents.{NetworkState, CanHappen}
use Rattle.vc_core.specs.Private.Turns.{IsAtRest}
use Rattle.vc_core.specs.Replay.{Reached}
use Rattle.vc_core.specs.State.{State, shown, state_of, event_of, IsNetworkOf, MakesEvent}
use Rattle.vc_core.specs.declared.event.Event.{Event}
use Rattle.vc_core.proofs.Awake.{front_happens}
use Rattle.vc_core.proofs.ListedActs.{those_are, those_in}
use Rattle.vc_core.proofs.ReplayRuns.{reached_next, replays}
use Rattle.vc_core.proofs.Turns.{at_rest, front_of}
use Rattle.vc_core.proofs.WayTable.{few}
use Rattle.vc_text.specs.Private.Draws.{DrawsAct, DrawsActor, GivesWord, HasDrawn, IsOfPlan}
use Rattle.vc_text.specs.Private.Generators.{HaveGiven}
use Rattle.vc_text.specs.Private.Simulation.{HasRun}
use Rattle.vc_text.specs.Schedules.{AreDrawn, IsDrawn, Picks, drawer}
use Rattle.vc_text.specs.declared.generators.Generators.{Generators}
use Rattle.vc_text.specs.RunText.{IsRunSoFar}
use Rattle.vc_text.specs.declared.schedule.Schedule.TheVariants.{Random}
use Rattle.vc_text.specs.declared.simulation.Simulation.{Simulation}
use Rattle.vc_text.proofs.Closes.{rests_of}
use Rattle.vc_text.proofs.GeneratorDraws.{given_still, given_take, given_words}

-- two acts that differ in no more than a word: takes by one link, or one act that is no take
pub alike : (a b : Act) → without_word a ≡ without_word b → ((l : ℕ) × (v : ℕ) × (w : ℕ) × (a ≡ Take l v) × (b ≡ Take l w)) ⊎ ((a ≡ b) × TakesNone a)
alike (Take l v) (Take k w) e = let same : l ≡ k = cc in inl (l, v, w, refl, ap (λ z. Take z w) (sym same))
alike (Take l v) b e = absurd (cc)
alike a (Take k w) e = absurd (cc)
alike (Proc m) b e = inr (e, tt)
alike (Put l) b e = inr (e, tt)
alike (Route i o) b e = inr (e, tt)
alike (Fct l) b e = inr (e, tt)
alike (Pass l) b e = inr (e, tt)

-- whichever word a take has, it can happen
pub can_worded : (p : Plan) (s : State) (k : ℕ) (a b : Act) → IsNetworkOf p s → without_word b ≡ without_word a → CanHappen p s (record { actor = k; act = a }) → CanHappen p s (record { actor = k; act = b })
can_worded p s k a b is e can = elim (alike b a e) [
  | inl (l, v, w, take_b, take_a) ↦
      subst (λ z. CanHappen p s (record { actor = k; act = z })) (sym take_b)
      (front_happens p s k l v is (front_of p s k l w is (subst (λ z. CanHappen p s (record { actor = k; act = z })) take_a can)))
  | inr (same, none) ↦ subst (λ z. CanHappen p s (record { actor = k; act = z })) (sym same) can
]

-- an event has the word that it takes
pub given_act : (p : Plan) (es : List Event) (k : ℕ) (act : Act) (a b : Generators) → GivesWord a k act b → HaveGiven p es a → HaveGiven p (es ++ record { actor = k; act = act } ∷ []) b
given_act p es k (Take l w) a b gives given = given_take p es a b k l w gives given
given_act p es k (Proc m) a b same given = given_still p es (record { actor = k; act = Proc m }) a b tt (ap (λ (g : Generators). g.words) same) given
given_act p es k (Put l) a b same given = given_still p es (record { actor = k; act = Put l }) a b tt (ap (λ (g : Generators). g.words) same) given
given_act p es k (Route i o) a b same given = given_still p es (record { actor = k; act = Route i o }) a b tt (ap (λ (g : Generators). g.words) same) given
given_act p es k (Fct l) a b same given = given_still p es (record { actor = k; act = Fct l }) a b tt (ap (λ (g : Generators). g.words) same) given
given_act p es k (Pass l) a b same given = given_still p es (record { actor = k; act = Pass l }) a b tt (ap (λ (g : Generators). g.words) same) given

-- one event more is drawn
drawn_more : (p : Plan) (g : Lcg) (x : NetworkState) (es : List Event) (y : NetworkState) (h : Lcg) (e : Event) (z : NetworkState) (next : Lcg) →
    AreDrawn p g x es y h → IsDrawn p y h e next → Happens (network_of p) Wormhole does y (event_of e) z → AreDrawn p g x (es ++ e ∷ []) z next
drawn_more p g x [] y h e z next (same, is) drawn happens =
    (z, next, subst (λ l. IsDrawn p x l e next) is (subst (λ s. IsDrawn p s h e next) same drawn), subst (λ s. Happens (network_of p) Wormhole does s (event_of e) z) same happens, (refl, refl))
drawn_more p g x (d ∷ ds) y h e z next (mid, l, first, step, rest) drawn happens = (mid, l, first, step, drawn_more p l mid ds y h e z next rest drawn happens)

pub draws_more : (p : Plan) (seed : ℕ) (es : List Event) (e : Event) (old new : Simulation) (g next : Lcg) → new.made ≡ old.made + 1 → MakesEvent p (state_of old.network) e (state_of new.network) →
    HaveGiven p (es ++ e ∷ []) new.generators → IsDrawn p (shown (state_of old.network)) g e next → HasDrawn p seed es old g → HasDrawn p seed (es ++ e ∷ []) new next
draws_more p seed es e old new g next made makes words drawn has = record {
  runs = record {
    reached = reached_next p es e (state_of old.network) (state_of new.network) has.runs.reached makes;
    many = length-append es (e ∷ []) ∙ ap (λ n. n + 1) has.runs.many ∙ sym made;
    words = words;
  };
  drawn = drawn_more p (drawer seed) (begins (network_of p) (begin_of p)) es (shown (state_of old.network)) g e (shown (state_of new.network)) next has.drawn drawn makes.happens;
}

-- where a run is told of whose events are drawn
pub drawn_so_far : (p : Plan) (seed : ℕ) (es : List Event) (run : Simulation) (last : Lcg) (limit : ℕ) → run.made ≤ limit → HasDrawn p seed es run last → IsRunSoFar p (Random seed) limit es (shown (state_of run.network))
drawn_so_far p seed es run last limit less has = record {
  few = (let many = has.runs.many in omega (arith, less, many));
  runs = (replays p es (state_of run.network) has.runs.reached).runs;
  order = (last, has.drawn);
  words = given_words p es run.generators has.runs.words;
}

-- none is drawn at first
pub none_drawn : (p : Plan) (seed : ℕ) (run : Simulation) → HasRun p [] run → HasDrawn p seed [] run (drawer seed)
none_drawn p seed run has =
    let same = has.reached.happen in
    record { runs = has; drawn = ((λ i. record { state = fun_ext same.states i; way = fun_ext same.ways i }), refl) }

-- an actor and what it does are drawn
pub is_drawn : (p : Plan) (x : NetworkState) (g between next : Lcg) (k : ℕ) (drawn act : Act) → DrawsActor p x g between (Some k) → DrawsAct p x k between next drawn → without_word act ≡ without_word drawn →
    IsDrawn p x g (record { actor = k; act = act }) next
is_drawn p x g between next k drawn act (ready, are, who) (acts, these, what) same =
    record { ready = ready; acts = acts; act = drawn; between = between; are_ready = are; picks_actor = who; are_acts = these; picks_act = what; is = same }

-- what is drawn can happen
pub drawn_can : (p : Plan) (s : State) (k : ℕ) (g next : Lcg) (act : Act) → DrawsAct p (shown s) k g next act → CanHappen p s (record { actor = k; act = act })
drawn_can p s k g next act (acts, these, what) = those_are (λ a. CanHappen p s (record { actor = k; act = a })) (acts_of ((shown s).state k)) acts these _ act what.at

-- whoever can make something is one of 64 actors
pub is_few : (s : State) (k : ℕ) → IsOfPlan s → MayMakeOne s k → k < 64
is_few s k (p, is) (e, by, m) =
    let less = slice_get_within s.actors e.actor m.actor m.here in
    let count = is.count in
    let nodes = (few p is.accepted).0 in
    let switches = (few p is.accepted).1 in
    subst (λ z. z < 64) by (omega (arith, less, count, nodes, switches))

-- where nothing has changed but what the network keeps to itself
pub same_drawn : (p : Plan) (seed : ℕ) (es : List Event) (old new : Simulation) (g next : Lcg) → state_of new.network ≡ state_of old.network → new.made ≡ old.made → new.generators ≡ old.generators → next ≡ g →
    HasDrawn p seed es old g → HasDrawn p seed es new next
same_drawn p seed es old new g next same made words is has = record {
  runs = record {
    reached = subst (Reached p es) (sym same) has.runs.reached;
    many = has.runs.many ∙ sym made;
    words = subst (HaveGiven p es) (sym words) has.runs.words;
  };
  drawn = subst (λ l. AreDrawn p (drawer seed) (begins (network_of p) (begin_of p)) es (shown (state_of new.network)) l) (sym is)
      (subst (λ z. AreDrawn p (drawer seed) (begins (network_of p) (begin_of p)) es (shown z) g) (sym same) has.drawn);
}

-- where no actor has an event all rests
pub none_ready : (p : Plan) (s : State) → IsNetworkOf p s → AreReady p (shown s) [] → IsAtRest p s
none_ready p s is ready = at_rest p s is (λ k less. rests_of p s k (λ has. those_in (HasEvent p (shown s)) (range_with_len 0 (actors p)) [] k (range-In 0 (actors p) k (omega arith) (omega (arith, less))) has ready))

-- a list that has nothing is empty
pub nothing : {X : Type 0} (xs : List X) → length xs ≡ 0 → xs ≡ []
nothing [] e = refl
nothing (x ∷ xs) e = absurd (omega (arith, e))

-- and one that is not has something
pub something : {X : Type 0} (xs : List X) → xs ≢ [] → 0 < length xs
something [] some = absurd (some refl)
something (x ∷ xs) some = omega arith

-- what is at a place
pub there : {X : Type 0} (xs : List X) (count place : ℕ) (x : X) → count ≡ length xs → place < count → x ≡ get_or xs place x → slice_get xs place ≡ Some x
there xs count place x many less read = slice_get_read xs (length xs) place x refl (subst (λ z. place < z) many less) read

-- a place was drawn, and what is there
pub picks : {X : Type 0} (g : Lcg) (xs : List X) (count place : ℕ) (x : X) (next : Lcg) → count ≡ length xs → place < count → place ≡ (pcg32 g).0 % count → x ≡ get_or xs place x → next ≡ (pcg32 g).1 → Picks g xs x next
picks g xs count place x next many less is read after = record {
  at = subst (λ z. slice_get xs z ≡ Some x) (is ∙ ap (λ n. (pcg32 g).0 % n) many) (there xs count place x many less read);
  after = after;
}

-- an act that is no take draws no word
pub gives_none : (g : Generators) (k : ℕ) (a : Act) → TakesNone a → GivesWord g k a g
gives_none g k (Take l w) none = absurd none
gives_none g k (Proc m) none = refl
gives_none g k (Put l) none = refl
gives_none g k (Route i o) none = refl
gives_none g k (Fct l) none = refl
gives_none g k (Pass l) none = refl

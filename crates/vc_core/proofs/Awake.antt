-- Who is awake after an event.
use Rattle.std.proofs.Common.{◌≡◌, ◌≢◌, ℕ, ◌<◌, List, [], ◌∷◌, ◌++◌, length, slice_get, slice_set, Option, Some, None, inl, inr, refl, sym, ap, ◌∙◌, subst, arith}
use Rattle.std.proofs.lemmas.Bool.{cases_eq}
use Rattle.std.proofs.lemmas.List.{length-append}
use Rattle.std.proofs.lemmas.Option.{slice_get_within}
use Rattle.std.specs.Int.{bit_at}
use Rattle.vc_tokens.specs.Tokens.{Token}
use Rattle.vc_vcp.proofs.ListWrites.{place-set_same, place-set_other}
use Rattle.vc_core.specs.Awake.{StaysAwake, TokenCame}
use Rattle.vc_core.specs.PossibleEvents.{CanHappen}
use Rattle.vc_core.specs.Private.Lines.{LeadsTo}
use Rattle.vc_core.specs.Private.Turns.{Rests}
use Rattle.vc_core.specs.State.{State, shown, IsNetworkOf, HasFront, MakesEvent}
use Rattle.vc_core.specs.Turns.{FindsEvent}
use Rattle.vc_core.specs.Wiring.{in_at, Comes}
use Rattle.vc_core.specs.declared.event.Event.{Event}
use Rattle.vc_actor.specs.ActorView.{Acting}
use Rattle.vc_actor.specs.declared.act.Act.{Act}
use Rattle.vc_actor.specs.declared.act.Act.TheVariants.{Proc, Take, Put, Route, Fct, Pass}
use Rattle.vc_plan.specs.declared.plan.Plan.{Plan}
use Rattle.vc_core.proofs.Enablement.{can_take, comes_to, happens}
use Rattle.vc_core.proofs.Quiet.{quiet_after}
use Rattle.vc_core.proofs.Turns.{takes}

-- Whoever is not awake rests.

-- where a token comes it can be taken
pub front_happens : (p : Plan) (s : State) (k l w : ℕ) → IsNetworkOf p s → HasFront s k l → CanHappen p s (record { actor = k; act = Take l w })
front_happens p s k l w is f = by_place (slice_get s.actors k) refl
  where
    by_place : (o : Option Acting) → slice_get s.actors k ≡ o → CanHappen p s (record { actor = k; act = Take l w })
    by_place (Some a) here = happens p s (record { actor = k; act = Take l w }) a is here (can_take p s k l w a f is here) f
    by_place None none = absurd (comes_to p s k l f is none)

-- an actor to which no token comes, and that finds no other event, rests
pub rests_here : (p : Plan) (s : State) (k : ℕ) → IsNetworkOf p s → ((l : ℕ) → HasFront s k l → ⊥) → FindsEvent p s k None → Rests p s k
rests_here p s k is none acts = record { takes = takes p s k None is none; acts = acts }

-- an actor that rests has no event
pub none_happens : (p : Plan) (s : State) (e : Event) → Rests p s e.actor → CanHappen p s e → ⊥
none_happens p s e rests can = by_act e.act can
  where
    by_act : (a : Act) → CanHappen p s (record { actor = e.actor; act = a }) → ⊥
    by_act (Take l w) can = rests.takes l w can
    by_act (Proc made) can = rests.acts (Proc made) tt can
    by_act (Put l) can = rests.acts (Put l) tt can
    by_act (Route i o) can = rests.acts (Route i o) tt can
    by_act (Fct l) can = rests.acts (Fct l) tt can
    by_act (Pass l) can = rests.acts (Pass l) tt can

-- one that rests still does where another acted, if it is not awake then
pub rests_same : (p : Plan) (s t : State) (a b k : ℕ) → IsNetworkOf p s → IsNetworkOf p t → (shown t).state k ≡ (shown s).state k → StaysAwake s a t b → k < 64 → bit_at b k ≡ 0 → Rests p s k → Rests p t k
rests_same p s t a b k is kept same stays low none rests = record {
  takes = takes p t k None kept (λ l f. (let one = stays.woken k l low f (λ g. rests.takes l 0 (front_happens p s k l 0 is g)) in omega (arith, one, none)));
  acts = quiet_after p s t k same rests.acts;
}

pub rests_on : (p : Plan) (s t : State) (e : Event) (a b k : ℕ) → IsNetworkOf p s → MakesEvent p s e t → StaysAwake s a t b → k ≢ e.actor → k < 64 → bit_at b k ≡ 0 → Rests p s k → Rests p t k
rests_on p s t e a b k is made stays other = rests_same p s t a b k is made.kept (made.happens.2.others k other) stays

-- Who is awake.

-- no list is one that has one more
not_grown : (ts : List Token) (t : Token) → Some ts ≡ Some (ts ++ t ∷ []) → ⊥
not_grown ts t same =
    let is : ts ≡ ts ++ t ∷ [] = cc in
    let more = length-append ts (t ∷ []) in
    let all = ap length is in
    omega (arith, more, all)

-- nor one that has one more than it and its first
not_shrunk : (ts rest : List Token) (t u : Token) → Some ts ≡ Some (u ∷ rest) → Some rest ≡ Some (ts ++ t ∷ []) → ⊥
not_shrunk ts rest t u old new =
    let is : ts ≡ u ∷ rest = cc in
    let was : rest ≡ ts ++ t ∷ [] = cc in
    let more = length-append ts (t ∷ []) in
    let all = ap length was in
    let first = ap length is in
    omega (arith, more, all, first)

-- no token came where the ways have not changed
pub none_came : (s t : State) (k : ℕ) → t.ways ≡ s.ways → TokenCame s t k → ⊥
none_came s t k ways f = not_grown f.tokens f.token (sym f.stood ∙ ap (λ z. slice_get z f.way) (sym ways) ∙ f.stands)

-- where nothing has changed
pub still_awake : (s t : State) (a b : ℕ) → t ≡ s → b ≡ a → StaysAwake s a t b
still_awake s t a b state mask = record {
  kept = λ k low is. ap (λ m. bit_at m k) mask ∙ is;
  came = λ k low f. absurd (none_came s t k (ap (λ (z : State). z.ways) state) f);
  woken = λ k l low f none. absurd (none (subst (λ z. HasFront z k l) state f));
  only = λ k low is. inl (ap (λ m. bit_at m k) (sym mask) ∙ is);
}

-- what changed in between has not changed it
pub then_awake : (s t u : State) (a b c : ℕ) → t ≡ s → b ≡ a → StaysAwake t b u c → StaysAwake s a u c
then_awake s t u a b c state mask stays = subst (λ z. StaysAwake z a u c) state (subst (λ m. StaysAwake t m u c) mask stays)

module _ (wiring : List (Option ℕ)) (ways : List (List Token)) (w : ℕ) (ts : List Token) where
  -- what comes by a way to which nothing was done came by it before
  other_came : (k l : ℕ) (f : Comes wiring (slice_set ways w ts) k l) → f.way ≢ w → Comes wiring ways k l
  other_came k l f ne = record { way = f.way; token = f.token; rest = f.rest; into = f.into; stands = sym (place-set_other ways w f.way ts ne) ∙ f.stands }

  -- no token came by a way to which nothing was done
  other_none : (n : ℕ) (tokens : List Token) (t : Token) → n ≢ w → slice_get ways n ≡ Some tokens → slice_get (slice_set ways w ts) n ≡ Some (tokens ++ t ∷ []) → ⊥
  other_none n tokens t ne stood stands = not_grown tokens t (sym stood ∙ sym (place-set_other ways w n ts ne) ∙ stands)

  -- a token was taken: none came
  pub taken_none : (u : Token) → slice_get ways w ≡ Some (u ∷ ts) → (n : ℕ) (tokens : List Token) (t : Token) → slice_get ways n ≡ Some tokens → slice_get (slice_set ways w ts) n ≡ Some (tokens ++ t ∷ []) → ⊥
  taken_none u was n tokens t stood stands = elim (cases_eq n w) [
    | inl same ↦ not_shrunk tokens ts t u (sym stood ∙ ap (slice_get ways) same ∙ was) (sym (place-set_same ways w ts (slice_get_within ways w (u ∷ ts) was)) ∙ ap (slice_get (slice_set ways w ts)) (sym same) ∙ stands)
    | inr ne ↦ other_none n tokens t ne stood stands
  ]

  -- a token was put: whoever one came to is awake
  pub put_came : (to after : ℕ) → LeadsTo wiring w to → bit_at after to ≡ 1 → (k l n : ℕ) (tokens : List Token) (t : Token) →
      in_at wiring k l ≡ Some n → slice_get ways n ≡ Some tokens → slice_get (slice_set ways w ts) n ≡ Some (tokens ++ t ∷ []) → bit_at after k ≡ 1
  put_came to after leads it k l n tokens t into stood stands = elim (cases_eq n w) [
    | inl same ↦ subst (λ z. bit_at after z ≡ 1) ((leads k).1 (l, into ∙ ap Some same)) it
    | inr ne ↦ absurd (other_none n tokens t ne stood stands)
  ]

  -- a token was taken: what comes by its link came by it before
  pub taken_came : (t : Token) (rest : List Token) → slice_get ways w ≡ Some (t ∷ rest) → (k l : ℕ) → Comes wiring (slice_set ways w ts) k l → Comes wiring ways k l
  taken_came t rest stood k l f = elim (cases_eq f.way w) [
    | inl same ↦ record { way = w; token = t; rest = rest; into = f.into ∙ ap Some same; stands = stood }
    | inr ne ↦ other_came k l f ne
  ]

  -- a token was put: it comes to the actor to which the way leads
  pub put_wakes : (to after : ℕ) → LeadsTo wiring w to → bit_at after to ≡ 1 → (k l : ℕ) → Comes wiring (slice_set ways w ts) k l → (Comes wiring ways k l → ⊥) → bit_at after k ≡ 1
  put_wakes to after leads it k l f none = elim (cases_eq f.way w) [
    | inl same ↦ subst (λ z. bit_at after z ≡ 1) ((leads k).1 (l, f.into ∙ ap Some same)) it
    | inr ne ↦ absurd (none (other_came k l f ne))
  ]

  -- and stands at its end
  pub put_stands : (tokens : List Token) (t : Token) → slice_get ways w ≡ Some tokens → ts ≡ tokens ++ t ∷ [] → slice_get (slice_set ways w ts) w ≡ Some (tokens ++ t ∷ [])
  put_stands tokens t stood is = place-set_same ways w ts (slice_get_within ways w tokens stood) ∙ ap Some is

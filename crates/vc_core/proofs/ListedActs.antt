-- Lists of those of a list of which something is so, and what is listed of an actor's acts.
use Rattle.std.proofs.Common.{◌≡◌, ◌≢◌, ◌↔◌, ℕ, zero, suc, ◌+◌, ◌<◌, Bool, true, false, IsTrue, List, [], ◌∷◌, ◌++◌, append-nil, append_assoc, map, slice_get, Option, Some, None, is_some, IfSome, MatchOption, Result, Ok, Err, OnOk, refl, sym, ap, ◌∙◌, subst, inl, inr, arith}
use Rattle.std.proofs.lemmas.Bool.{false≢true}
use Rattle.std.proofs.lemmas.Grind.{flat_map-append}
use Rattle.std.specs.List.{AllByRecursion, Contains, flat_map, range_with_len}
use Rattle.vc_occam.specs.Runnings.{moves}
use Rattle.vc_plan.specs.declared.plan.Plan.{Plan}
use Rattle.vc_plan.proofs.Members.{In, In-left, In-right, flat_map-In, map-In, range-In}
use Rattle.vc_switch.specs.Able.{CanLeave, CanRoute}
use Rattle.vc_switch.specs.Forward.{SwitchPlan}
use Rattle.vc_switch.specs.State.{State as SwitchState, plan_of}
use Rattle.vc_switch.specs.Switch.{Switch as Switching}
use Rattle.vc_switch.specs.SwitchView.{seen}
use Rattle.vc_actor.specs.Acts.{HasLink, MayAct}
use Rattle.vc_actor.specs.ActorView.{Acting, OfNode, OfSwitch, actor_of}
use Rattle.vc_actor.specs.Parts.{node_in, switch_in}
use Rattle.vc_actor.specs.Turns.{actors}
use Rattle.vc_actor.specs.declared.node.Node.{Node}
use Rattle.vc_actor.specs.declared.act.Act.{Act}
use Rattle.vc_actor.specs.declared.act.Act.TheVariants.{Proc, Take, Put, Route, Fct, Pass}
use Rattle.vc_core.specs.Choices.{AreActs, AreThose, HasEvent, MayMakeOne, acts_at, acts_of, routes_at, without_word}
use Rattle.vc_core.specs.Private.Choices.{Adds, IsSwitchAt, Lists}
use Rattle.vc_core.specs.PossibleEvents.{CanHappen}
use Rattle.vc_core.specs.Private.Turns.{Rests}
use Rattle.vc_core.specs.State.{State, shown, IsNetworkOf, MayActAt, MayHappen, WaysLet}
use Rattle.vc_core.specs.Turns.{FindsEvent, FindsFront, FindsTake}
use Rattle.vc_core.specs.declared.event.Event.{Event}
use Rattle.vc_core.proofs.Awake.{none_happens}
use Rattle.vc_core.proofs.Enablement.{comes_to, has_act, has_actor}
use Rattle.vc_core.proofs.Events.{state_at}
use Rattle.vc_core.proofs.Takes.{has_link}

-- Those of a list of which something is so.

module _ {X : Type 0} (Is : X → Type 0) where
  pub those_none : (xs : List X) → ((x : X) → Is x → ⊥) → AreThose Is xs []
  those_none [] none = refl
  those_none (x ∷ xs) none = inr (none x, those_none xs none)

  pub those_none_of : {Y : Type 0} (f : Y → X) (ys : List Y) → ((y : Y) → Is (f y) → ⊥) → AreThose Is (map f ys) []
  those_none_of f [] none = refl
  those_none_of f (y ∷ ys) none = inr (none y, those_none_of f ys none)

  pub those_join : (xs ys us vs : List X) → AreThose Is xs us → AreThose Is ys vs → AreThose Is (xs ++ ys) (us ++ vs)
  those_join [] ys us vs a b = subst (λ z. AreThose Is ys (z ++ vs)) (sym a) b
  those_join (x ∷ xs) ys us vs (inl (is, (rest, e, a))) b = inl (is, (rest ++ vs, ap (λ z. z ++ vs) e, those_join xs ys rest vs a b))
  those_join (x ∷ xs) ys us vs (inr (not, a)) b = inr (not, those_join xs ys us vs a b)

  front_is : (x y : X) (rest : List X) (i : ℕ) → Is x → ((j : ℕ) → slice_get rest j ≡ Some y → Is y) → slice_get (x ∷ rest) i ≡ Some y → Is y
  front_is x y rest zero is others h = let same : x ≡ y = cc in subst Is same is
  front_is x y rest (suc j) is others h = others j h

  pub those_are : (xs found : List X) → AreThose Is xs found → (i : ℕ) (y : X) → slice_get found i ≡ Some y → Is y
  those_are [] found e i y h = absurd (let none : slice_get [] i ≡ Some y = subst (λ z. slice_get z i ≡ Some y) e h in cc)
  those_are (x ∷ xs) found (inr (not, a)) i y h = those_are xs found a i y h
  those_are (x ∷ xs) found (inl (is, (rest, e, a))) i y h = front_is x y rest i is (λ j. those_are xs rest a j y) (subst (λ z. slice_get z i ≡ Some y) e h)

  pub those_in : (xs found : List X) (x : X) → In x xs → Is x → AreThose Is xs found → In x found
  those_in [] found x i is a = absurd i
  those_in (z ∷ xs) found x (inl e) is (inl (has, (rest, f, a))) = subst (In x) (sym f) (inl e)
  those_in (z ∷ xs) found x (inl e) is (inr (not, a)) = absurd (not (subst Is (sym e) is))
  those_in (z ∷ xs) found x (inr i) is (inl (has, (rest, f, a))) = subst (In x) (sym f) (inr (those_in xs rest x i is a))
  those_in (z ∷ xs) found x (inr i) is (inr (not, a)) = those_in xs found x i is a

  pub those_from : (xs found : List X) (x : X) → AreThose Is xs found → In x found → In x xs
  those_from [] found x e i = subst (In x) e i
  those_from (z ∷ xs) found x (inr (not, a)) i = inr (those_from xs found x a i)
  those_from (z ∷ xs) found x (inl (is, (rest, e, a))) i = elim (subst (In x) e i) [ inl same ↦ inl same | inr later ↦ inr (those_from xs rest x a later) ]

  -- one list has them
  pub those_one : (xs us vs : List X) → AreThose Is xs us → AreThose Is xs vs → us ≡ vs
  those_one [] us vs a b = a ∙ sym b
  those_one (x ∷ xs) us vs (inl (is, (rest, e, a))) (inl (has, (more, f, b))) = e ∙ ap (λ z. x ∷ z) (those_one xs rest more a b) ∙ sym f
  those_one (x ∷ xs) us vs (inl (is, h)) (inr (not, b)) = absurd (not is)
  those_one (x ∷ xs) us vs (inr (not, a)) (inl (has, h)) = absurd (not has)
  those_one (x ∷ xs) us vs (inr (not, a)) (inr (none, b)) = those_one xs us vs a b

  pub those_with : (x : X) → Is x → AreThose Is (x ∷ []) (x ∷ [])
  those_with x is = inl (is, ([], refl, refl))

  pub those_without : (x : X) → (Is x → ⊥) → AreThose Is (x ∷ []) []
  those_without x not = inr (not, refl)

-- what holds of each holds of one more
pub all_more : {X : Type 0} (P : X → Type 0) (xs : List X) (x : X) → AllByRecursion P xs → P x → AllByRecursion P (xs ++ x ∷ [])
all_more P [] x all it = (it, tt)
all_more P (y ∷ ys) x all it = (all.0, all_more P ys x all.1 it)

pub some_in : {X : Type 0} (xs : List X) (x : X) → In x xs → xs ≢ []
some_in [] x i = λ e. i
some_in (y ∷ ys) x i = λ e. absurd (cc)

-- what holds of each holds of the one at a place
pub all_at : {X : Type 0} (P : X → Type 0) (xs : List X) (i : ℕ) (x : X) → AllByRecursion P xs → slice_get xs i ≡ Some x → P x
all_at P [] i x all e = absurd (cc)
all_at P (y ∷ ys) zero x all e = let same : y ≡ x = cc in subst P same all.0
all_at P (y ∷ ys) (suc i) x all e = all_at P ys i x all.1 e

pub place_in : {X : Type 0} (xs : List X) (i : ℕ) (x : X) → slice_get xs i ≡ Some x → In x xs
place_in [] i x e = absurd (cc)
place_in (y ∷ ys) zero x e = let same : y ≡ x = cc in inl same
place_in (y ∷ ys) (suc i) x e = inr (place_in ys i x e)

-- an element by its place is one
pub element_in : {X : Type 0} (xs : List X) (x : X) → Contains xs x → In x xs
element_in [] x (k, less, is) = absurd (omega (arith, less))
element_in (y ∷ ys) x (zero, less, is) = inl is
element_in (y ∷ ys) x (suc k, less, is) = inr (element_in ys x (k, omega (arith, less), is))

-- Numbers in order.

range_suc : (a n : ℕ) → range_with_len a (suc n) ≡ range_with_len a n ++ (a + n) ∷ []
range_suc a zero = ap (λ z. z ∷ []) (let e : a ≡ a + 0 = omega arith in e)
range_suc a (suc n) = ap (λ z. a ∷ z) (range_suc (a + 1) n ∙ ap (λ z. range_with_len (a + 1) n ++ z ∷ []) (let e : (a + 1) + n ≡ a + suc n = omega arith in e))

pub range_more : (n : ℕ) → range_with_len 0 (n + 1) ≡ range_with_len 0 n ++ n ∷ []
range_more n =
    let one : n + 1 ≡ suc n = omega arith in
    let none : 0 + n ≡ n = omega arith in
    ap (range_with_len 0) one ∙ range_suc 0 n ∙ ap (λ z. range_with_len 0 n ++ z ∷ []) none

pub flat_more : {X : Type 0} (f : ℕ → List X) (n : ℕ) → flat_map f (range_with_len 0 (n + 1)) ≡ flat_map f (range_with_len 0 n) ++ f n
flat_more f n = ap (flat_map f) (range_more n) ∙ flat_map-append f (range_with_len 0 n) (n ∷ []) ∙ ap (λ z. flat_map f (range_with_len 0 n) ++ z) (append-nil (f n))

-- What is listed of an actor's acts.

adds_join : (Is : Act → Type 0) (xs ys a b c : List Act) → Adds Is xs a b → Adds Is ys b c → Adds Is (xs ++ ys) a c
adds_join Is xs ys a b c (us, those, e) (vs, these, f) = (us ++ vs, those_join Is xs ys us vs those these, f ∙ ap (λ z. z ++ vs) e ∙ append_assoc a us vs)

module _ (s : State) (k : ℕ) where
  pub lists_none : (a : List Act) → Lists s k [] a a
  lists_none a = record { may = ([], refl, sym (append-nil a)); can = λ p is. ([], refl, sym (append-nil a)) }

  pub lists_join : (xs ys a b c : List Act) → Lists s k xs a b → Lists s k ys b c → Lists s k (xs ++ ys) a c
  lists_join xs ys a b c l m = record {
    may = adds_join (λ x. MayHappen s (record { actor = k; act = x })) xs ys a b c l.may m.may;
    can = λ p is. adds_join (λ x. CanHappen p s (record { actor = k; act = x })) xs ys a b c (l.can p is) (m.can p is);
  }

  -- none can be made
  pub lists_nothing : (xs a : List Act) → ((x : Act) → MayHappen s (record { actor = k; act = x }) → ⊥) → ((p : Plan) → IsNetworkOf p s → (x : Act) → CanHappen p s (record { actor = k; act = x }) → ⊥) → Lists s k xs a a
  lists_nothing xs a refuted none = record {
    may = ([], those_none (λ x. MayHappen s (record { actor = k; act = x })) xs refuted, sym (append-nil a));
    can = λ p is. ([], those_none (λ x. CanHappen p s (record { actor = k; act = x })) xs (none p is), sym (append-nil a));
  }

  -- one act is tested
  pub lists_one : (x : Act) (a b : List Act) (t : Bool) → (IsTrue t ↔ MayHappen s (record { actor = k; act = x })) → ((p : Plan) → IsNetworkOf p s → IsTrue t ↔ CanHappen p s (record { actor = k; act = x })) →
      t ≡ true → b ≡ a ++ x ∷ [] → Lists s k (x ∷ []) a b
  lists_one x a b t may can holds e = record {
    may = (x ∷ [], those_with (λ y. MayHappen s (record { actor = k; act = y })) x (may.0 holds), e);
    can = λ p is. (x ∷ [], those_with (λ y. CanHappen p s (record { actor = k; act = y })) x ((can p is).0 holds), e);
  }

  pub lists_not : (x : Act) (a : List Act) (t : Bool) → (IsTrue t ↔ MayHappen s (record { actor = k; act = x })) → ((p : Plan) → IsNetworkOf p s → IsTrue t ↔ CanHappen p s (record { actor = k; act = x })) →
      t ≡ false → Lists s k (x ∷ []) a a
  lists_not x a t may can fails = record {
    may = ([], those_without (λ y. MayHappen s (record { actor = k; act = y })) x (λ m. false≢true (sym fails ∙ may.1 m)), sym (append-nil a));
    can = λ p is. ([], those_without (λ y. CanHappen p s (record { actor = k; act = y })) x (λ m. false≢true (sym fails ∙ (can p is).1 m)), sym (append-nil a));
  }

-- where no packet at an input may leave, none can be bound
cannot : (plan : SwitchPlan) (s : Switching) (i o : ℕ) → CanRoute plan s i o → CanLeave plan s i o
cannot plan s i o (new, r) = record { body = r.body; unbound = r.unbound; leaves = r.group }

pub lists_no_route : (s : State) (k : ℕ) (switch : SwitchState) (i : ℕ) (a : List Act) → IsSwitchAt s k switch → ((o : ℕ) → CanLeave (plan_of switch) (seen switch) i o → ⊥) → Lists s k (routes_at i) a a
lists_no_route s k switch i a here none = record {
  may = ([], those_none_of (λ x. MayHappen s (record { actor = k; act = x })) (Route i) (range_with_len 0 32) no_may, sym (append-nil a));
  can = λ p is. ([], those_none_of (λ x. CanHappen p s (record { actor = k; act = x })) (Route i) (range_with_len 0 32) (no_can p is), sym (append-nil a));
}
  where
    no_may : (o : ℕ) → MayHappen s (record { actor = k; act = Route i o }) → ⊥
    no_may o m =
        let both : Some m.actor ≡ Some (OfSwitch switch) = sym m.here ∙ here in
        let same : m.actor ≡ OfSwitch switch = cc in
        let may = subst (λ z. MayAct z (Route i o)) same m.may in
        none o (cannot (plan_of switch) (seen switch) i o may.can)

    no_can : (p : Plan) → IsNetworkOf p s → (o : ℕ) → CanHappen p s (record { actor = k; act = Route i o }) → ⊥
    no_can p is o can = none o (cannot (plan_of switch) (seen switch) i o (has_act p s (record { actor = k; act = Route i o }) (OfSwitch switch) is here can))

-- what is so where there is nothing
pub where_none : {X : Type 0} (A : Type 0) (B : X → Type 0) (o : Option X) → o ≡ None → MatchOption o A B → A
where_none A B None e h = h
where_none A B (Some x) e h = absurd (cc)

-- the actor is a node, or a switch, or there is none
pub node_is : (a : Acting) (n : Node) → Some n ≡ node_in a → a ≡ OfNode n
node_is (OfNode m) n e = let same : n ≡ m = cc in ap OfNode (sym same)
node_is (OfSwitch x) n e = absurd (cc)

pub switch_is : (a : Acting) (x : SwitchState) → Some x ≡ switch_in a → a ≡ OfSwitch x
switch_is (OfNode m) x e = absurd (cc)
switch_is (OfSwitch y) x e = let same : x ≡ y = cc in ap OfSwitch (sym same)

pub is_neither : (a : Acting) → None ≡ node_in a → None ≡ switch_in a → ⊥
is_neither (OfNode m) e f = absurd (cc)
is_neither (OfSwitch y) e f = absurd (cc)

-- where there is no actor nothing can be made
pub lists_nobody : (s : State) (k : ℕ) (xs a : List Act) → slice_get s.actors k ≡ None → Lists s k xs a a
lists_nobody s k xs a none = lists_nothing s k xs a may can
  where
    may : (x : Act) → MayHappen s (record { actor = k; act = x }) → ⊥
    may x m = let both : Some m.actor ≡ None = sym m.here ∙ none in absurd (cc)

    can : (p : Plan) → IsNetworkOf p s → (x : Act) → CanHappen p s (record { actor = k; act = x }) → ⊥
    can p is x h = has_actor p s (record { actor = k; act = x }) is h none

-- Whoever can make something has it listed.

at_node : (l : ℕ) (a : Act) (ms : List Act) → l < 4 → In a (acts_at l) → In a (flat_map acts_at (range_with_len 0 4) ++ ms)
at_node l a ms few here = In-left a (flat_map acts_at (range_with_len 0 4)) ms (flat_map-In acts_at (range_with_len 0 4) l a (range-In 0 4 l (omega arith) (omega (arith, few))) here)

at_switch : (l : ℕ) (a : Act) → l < 32 → In a (acts_at l ++ routes_at l) → In a (flat_map (λ i. acts_at i ++ routes_at i) (range_with_len 0 32))
at_switch l a few here = flat_map-In (λ i. acts_at i ++ routes_at i) (range_with_len 0 32) l a (range-In 0 32 l (omega arith) (omega (arith, few))) here

among : (x : Acting) (a : Act) → MayAct x a → In (without_word a) (acts_of (actor_of x))
among (OfNode n) (Proc m) may = In-right (Proc m) (flat_map acts_at (range_with_len 0 4)) (map Proc (moves n.process)) (map-In Proc (moves n.process) m (element_in (moves n.process) m may.listed))
among (OfNode n) (Take l w) may = at_node l (Take l 0) (map Proc (moves n.process)) may (inl refl)
among (OfNode n) (Pass l) may = at_node l (Pass l) (map Proc (moves n.process)) may.0 (inr (inl refl))
among (OfNode n) (Put l) may = at_node l (Put l) (map Proc (moves n.process)) may.0 (inr (inr (inl refl)))
among (OfNode n) (Fct l) may = at_node l (Fct l) (map Proc (moves n.process)) may.0 (inr (inr (inr (inl refl))))
among (OfNode n) (Route i o) may = absurd may
among (OfSwitch s) (Proc m) may = absurd may.links
among (OfSwitch s) (Take l w) may = at_switch l (Take l 0) may.links (inl refl)
among (OfSwitch s) (Pass l) may = at_switch l (Pass l) may.links (inr (inl refl))
among (OfSwitch s) (Put l) may = at_switch l (Put l) may.links (inr (inr (inl refl)))
among (OfSwitch s) (Fct l) may = at_switch l (Fct l) may.links (inr (inr (inr (inl refl))))
among (OfSwitch s) (Route i o) may =
    at_switch i (Route i o) may.links.0 (In-right (Route i o) (acts_at i) (routes_at i) (map-In (Route i) (range_with_len 0 32) o (range-In 0 32 o (omega arith) (omega (arith, may.links.1)))))

-- and whichever word it draws
wordless : (x : Acting) (a : Act) → MayAct x a → MayAct x (without_word a)
wordless (OfNode n) (Take l w) may = may
wordless (OfNode n) (Proc m) may = may
wordless (OfNode n) (Pass l) may = may
wordless (OfNode n) (Put l) may = may
wordless (OfNode n) (Fct l) may = may
wordless (OfNode n) (Route i o) may = may
wordless (OfSwitch s) (Take l w) may = record { links = may.links; can = may.can }
wordless (OfSwitch s) (Proc m) may = may
wordless (OfSwitch s) (Pass l) may = may
wordless (OfSwitch s) (Put l) may = may
wordless (OfSwitch s) (Fct l) may = may
wordless (OfSwitch s) (Route i o) may = may

ways_wordless : (s : State) (k : ℕ) (a : Act) → WaysLet s k a → WaysLet s k (without_word a)
ways_wordless s k (Take l w) ways = ways
ways_wordless s k (Proc m) ways = ways
ways_wordless s k (Pass l) ways = ways
ways_wordless s k (Put l) ways = ways
ways_wordless s k (Fct l) ways = ways
ways_wordless s k (Route i o) ways = ways

pub some_listed : (s : State) (k : ℕ) (new : List Act) → MayMakeOne s k → Lists s k (acts_of ((shown s).state k)) [] new → new ≢ []
some_listed s k new (e, by, m) l =
    let a = without_word e.act in
    let here : slice_get s.actors k ≡ Some m.actor = subst (λ z. slice_get s.actors z ≡ Some m.actor) by m.here in
    let in_all : In a (acts_of ((shown s).state k)) = subst (λ z. In a (acts_of z)) (sym (state_at s k m.actor here)) (among m.actor e.act m.may) in
    let can : MayHappen s (record { actor = k; act = a }) = record { actor = m.actor; here = here; may = wordless m.actor e.act m.may; ways = ways_wordless s k e.act (subst (λ z. WaysLet s z e.act) by m.ways) } in
    let found = those_in (λ x. MayHappen s (record { actor = k; act = x })) (acts_of ((shown s).state k)) l.may.0 a in_all can l.may.1 in
    subst (λ z. z ≢ []) (sym l.may.2) (some_in l.may.0 a found)

pub all_listed : (p : Plan) (s : State) (k : ℕ) (new : List Act) → IsNetworkOf p s → Lists s k (acts_of ((shown s).state k)) [] new → AreActs p (shown s) k new
all_listed p s k new is l = let h = l.can p is in subst (AreActs p (shown s) k) (sym h.2) h.1

-- where it went well
pub on_ok : {X E : Type 0} (r : Result X E) (P Q : Type 0) → (P → Q) → OnOk r P → OnOk r Q
on_ok (Ok x) P Q f h = f h
on_ok (Err e) P Q f h = h

-- Who has an event.

pub ready_more : (Is : ℕ → Type 0) (n : ℕ) (us : List ℕ) → AreThose Is (range_with_len 0 n) us → Is n → AreThose Is (range_with_len 0 (n + 1)) (us ++ n ∷ [])
ready_more Is n us those it = subst (λ z. AreThose Is z (us ++ n ∷ [])) (sym (range_more n)) (those_join Is (range_with_len 0 n) (n ∷ []) us (n ∷ []) those (those_with Is n it))

pub ready_not : (Is : ℕ → Type 0) (n : ℕ) (us : List ℕ) → AreThose Is (range_with_len 0 n) us → (Is n → ⊥) → AreThose Is (range_with_len 0 (n + 1)) us
ready_not Is n us those not =
    subst (λ z. AreThose Is z us) (sym (range_more n))
    (subst (λ z. AreThose Is (range_with_len 0 n ++ n ∷ []) z) (append-nil us) (those_join Is (range_with_len 0 n) (n ∷ []) us [] those (those_without Is n not)))

-- a link was found by which a token comes
pub has_by_take : (p : Plan) (s : State) (k : ℕ) (o : Option ℕ) → is_some o ≡ true → k < actors p → FindsTake p s k o → HasEvent p (shown s) k
has_by_take p s k (Some l) some node takes = (record { actor = k; act = Take l 0 }, refl, takes node 0)
has_by_take p s k None some node takes = absurd (cc)

-- or none was, and an act or none
pub has_by_act : (p : Plan) (s : State) (k : ℕ) (o : Option Event) → FindsTake p s k None → FindsEvent p s k o → IsTrue (is_some o) ↔ HasEvent p (shown s) k
has_by_act p s k (Some e) takes (by, none, can) = (λ t. (e, by, can), λ h. refl)
has_by_act p s k None takes acts = (
  λ t. absurd (false≢true t),
  λ h. absurd (none_happens p s h.0 (subst (Rests p s) (sym h.1) (record { takes = takes; acts = acts })) h.2),
)

-- no link was found
pub no_take : (p : Plan) (s : State) (k : ℕ) (o : Option ℕ) → is_some o ≡ false → FindsTake p s k o → FindsTake p s k None
no_take p s k None none takes = takes
no_take p s k (Some link) none takes = absurd (cc)

link_may : (a : Acting) (l : ℕ) → HasLink a l → MayAct a (Take l 0)
link_may (OfNode n) l has = has
link_may (OfSwitch s) l has = record { links = has; can = has }

pub may_by_take : (p : Plan) (s : State) → IsNetworkOf p s → (k : ℕ) (o : Option ℕ) → is_some o ≡ true → FindsFront s k o → MayMakeOne s k
may_by_take p s is k None some front = absurd (cc)
may_by_take p s is k (Some l) some (front, least) = by_place (slice_get s.actors k) refl
  where
    by_place : (o : Option Acting) → slice_get s.actors k ≡ o → MayMakeOne s k
    by_place (Some a) here = (record { actor = k; act = Take l 0 }, refl, record { actor = a; here = here; may = link_may a l (has_link p s is k l a front here); ways = front })
    by_place None none = absurd (comes_to p s k l front is none)

pub may_by_act : (p : Plan) (s : State) (k : ℕ) (o : Option Event) → is_some o ≡ true → FindsEvent p s k o → IfSome o (λ e. MayActAt s e.actor e.act) → IfSome o (λ e. WaysLet s e.actor e.act) → MayMakeOne s k
may_by_act p s k None some finds may lets = absurd (cc)
may_by_act p s k (Some e) some (by, none, can) may lets = (e, by, record { actor = may.actor; here = may.here; may = may.may; ways = lets })

-- What is known of quiet actors stays so.
use Rattle.std.proofs.Common.{◌≡◌, ◌≢◌, ◌<◌, ◌≤◌, ◌+◌, ◌-◌, ◌^◌, ℕ, bit_and, MatchOption, Option, Some, None, inl, inr, sym, ◌∙◌, subst, arith}
use Rattle.std.proofs.lemmas.Bool.{cases_eq, cases_lt}
use Rattle.std.proofs.lemmas.Nat.Bits.{bit_at-lt, bit_at_and, bit_at_mask_below, bit_at_mask_inside}
use Rattle.std.proofs.Math.Nat.{pow-le-pow_right}
use Rattle.std.proofs.Math.Pow.{pow-lt}
use Rattle.std.specs.Int.{bit_at}
use Rattle.vc_plan.specs.declared.plan.Plan.{Plan}
use Rattle.vc_core.specs.Awake.{StaysAwake}
use Rattle.vc_core.specs.State.{State, IsNetworkOf, MakesEvent}
use Rattle.vc_core.specs.PossibleEvents.{CanHappen}
use Rattle.vc_core.specs.Private.Turns.{Rests}
use Rattle.vc_core.specs.declared.event.Event.{Event}
use Rattle.vc_actor.proofs.Masks.{bits_both}
use Rattle.vc_core.proofs.Awake.{none_happens, rests_on}
use Rattle.vc_text.specs.Private.Quiet.{AreQuiet}

-- who is not awake was not before
asleep : (s t : State) (a b k : ℕ) → StaysAwake s a t b → k < 64 → bit_at b k ≡ 0 → bit_at a k ≡ 0
asleep s t a b k stays low none = elim (cases_eq (bit_at a k) 1) [
  | inl was ↦ absurd (let one = stays.kept k low was in omega (arith, one, none))
  | inr ne ↦ (let few = bit_at-lt a k in omega (arith, few, ne))
]

-- where nothing has changed
pub same_quiet : (p : Plan) (s t : State) (a b : ℕ) → t ≡ s → StaysAwake s a t b → AreQuiet p s a → AreQuiet p t b
same_quiet p s t a b same stays old = λ k low q. subst (λ z. Rests p z k) (sym same) (old k low (asleep s t a b k stays low q))

-- one more rests
pub one_quiet : (p : Plan) (s t : State) (a b actor : ℕ) → t ≡ s → ((k : ℕ) → k < 64 → k ≢ actor → bit_at b k ≡ bit_at a k) → Rests p s actor → AreQuiet p s a → AreQuiet p t b
one_quiet p s t a b actor same others rests old = λ k low q. subst (λ z. Rests p z k) (sym same) (elim (cases_eq k actor) [
  | inl is ↦ subst (Rests p s) (sym is) rests
  | inr ne ↦ old k low (sym (others k low ne) ∙ q)
])

-- one acts that was awake, since it has an event
pub acts_quiet : (p : Plan) (s t : State) (e : Event) (a b : ℕ) → IsNetworkOf p s → CanHappen p s e → MakesEvent p s e t → StaysAwake s a t b → AreQuiet p s a → AreQuiet p t b
acts_quiet p s t e a b is can made stays old = λ k low q.
    let rests = old k low (asleep s t a b k stays low q) in
    elim (cases_eq k e.actor) [
      | inl same ↦ absurd (none_happens p s e (subst (Rests p s) same rests) can)
      | inr ne ↦ rests_on p s t e a b k is made stays ne low q rests
    ]

-- at first all are awake
pub none_quiet : (p : Plan) (s : State) (a : ℕ) → ((k : ℕ) → k < 64 → bit_at a k ≡ 1) → AreQuiet p s a
none_quiet p s a all = λ k low q. absurd (let one = all k low in omega (arith, one, q))

-- no bit of both, and one of the second
no_bit : (x among k : ℕ) → bit_at (bit_and x among) k ≡ 0 → bit_at among k ≡ 1 → bit_at x k ≡ 0
no_bit x among k none has = let e = bit_at_and x among k in let few = bit_at-lt x k in omega (arith, e, none, has, few)

-- those among them below the least are not awake
pub least_among : (awake among : ℕ) (o : Option ℕ) →
    MatchOption o ((k : ℕ) → k < 64 → bit_at (bit_and awake among) k ≡ 0)
    (λ next. (next < 64) × (bit_at (bit_and awake among) next ≡ 1) × ((k : ℕ) → k < next → bit_at (bit_and awake among) k ≡ 0)) →
    MatchOption o ((k : ℕ) → k < 64 → bit_at among k ≡ 1 → bit_at awake k ≡ 0)
    (λ next. (next < 64) × (bit_at among next ≡ 1) × ((k : ℕ) → k < next → bit_at among k ≡ 1 → bit_at awake k ≡ 0))
least_among awake among None none = λ k low has. no_bit awake among k (none k low) has
least_among awake among (Some next) (low, is, none) = (low, (bits_both awake among next is).1, (λ k less has. no_bit awake among k (none k less) has))

-- Masks of the actors from one on.

-- one comes after another where its bit is there
pub bit_after : (actor k : ℕ) → k < 64 → actor < k → bit_at (2 ^ 64 - 2 ^ (actor + 1)) k ≡ 1
bit_after actor k low past = bit_at_mask_inside (actor + 1) 64 k (omega arith) low

pub not_after : (from k : ℕ) → bit_at (2 ^ 64 - 2 ^ from) k ≡ 1 → from ≤ k
not_after from k is = elim (cases_lt k from) [
  | inl sooner ↦ absurd (let none = bit_at_mask_below from 64 k sooner in omega (arith, is, none))
  | inr later ↦ omega arith
]

-- behind one of them there are fewer
pub fewer_after : (from actor : ℕ) → from ≤ actor → actor < 64 → 2 ^ 64 - 2 ^ (actor + 1) < 2 ^ 64 - 2 ^ from
fewer_after from actor past low =
    let grows : 2 ^ from < 2 ^ (actor + 1) = pow-lt {i = from} {j = actor + 1} (omega arith) in
    let most : 2 ^ (actor + 1) ≤ 2 ^ 64 = pow-le-pow_right {n = 2} (omega arith) {i = actor + 1} {j = 64} (omega arith) in
    omega (arith, grows, most)

-- Rings, looked at from both ends.
use Rattle.std.proofs.Common.{◌≡◌, ℕ, zero, suc, ◌+◌, ◌*◌, ◌<◌, true, false, List, [], ◌∷◌, ◌++◌, length, map, get_or, slice_get, Some, refl, ap, sym, subst, ◌∙◌, arith, inl, inr, eq-eqb, eqb, length-append}
use Rattle.std.specs.Global.{Vec}
use Rattle.std.specs.List.{AllZip, Contains, HoldsAt}
use Rattle.std.proofs.lemmas.Bool.{cases_eq}
use Rattle.std.proofs.Math.ListN.{set}
use Rattle.std.proofs.lemmas.Option.{same_Some}
use Rattle.vc_accepted.specs.ActorWays.{actor_of}
use Rattle.rtrb.specs.Ring.{IsPair, SameProducer}
use Rattle.vc_plan.specs.declared.port.Port.{Port}
use Rattle.vc_plan.specs.declared.port.Wire.{Wire}
use Rattle.vc_threads.specs.Private.Order.{outs_at, ins_at, tokens_at, HasEnd, IsLeft, Meet, TakenBy, EndsTaken, MeetAt, LeftAt, LeftOn}
use Rattle.vc_threads.specs.Order.{OnWays}
use Rattle.vc_threads.specs.Wires.{Distinct, OutLooked, SameIn}
use Rattle.vc_tokens.specs.declared.token.Token.{Token}
use Rattle.vc_threads.specs.Works.{Out, In}
use Rattle.vc_threads.specs.declared.order.AllEnds.{AllEnds}
use Rattle.vc_threads.proofs.Goings.{apart, any_default}
use Rattle.vc_threads.proofs.Looks.{consumer_then, looked_same, looked_then}
use Rattle.vc_threads.proofs.Zips.{zip_same, zip_then, zip_weaker, zip_at, zip_length, zip_map}

-- two ends with one link are one
pub one_end : {Y : Type 0} (xs : List (ℕ × Y)) (x y : ℕ × Y) → Distinct (map (λ o. o.0) xs) → Contains xs x → Contains xs y → x.0 ≡ y.0 → x ≡ y
one_end xs x y dist p q e = elim (cases_eq p.0 q.0) [
  | inl same ↦ sym p.2 ∙ (ap (λ k. get_or xs k x) same ∙ (any_default xs q.0 x y q.1 ∙ q.2))
  | inr ne ↦
      let f : eqb (get_or xs p.0 x).0 (get_or xs q.0 y).0 ≡ false = apart xs p.0 q.0 x y dist p.1 q.1 ne in
      let t : eqb (get_or xs p.0 x).0 (get_or xs q.0 y).0 ≡ true = eq-eqb (get_or xs p.0 x).0 (get_or xs q.0 y).0 (ap (λ o. o.0) p.2 ∙ (e ∙ sym (ap (λ o. o.0) q.2))) in
      absurd (let z : true ≡ false = sym t ∙ f in cc)
]

-- the link of an end
pub has_end : {Y : Type 0} (xs : List (ℕ × Y)) (x : ℕ × Y) (link : ℕ) → Contains xs x → x.0 ≡ link → HasEnd xs link
has_end xs x link h e = (x, h, e)

-- an end that is found
pub found : {Y : Type 0} (slice xs : List (ℕ × Y)) (a link : ℕ) (x : ℕ × Y) → slice ≡ xs → a < length slice → x ≡ get_or xs a x → HoldsAt (λ o. o.0 ≡ link) slice a → Contains xs x × (x.0 ≡ link)
found slice xs a link x same within is at = (
  (a, subst (λ w. a < length w) same within, sym is),
  ap (λ o. o.0) is ∙ (ap (λ w. (get_or w a x).0) (sym same) ∙ at x),
)

-- an item of a list that is related to another's
pub record Twin {X : Type 0} (P : X → Type 0) (xs : List X) : Type 0 where
  pub it : X
  pub at : Contains xs it
  pub is : P it

-- where it stood among the ends before
pub before : {X : Type 0} (R : X → X → Type 0) (xs ys : List X) (y : X) → AllZip R xs ys → Contains ys y → Twin (λ x. R x y) xs
before R xs ys y z h =
    let n = zip_length R xs ys z in
    let m = h.1 in
    let within : h.0 < length xs = omega (arith, n, m) in
    let x = get_or xs h.0 y in
    record { it = x; at = (h.0, within, any_default xs h.0 x y within); is = subst (R x) h.2 (zip_at R xs ys h.0 y y z within) }

-- and after
pub after : {X : Type 0} (R : X → X → Type 0) (xs ys : List X) (x : X) → AllZip R xs ys → Contains xs x → Twin (R x) ys
after R xs ys x z h =
    let n = zip_length R xs ys z in
    let m = h.1 in
    let within : h.0 < length ys = omega (arith, n, m) in
    let y = get_or ys h.0 x in
    record { it = y; at = (h.0, within, any_default ys h.0 y x within); is = subst (λ v. R v y) h.2 (zip_at R xs ys h.0 x x z h.1) }

-- the same end of the same ring
abbrev pub SameOut : Out → Out → Type 0
SameOut a b = (b.0 ≡ a.0) × SameProducer a.1 b.1

pair_kept : (o o' : Out) (i i' : In) → SameOut o o' → SameIn i i' → IsPair o.1 i.1 → IsPair o'.1 i'.1
pair_kept o o' i i' p q r =
    let a = p.1.0 in
    let b = q.1.0 in
    (b.0 ∙ (r.0 ∙ sym a.0), b.1 ∙ (r.1 ∙ sym a.1), b.2 ∙ (r.2 ∙ sym a.2), b.3 ∙ (r.3 ∙ sym a.3))

has_kept : {Y : Type 0} (R : ℕ × Y → ℕ × Y → Type 0) → ((a b : ℕ × Y) → R a b → b.0 ≡ a.0) → (xs ys : List (ℕ × Y)) (link : ℕ) → AllZip R xs ys → HasEnd xs link → HasEnd ys link
has_kept R links xs ys link z h =
    let y = after R xs ys h.0 z h.1 in
    (y.it, y.at, links h.0 y.it y.is ∙ h.2)

-- rings that meet go on to do so
pub meet_kept : (os os' : List Out) (is is' : List In) (from to : ℕ) → AllZip SameOut os os' → AllZip SameIn is is' → Meet os is from to → Meet os' is' from to
meet_kept os os' is is' from to zo zi m = record {
  outs_apart = subst Distinct (sym (zip_map (λ o. o.0) (λ o. o.0) SameOut (λ a b l. l.0) os os' zo)) m.outs_apart;
  ins_apart = subst Distinct (sym (zip_map (λ o. o.0) (λ o. o.0) SameIn (λ a b l. l.0) is is' zi)) m.ins_apart;
  out = has_kept SameOut (λ a b l. l.0) os os' from zo m.out;
  into = has_kept SameIn (λ a b l. l.0) is is' to zi m.into;
  pair = λ o' i' co ci eo ei.
      let x = before SameOut os os' o' zo co in
      let y = before SameIn is is' i' zi ci in
      pair_kept x.it o' y.it i' x.is y.is (m.pair x.it y.it x.at y.at (sym x.is.0 ∙ eo) (sym y.is.0 ∙ ei));
}

-- Nothing was taken off an end, or what was taken off it in turn.

same_in : (i : In) → SameIn i i
same_in i = (refl, ((refl, refl, refl, refl), refl))

pub taken_none : (P : ℕ → Type 0) (i : In) → TakenBy P i i
taken_none P i = (same_in i, λ none. refl)

pub taken_more : (P Q : ℕ → Type 0) → ((l : ℕ) → P l → Q l) → (a b : In) → TakenBy P a b → TakenBy Q a b
taken_more P Q u a b t = (t.0, λ none. t.1 (λ h. none (u a.0 h)))

taken_then : (P Q R : ℕ → Type 0) → ((l : ℕ) → P l → R l) → ((l : ℕ) → Q l → R l) → (a b c : In) → TakenBy P a b → TakenBy Q b c → TakenBy R a c
taken_then P Q R u v a b c p q = (
  (q.0.0 ∙ p.0.0, consumer_then a.1 b.1 c.1 p.0.1 q.0.1),
  λ none. q.1 (λ h. none (subst R p.0.0 (v b.0 h))) ∙ p.1 (λ h. none (u a.0 h)),
)

module _ {V Y : Type 0} (f : V → List Y) where
  -- the ends of one actor change
  pub one_changed : (R : ℕ → Y → Y → Type 0) → ((k : ℕ) (y : Y) → R k y y) → (vs : List V) (s : ℕ) (v d : V) → s < length vs → d ≡ get_or vs s d → AllZip (R s) (f d) (f v)
      → (k : ℕ) → AllZip (R k) (get_or (map f vs) k []) (get_or (map f (set vs s v)) k [])
  one_changed R same [] s v d l is z k = absurd (omega arith)
  one_changed R same (x ∷ xs) zero v d l is z zero = subst (λ w. AllZip (R 0) (f w) (f v)) is z
  one_changed R same (x ∷ xs) zero v d l is z (suc k) = zip_same (R (suc k)) (same (suc k)) (get_or (map f xs) k [])
  one_changed R same (x ∷ xs) (suc s) v d l is z zero = zip_same (R 0) (same 0) (f x)
  one_changed R same (x ∷ xs) (suc s) v d l is z (suc k) = one_changed (λ j. R (suc j)) (λ j. same (suc j)) xs s v d (omega arith) is z k

  pub item_at : (vs : List V) (s : ℕ) (d : V) → s < length vs → d ≡ get_or vs s d → get_or (map f vs) s [] ≡ f d
  item_at [] s d l is = absurd (omega arith)
  item_at (x ∷ xs) zero d l is = sym (ap f is)
  item_at (x ∷ xs) (suc s) d l is = item_at xs s d (omega arith) is

-- an actor with an end is there
pub actor_there : {V Y : Type 0} (f : V → List (ℕ × Y)) (vs : List V) (k link : ℕ) → HasEnd (get_or (map f vs) k []) link → k < length vs
actor_there f [] k link h = let m = h.1.1 in absurd (omega (arith, m))
actor_there f (x ∷ xs) zero link h = omega arith
actor_there f (x ∷ xs) (suc k) link h = let m = actor_there f xs k link h in omega (arith, m)

-- the ends of an actor with an end
pub ends_there : {V Y : Type 0} (f : V → List (ℕ × Y)) (vs : List V) (s a link : ℕ) (d : V) → s ≡ a → d ≡ get_or vs s d → HasEnd (get_or (map f vs) a []) link → get_or (map f vs) a [] ≡ f d
ends_there f vs s a link d same is h = ap (λ k. get_or (map f vs) k []) (sym same) ∙ item_at f vs s d (subst (λ k. k < length vs) (sym same) (actor_there f vs a link h)) is

pub ends_same : (P : ℕ → ℕ → Type 0) (e : AllEnds) → EndsTaken P e e
ends_same P e = record { outs = λ k. zip_same OutLooked looked_same (outs_at e k); ins = λ k. zip_same (TakenBy (P k)) (taken_none (P k)) (ins_at e k) }

pub ends_then : (P Q R : ℕ → ℕ → Type 0) → ((k l : ℕ) → P k l → R k l) → ((k l : ℕ) → Q k l → R k l) → (a b c : AllEnds) → EndsTaken P a b → EndsTaken Q b c → EndsTaken R a c
ends_then P Q R u v a b c p q = record {
  outs = λ k. zip_then OutLooked OutLooked OutLooked looked_then (outs_at a k) (outs_at b k) (outs_at c k) (p.outs k) (q.outs k);
  ins = λ k. zip_then (TakenBy (P k)) (TakenBy (Q k)) (TakenBy (R k)) (taken_then (P k) (Q k) (R k) (u k) (v k)) (ins_at a k) (ins_at b k) (ins_at c k) (p.ins k) (q.ins k);
}

pub meet_later : (P : ℕ → ℕ → Type 0) (nodes : ℕ) (a b : AllEnds) (from to : Port) → EndsTaken P a b → MeetAt nodes a from to → MeetAt nodes b from to
meet_later P nodes a b from to t =
    let j = actor_of nodes from.spot in
    let k = actor_of nodes to.spot in
    meet_kept (outs_at a j) (outs_at b j) (ins_at a k) (ins_at b k) from.link to.link
    (zip_weaker OutLooked SameOut (λ x y l. (l.0, l.1.0)) (outs_at a j) (outs_at b j) (t.outs j)) (zip_weaker (TakenBy (P k)) SameIn (λ x y l. l.0) (ins_at a k) (ins_at b k) (t.ins k))

-- what is left in a ring off which nothing was taken was left there before
pub left_before : (P : ℕ → ℕ → Type 0) (nodes : ℕ) (a b : AllEnds) (ts : List Token) (from to : Port) → EndsTaken P a b → (P (actor_of nodes to.spot) to.link → ⊥) → LeftAt nodes b ts from to → LeftAt nodes a ts from to
left_before P nodes a b ts from to t none left o i co ci eo ei =
    let j = actor_of nodes from.spot in
    let k = actor_of nodes to.spot in
    let x = after OutLooked (outs_at a j) (outs_at b j) o (t.outs j) co in
    let y = after (TakenBy (P k)) (ins_at a k) (ins_at b k) i (t.ins k) ci in
    let same : y.it ≡ i = y.is.1 (λ h. none (subst (P k) ei h)) in
    let there : IsLeft ts x.it i = subst (IsLeft ts x.it) same (left x.it y.it x.at y.at (x.is.0 ∙ eo) (y.is.0.0 ∙ ei)) in
    record { rest = there.rest; order = there.order ∙ x.is.1.1; seen = there.seen; tokens_are = there.tokens_are }

tokens_still : (left : List (Vec Token)) (v : Vec Token) (way : ℕ) → way < length left → tokens_at (left ++ v ∷ []) way ≡ tokens_at left way
tokens_still [] v way less = absurd (omega arith)
tokens_still (x ∷ xs) v zero less = refl
tokens_still (x ∷ xs) v (suc way) less = tokens_still xs v way (omega arith)

tokens_last : (left : List (Vec Token)) (v : Vec Token) → tokens_at (left ++ v ∷ []) (length left) ≡ v.items
tokens_last [] v = refl
tokens_last (x ∷ xs) v = tokens_last xs v

-- the two ways of one wire more
pub left_more : (nodes : ℕ) (e : AllEnds) (ws : List Wire) (n : ℕ) (w : Wire) (left : List (Vec Token)) (u v : Vec Token) → slice_get ws n ≡ Some w → length left ≡ 2 * n → OnWays (LeftOn nodes e left) ws n
    → LeftAt nodes e u.items w.one w.two → LeftAt nodes e v.items w.two w.one → OnWays (LeftOn nodes e ((left ++ u ∷ []) ++ v ∷ [])) ws (n + 1)
left_more nodes e ws n w left u v is count had one two i x less at = elim (cases_eq i n) [
  | inl here ↦
      let same : x ≡ w = same_Some x w (sym at ∙ (ap (slice_get ws) here ∙ is)) in
      let first : length left ≡ 2 * i = omega arith in
      let second : length (left ++ u ∷ []) ≡ 2 * i + 1 = omega (arith, more) in (
        subst (λ ts. LeftAt nodes e ts x.one x.two) (sym (tokens_still (left ++ u ∷ []) v (2 * i) (omega (arith, more)) ∙ (ap (tokens_at (left ++ u ∷ [])) (sym first) ∙ tokens_last left u)))
            (subst (λ (y : Wire). LeftAt nodes e u.items y.one y.two) (sym same) one),
        subst (λ ts. LeftAt nodes e ts x.two x.one) (sym (ap (tokens_at ((left ++ u ∷ []) ++ v ∷ [])) (sym second) ∙ tokens_last (left ++ u ∷ []) v))
            (subst (λ (y : Wire). LeftAt nodes e v.items y.two y.one) (sym same) two),
      )
  | inr ne ↦
      let b : i < n = omega arith in
      let h = had i x b at in (
        subst (λ ts. LeftAt nodes e ts x.one x.two) (sym (still (2 * i) (omega arith))) h.0,
        subst (λ ts. LeftAt nodes e ts x.two x.one) (sym (still (2 * i + 1) (omega arith))) h.1,
      )
]
  where
    more : length (left ++ u ∷ []) ≡ length left + 1
    more = length-append left (u ∷ [])

    still : (way : ℕ) → way < length left → tokens_at ((left ++ u ∷ []) ++ v ∷ []) way ≡ tokens_at left way
    still way within = tokens_still (left ++ u ∷ []) v way (omega (arith, more, within)) ∙ tokens_still left u way within

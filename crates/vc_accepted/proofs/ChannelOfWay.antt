-- The channel on a way is the one whose home is that way.
use Rattle.std.proofs.Common.{◌≡◌, ℕ, zero, suc, ◌+◌, Bool, true, false, ◌&&◌, ◌==◌, List, [], ◌∷◌, slice_get, Some, refl, ap, subst, ◌∙◌, arith, if◌then◌else◌, eq-eqb, eqb-true}
use Rattle.std.proofs.lemmas.Bool.{and_parts}
use Rattle.vc_plan.specs.declared.plan.Plan.{Plan}
use Rattle.vc_plan.specs.declared.channel.Channel.{Channel}
use Rattle.vc_plan.specs.declared.channel.Home.{Home}
use Rattle.vc_plan.specs.declared.channel.Home.TheVariants.{Way, Inside}
use Rattle.vc_plan.specs.Accepted.{IsAccepted}
use Rattle.vc_plan.specs.Check.{same_bool}
use Rattle.vc_accepted.specs.NodeEnds.{is_on, first_on, chan_on}

bool_is : (a b : Bool) → same_bool a b ≡ true → a ≡ b
bool_is true true e = refl
bool_is false false e = refl
bool_is true false e = absurd (cc)
bool_is false true e = absurd (cc)

is_bool : (a : Bool) → same_bool a a ≡ true
is_bool true = refl
is_bool false = refl

pub on_is : (v : ℕ) (f : Bool) (h : Home) → is_on v f h ≡ true → h ≡ Way v f
on_is v f (Way u g) e =
    let r = and_parts (u == v) (same_bool g f) e in
    let a = eqb-true u v r.0 in
    let b = bool_is g f r.1 in
    λ i. Way (a i) (b i)
on_is v f (Inside n) e = absurd (cc)

is_on_way : (v : ℕ) (f : Bool) → is_on v f (Way v f) ≡ true
is_on_way v f = ap (λ b. b && same_bool f f) (eq-eqb v v refl) ∙ is_bool f

-- the channel numbered k more than c has the way for its home
pub record HasWay (cs : List Channel) (c d v : ℕ) (f : Bool) : Type 0 where
  pub at : ℕ
  pub channel : Channel
  pub number : d ≡ c + at
  pub there : slice_get cs at ≡ Some channel
  pub is : channel.home ≡ Way v f

one_more : (x : Channel) (xs : List Channel) (c d v : ℕ) (f : Bool) → HasWay xs (suc c) d v f → HasWay (x ∷ xs) c d v f
one_more x xs c d v f h = record { at = suc h.at; channel = h.channel; number = (let n = h.number in omega arith); there = h.there; is = h.is }

first_has : (cs : List Channel) (c d v : ℕ) (f : Bool) → first_on c cs v f ≡ Some d → HasWay cs c d v f
first_has [] c d v f e = absurd (cc)
first_has (x ∷ xs) c d v f e = by_test (is_on v f x.home) refl e (first_has xs (suc c) d v f)
  where
    by_test : (b : Bool) → is_on v f x.home ≡ b → (if b then Some c else first_on (suc c) xs v f) ≡ Some d → (first_on (suc c) xs v f ≡ Some d → HasWay xs (suc c) d v f) → HasWay (x ∷ xs) c d v f
    by_test true t e rest = let same : c ≡ d = cc in record { at = 0; channel = x; number = omega arith; there = refl; is = on_is v f x.home t }
    by_test false t e rest = one_more x xs c d v f (rest e)

-- where a channel has the way for its home, some channel is found
has_first : (cs : List Channel) (c k v : ℕ) (f : Bool) (x : Channel) → slice_get cs k ≡ Some x → x.home ≡ Way v f → (d : ℕ) × (first_on c cs v f ≡ Some d)
has_first [] c k v f x e h = absurd (cc)
has_first (y ∷ ys) c zero v f x e h =
    let is : y ≡ x = cc in
    let t : is_on v f y.home ≡ true = ap (is_on v f) (ap (λ (z : Channel). z.home) is ∙ h) ∙ is_on_way v f in
    (c, ap (λ b. if b then Some c else first_on (suc c) ys v f) t)
has_first (y ∷ ys) c (suc k) v f x e h = by_test (is_on v f y.home) refl (has_first ys (suc c) k v f x e h)
  where
    by_test : (b : Bool) → is_on v f y.home ≡ b → (d : ℕ) × (first_on (suc c) ys v f ≡ Some d) → (d : ℕ) × (first_on c (y ∷ ys) v f ≡ Some d)
    by_test true t r = (c, ap (λ b. if b then Some c else first_on (suc c) ys v f) t)
    by_test false t r = (r.0, ap (λ b. if b then Some c else first_on (suc c) ys v f) t ∙ r.1)

-- the channel on a way has it for its home
pub chan_has : (p : Plan) (c v : ℕ) (f : Bool) → chan_on p v f ≡ Some c → (x : Channel) × (slice_get p.channels c ≡ Some x) × (x.home ≡ Way v f)
chan_has p c v f e =
    let h = first_has p.channels 0 c v f e in
    (h.channel, (let n = h.number in let same : h.at ≡ c = omega arith in subst (λ z. slice_get p.channels z ≡ Some h.channel) same h.there), h.is)

-- and a channel of an accepted plan that has it is the one on it
pub has_chan : (p : Plan) → IsAccepted p → (c v : ℕ) (f : Bool) (x : Channel) → slice_get p.channels c ≡ Some x → x.home ≡ Way v f → chan_on p v f ≡ Some c
has_chan p acc c v f x e h = settle (has_first p.channels 0 c v f x e h)
  where
    settle : (d : ℕ) × (chan_on p v f ≡ Some d) → chan_on p v f ≡ Some c
    settle (d, r) =
        let y = chan_has p d v f r in
        r ∙ ap Some (acc.one_channel d c y.0 x v f y.1 e y.2 h)

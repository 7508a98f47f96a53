-- How much is to come on a network, and how much has begun alone.
use Rattle.std.proofs.Common.{◌≡◌, ℕ, zero, suc, ◌+◌, ◌-◌, ◌≤◌, ◌<◌, Bool, true, false, List, length, inl, inr, refl, sym, ap, subst, ◌∙◌, arith}
use Rattle.std.proofs.lemmas.Bool.{cases_eq}
use Rattle.vc_accepted.specs.NetworkOf.{network_of}
use Rattle.vc_core.specs.PossibleEvents.{NetworkState}
use Rattle.vc_free.proofs.NodePaths.{bit}
use Rattle.vc_free.specs.Delivery.{in_half}
use Rattle.vc_machine.specs.Rendezvous.{View}
use Rattle.vc_meaning.proofs.Channels.{SameAt}
use Rattle.vc_network.specs.Plan.{Home, Way, Inside, home}
use Rattle.vc_network.specs.Views.{view}
use Rattle.vc_plan.specs.declared.plan.Plan.{Plan}

-- of so many messages that are not taken, and outputs that are not finished, where an input has begun or not: what is to come, and what has
-- begun alone
abbrev pub late_of : ℕ → ℕ → Bool → ℕ
late_of zero u w = u
late_of (suc d) u true = suc u
late_of (suc d) u false = 0

abbrev pub alone_of : ℕ → Bool → ℕ
alone_of zero w = bit w
alone_of (suc d) true = 0
alone_of (suc d) false = 1

abbrev not_taken : Plan → NetworkState → ℕ → ℕ
not_taken p x c = length (view (network_of p) x c).offered - length (view (network_of p) x c).taken

abbrev not_finished : Plan → NetworkState → ℕ → ℕ
not_finished p x c = length (view (network_of p) x c).offered - (view (network_of p) x c).finished

abbrev late_at : Plan → NetworkState → ℕ → Home → ℕ
late_at p x c (Way v ab) = late_of (not_taken p x c) (not_finished p x c) (in_half p x c).wants
late_at p x c (Inside n) = 0

abbrev alone_at : Plan → NetworkState → ℕ → Home → ℕ
alone_at p x c (Way v ab) = alone_of (not_taken p x c) (in_half p x c).wants
alone_at p x c (Inside n) = 0

abbrev late : Plan → NetworkState → ℕ → ℕ
late p x c = late_at p x c (home (network_of p) c)

abbrev alone : Plan → NetworkState → ℕ → ℕ
alone p x c = alone_at p x c (home (network_of p) c)

abbrev sum : ℕ → (ℕ → ℕ) → ℕ
sum zero f = 0
sum (suc n) f = f n + sum n f

abbrev pub all_late : Plan → NetworkState → ℕ
all_late p x = sum (length p.channels) (late p x)

abbrev pub all_alone : Plan → NetworkState → ℕ
all_alone p x = sum (length p.channels) (alone p x)

-- sums
sum_same : (n : ℕ) (f g : ℕ → ℕ) → ((d : ℕ) → d < n → g d ≡ f d) → sum n g ≡ sum n f
sum_same zero f g h = refl
sum_same (suc n) f g h = let a = h n (omega arith) in let b = sum_same n f g (λ d l. h d (omega arith)) in omega arith

sum_at : (n c : ℕ) (f g : ℕ → ℕ) → c < n → ((d : ℕ) → (d ≡ c → ⊥) → g d ≡ f d) → sum n g + f c ≡ sum n f + g c
sum_at zero c f g l h = absurd (omega arith)
sum_at (suc n) c f g l h = elim (cases_eq c n) [
  | inl e ↦ (let a = sum_same n f g (λ d k. h d (λ q. omega arith)) in
      let b : f c ≡ f n = ap f e in
      let k : g c ≡ g n = ap g e in
      omega arith)
  | inr ne ↦ (let a = h n (λ q. ne (sym q)) in let b = sum_at n c f g (omega (arith, ne)) h in omega arith)
]

sum_few : (n : ℕ) (f : ℕ → ℕ) → ((d : ℕ) → f d ≤ 1) → sum n f ≤ n
sum_few zero f h = omega arith
sum_few (suc n) f h = let a = h n in let b = sum_few n f h in omega arith

alone_small : (d : ℕ) (w : Bool) → alone_of d w ≤ 1
alone_small zero true = omega arith
alone_small zero false = omega arith
alone_small (suc d) true = omega arith
alone_small (suc d) false = omega arith

pub few_alone : (p : Plan) (x : NetworkState) → all_alone p x ≤ length p.channels
few_alone p x = sum_few (length p.channels) (alone p x) (λ d. by_home d (home (network_of p) d))
  where
    by_home : (d : ℕ) (h : Home) → alone_at p x d h ≤ 1
    by_home d (Way v ab) = alone_small (not_taken p x d) (in_half p x d).wants
    by_home d (Inside n) = omega arith

module _ {p : Plan} {x y : NetworkState} {c : ℕ} (same : SameAt p x y c) where
  abbrev taken_same : not_taken p y c ≡ not_taken p x c
  taken_same = ap (λ z. length z - length (view (network_of p) y c).taken) same.offered ∙ ap (λ z. length (view (network_of p) x c).offered - length z) same.taken

  abbrev finished_same : not_finished p y c ≡ not_finished p x c
  finished_same = ap (λ z. length z - (view (network_of p) y c).finished) same.offered ∙ ap (λ z. length (view (network_of p) x c).offered - z) same.finished

  pub late_same : late p y c ≡ late p x c
  late_same = by_home (home (network_of p) c) refl
    where
      by_home : (h : Home) → home (network_of p) c ≡ h → late_at p y c h ≡ late_at p x c h
      by_home (Inside n) e = refl
      by_home (Way v ab) e =
          ap (λ z. late_of z (not_finished p y c) (in_half p y c).wants) taken_same ∙ ap (λ z. late_of (not_taken p x c) z (in_half p y c).wants) finished_same ∙ ap (late_of (not_taken p x c) (not_finished p x c)) (same.asked (v, ab, e))

  pub alone_same : alone p y c ≡ alone p x c
  alone_same = by_home (home (network_of p) c) refl
    where
      by_home : (h : Home) → home (network_of p) c ≡ h → alone_at p y c h ≡ alone_at p x c h
      by_home (Inside n) e = refl
      by_home (Way v ab) e = ap (λ z. alone_of z (in_half p y c).wants) taken_same ∙ ap (alone_of (not_taken p x c)) (same.asked (v, ab, e))

-- nothing changes
pub all_late_same : (p : Plan) (x y : NetworkState) → ((d : ℕ) → SameAt p x y d) → all_late p y ≡ all_late p x
all_late_same p x y same = sum_same (length p.channels) (late p x) (late p y) (λ d l. late_same (same d))

pub all_alone_same : (p : Plan) (x y : NetworkState) → ((d : ℕ) → SameAt p x y d) → all_alone p y ≡ all_alone p x
all_alone_same p x y same = sum_same (length p.channels) (alone p x) (alone p y) (λ d l. alone_same (same d))

-- one channel changes
pub record Stands (p : Plan) (x : NetworkState) (c d u : ℕ) (w : Bool) : Type 0 where
  pub not_taken : length (view (network_of p) x c).offered - length (view (network_of p) x c).taken ≡ d
  pub not_finished : length (view (network_of p) x c).offered - (view (network_of p) x c).finished ≡ u
  pub asked : (in_half p x c).wants ≡ w

module _ (p : Plan) (x y : NetworkState) (c v : ℕ) (ab : Bool) (h : home (network_of p) c ≡ Way v ab) (less : c < length p.channels) (others : (d : ℕ) → (d ≡ c → ⊥) → SameAt p x y d) where
  late_is : (z : NetworkState) (d u : ℕ) (w : Bool) → Stands p z c d u w → late p z c ≡ late_of d u w
  late_is z d u w s =
      ap (late_at p z c) h ∙ ap (λ k. late_of k (not_finished p z c) (in_half p z c).wants) s.not_taken ∙ ap (λ k. late_of d k (in_half p z c).wants) s.not_finished ∙ ap (late_of d u) s.asked

  alone_is : (z : NetworkState) (d u : ℕ) (w : Bool) → Stands p z c d u w → alone p z c ≡ alone_of d w
  alone_is z d u w s = ap (alone_at p z c) h ∙ ap (λ k. alone_of k (in_half p z c).wants) s.not_taken ∙ ap (alone_of d) s.asked

  pub late_changes : (d u e f : ℕ) (w k : Bool) → Stands p x c d u w → Stands p y c e f k → all_late p y + late_of d u w ≡ all_late p x + late_of e f k
  late_changes d u e f w k s t =
      let a = sum_at (length p.channels) c (late p x) (late p y) less (λ j ne. late_same (others j ne)) in
      let b = late_is x d u w s in
      let g = late_is y e f k t in
      omega arith

  pub alone_changes : (d u e f : ℕ) (w k : Bool) → Stands p x c d u w → Stands p y c e f k → all_alone p y + alone_of d w ≡ all_alone p x + alone_of e k
  alone_changes d u e f w k s t =
      let a = sum_at (length p.channels) c (alone p x) (alone p y) less (λ j ne. alone_same (others j ne)) in
      let b = alone_is x d u w s in
      let g = alone_is y e f k t in
      omega arith

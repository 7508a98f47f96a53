-- One start more, and all of them.
use Rattle.std.proofs.Common.{◌≡◌, ◌⊎◌, inl, inr, ℕ, ◌+◌, ◌<◌, ◌≤◌, List, [], ◌∷◌, Option, Some, None, IfNone, IfSome, length, sym, subst, arith}
use Rattle.std.specs.Global.{Vec}
use Rattle.vc_plan.specs.declared.plan.Plan.{Plan}
use Rattle.vc_plan.specs.declared.port.Port.{Port}
use Rattle.vc_plan.specs.Accepted.{IsAccepted}
use Rattle.vc_plan.specs.Dependencies.{Before, Chain, DependsOn, HasRanks, IsCycle, IsLeastCycle, IsNotAfter}
use Rattle.vc_cycles.specs.Private.Graph.{AreDependencies, port_at}
use Rattle.vc_cycles.specs.Private.Round.{IsAway, IsLeastBelow, IsLeastRound, IsShorter}
use Rattle.vc_cycles.proofs.PortNumbers.{number_after, number_back, number_small}
use Rattle.vc_cycles.proofs.Orders.{not_after_on, number_before}
use Rattle.vc_cycles.proofs.Ranks.{ranks}
use Rattle.vc_cycles.proofs.Ways.{no_cycle_from}

pub none_more : (rows : List (Vec ℕ)) (n : ℕ) (least found result : Option (Vec Port)) → IfNone result ((least ≡ None) × (found ≡ None)) → IfNone least ((k : ℕ) → k < n → IsAway rows k) →
    IfNone found (IsAway rows n) → IfNone result ((k : ℕ) → k < n + 1 → IsAway rows k)
none_more rows n least found (Some ports) both w a = tt
none_more rows n least found None both w a =
    let before : (k : ℕ) → k < n → IsAway rows k = subst (λ o. IfNone o ((k : ℕ) → k < n → IsAway rows k)) both.0 w in
    let here : IsAway rows n = subst (λ o. IfNone o (IsAway rows n)) both.1 a in
    λ k lt. go before here k (let c : (k < n) ⊎ (n ≡ k) = grind arith in c)
  where
    go : ((k : ℕ) → k < n → IsAway rows k) → IsAway rows n → (k : ℕ) → (k < n) ⊎ (n ≡ k) → IsAway rows k
    go before here k (inl less) = before k less
    go before here k (inr same) = subst (IsAway rows) same here

-- no cycle begins with this port, or the least that does is not before these ports
abbrev IsLeastFrom : Plan → ℕ → List Port → Type 0
IsLeastFrom net k ports = (others : List Port) → IsCycle net (port_at k ∷ others) → IsNotAfter ports (port_at k ∷ others)

-- the least so far, and the cycles that begin with the next port
module _ (net : Plan) (n : ℕ) where
  old_least : (ports : List Port) → IsLeastBelow net n ports → IsLeastFrom net n ports → IsLeastBelow net (n + 1) ports
  old_least ports l here = record {
    start = l.start;
    below = let b = l.below in omega (arith, b);
    rest = l.rest;
    begins = l.begins;
    cycle = l.cycle;
    least = λ k others lt h. go k others h (let c : (k < n) ⊎ (n ≡ k) = grind arith in c);
  }
    where
      go : (k : ℕ) (others : List Port) → IsCycle net (port_at k ∷ others) → (k < n) ⊎ (n ≡ k) → IsNotAfter ports (port_at k ∷ others)
      go k others h (inl less) = l.least k others less h
      go k others h (inr same) = subst (λ m. IsLeastFrom net m ports) same here others h

  new_least : (ports : List Port) → IsLeastRound net n ports → ((k : ℕ) → k < n → IsLeastFrom net k ports) → IsLeastBelow net (n + 1) ports
  new_least ports r before = record {
    start = n;
    below = omega arith;
    rest = r.rest;
    begins = r.begins;
    cycle = r.cycle;
    least = λ k others lt h. go k others h (let c : (k < n) ⊎ (n ≡ k) = grind arith in c);
  }
    where
      go : (k : ℕ) (others : List Port) → IsCycle net (port_at k ∷ others) → (k < n) ⊎ (n ≡ k) → IsNotAfter ports (port_at k ∷ others)
      go k others h (inl less) = before k less others h
      go k others h (inr same) = subst (λ m. IsLeastFrom net m ports) same r.least others h

  -- an earlier cycle with no more ports is before a later one
  not_after_later : (ports others : List Port) → IsLeastBelow net n ports → IsLeastRound net n others → length ports ≤ length others → IsNotAfter ports others
  not_after_later ports others l r le = go (let c : (length ports < length others) ⊎ (length ports ≡ length others) = grind (arith, le) in c)
    where
      go : (length ports < length others) ⊎ (length ports ≡ length others) → IsNotAfter ports others
      go (inl less) = inl less
      go (inr same) = inr (
        same,
        inl (subst (λ xs. Before xs others) (sym l.begins) (subst (λ ys. Before (port_at l.start ∷ l.rest) ys) (sym r.begins) (inl (number_before l.start n l.below)))),
      )

  keeps_least : (ports others : List Port) → IsLeastBelow net n ports → IsLeastRound net n others → length ports ≤ length others → IsLeastBelow net (n + 1) ports
  keeps_least ports others l r le =
      old_least ports l (λ more h. not_after_on ports others (port_at n ∷ more) (not_after_later ports others l r le) (r.least more h))

  takes_least : (ports others : List Port) → IsLeastRound net n ports → IsLeastBelow net n others → length ports < length others → IsLeastBelow net (n + 1) ports
  takes_least ports others r l less = new_least ports r (λ k lt more h. not_after_on ports others (port_at k ∷ more) (inl less) (l.least k more lt h))

-- where no cycle begins with it
module _ (net : Plan) (acc : IsAccepted net) (rows : List (Vec ℕ)) (d : AreDependencies net rows) (n : ℕ) (small : n < 1024) where
  none_from : (k : ℕ) → k < n + 1 → IsAway rows k → (ports : List Port) → IsLeastFrom net k ports
  none_from k lt w ports others h = absurd (no_cycle_from net acc rows d k (omega (arith, lt, small)) w others h)

  abbrev Least : Option (Vec Port) → Type 0
  Least o = IfSome o (λ ports. IsLeastBelow net n ports.items)

  abbrev Found : Option (Vec Port) → Type 0
  Found o = IfSome o (λ ports. IsLeastRound net n ports.items)

  one_is : (ports : Vec Port) (found : Option (Vec Port)) → IsLeastBelow net n ports.items → Found found → IfNone found (IsAway rows n) → IfSome found (λ others. length ports.items ≤ length others.items) →
      IsLeastBelow net (n + 1) ports.items
  one_is ports None l f a le = old_least net n ports.items l (none_from n (omega arith) a ports.items)
  one_is ports (Some others) l f a le = keeps_least net n ports.items others.items l f le

  other_is : (ports : Vec Port) (least : Option (Vec Port)) → IsLeastRound net n ports.items → Least least → IfNone least ((k : ℕ) → k < n → IsAway rows k) → IfSome least (λ others. length ports.items < length others.items) →
      IsLeastBelow net (n + 1) ports.items
  other_is ports None r l w less = new_least net n ports.items r (λ k lt. none_from k (omega (arith, lt)) (w k lt) ports.items)
  other_is ports (Some others) r l w less = takes_least net n ports.items others.items r l less

  pub some_more : (least found result : Option (Vec Port)) → IfSome result (λ ports. IsShorter least found ports) → Least least → IfNone least ((k : ℕ) → k < n → IsAway rows k) → Found found → IfNone found (IsAway rows n) →
      IfSome result (λ ports. IsLeastBelow net (n + 1) ports.items)
  some_more least found None which l w f a = tt
  some_more least found (Some ports) (inl (e, le)) l w f a = one_is ports found (subst Least e l) f a le
  some_more least found (Some ports) (inr (e, less)) l w f a = other_is ports least (subst Found e f) l w less

pub free : (net : Plan) → IsAccepted net → (rows : List (Vec ℕ)) (n : ℕ) (least : Option (Vec Port)) → 1024 ≤ n → AreDependencies net rows → IfNone least ((k : ℕ) → k < n → IsAway rows k) → IfNone least (HasRanks net)
free net acc rows n (Some ports) le d w = tt
free net acc rows n None le d w = ranks net acc rows d (λ k lt. w k (omega (arith, lt, le)))

-- all starts: each cycle begins with one of them
last_on : (net : Plan) (a : Port) (cs : List Port) (b : Port) → Chain net a cs b → (x : Port) × DependsOn net x b
last_on net a [] b h = (a, h)
last_on net a (c ∷ cs) b h = last_on net c cs b h.1

is_least : (net : Plan) → IsAccepted net → (n : ℕ) → 1024 ≤ n → (ports : List Port) → IsLeastBelow net n ports → (others : List Port) → IsCycle net others → IsNotAfter ports others
is_least net acc n le ports l [] h = absurd h
is_least net acc n le ports l (a ∷ as') h =
    let x = last_on net a as' a h in
    let k = number_after net acc x.0 a x.1 in
    let small = number_small a k.0 k.1 in
    let back = number_back a k.0 k.1 in
    subst (λ p. IsNotAfter ports (p ∷ as')) back (l.least k.0 as' (omega (arith, small, le)) (subst (λ p. IsCycle net (p ∷ as')) (sym back) h))

pub least_cycle : (net : Plan) → IsAccepted net → (n : ℕ) (least : Option (Vec Port)) → 1024 ≤ n → IfSome least (λ ports. IsLeastBelow net n ports.items) → IfSome least (λ ports. IsLeastCycle net ports.items)
least_cycle net acc n None le l = tt
least_cycle net acc n (Some ports) le l = record { cycle = l.cycle; least = is_least net acc n le ports.items l }

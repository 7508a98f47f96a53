-- Where no port is on a way round the ports have ranks: a port's rank is from how many ports a way leads to it.
use Rattle.std.proofs.Common.{◌≡◌, ◌⊎◌, inl, inr, ℕ, zero, suc, ◌+◌, ◌<◌, ◌≤◌, Bool, true, false, if◌then◌else◌, List, Option, Some, None, refl, sym, ap, subst, arith}
use Rattle.std.specs.Global.{Vec}
use Rattle.vc_plan.specs.declared.plan.Plan.{Plan}
use Rattle.vc_plan.specs.declared.port.Port.{Port}
use Rattle.vc_plan.specs.declared.port.Spot.{Spot}
use Rattle.vc_plan.specs.declared.port.Spot.TheVariants.{Node, Switch}
use Rattle.vc_plan.specs.Accepted.{IsAccepted}
use Rattle.vc_plan.specs.Dependencies.{DependsOn, HasRanks}
use Rattle.vc_cycles.specs.Private.Graph.{HasEdge, AreDependencies, port_number, port_number_at}
use Rattle.vc_cycles.specs.Private.Round.{IsAway, AreRows}
use Rattle.vc_cycles.proofs.PortNumbers.{number_after, number_small, switch_number}

pub rows_are : (net : Plan) (rows : List (Vec ℕ)) → AreDependencies net rows → AreRows rows
rows_are net rows d = record { many = d.many; small = d.small; rising = d.rising }

-- from how many of the first n ports a way leads to this one
module _ (rows : List (Vec ℕ)) where
  abbrev pub Away : ℕ → Type 0
  Away n = (k : ℕ) → k < n → IsAway rows k

  top : (n : ℕ) → n < suc n
  top n = omega arith

  less : (n : ℕ) → Away (suc n) → Away n
  less n w k lt = w k (omega arith)

  one : Bool → ℕ
  one b = if b then 1 else 0

  pub count : (n : ℕ) → Away n → ℕ → ℕ
  count zero w i = 0
  count (suc n) w i = one ((w n (top n)).beyond i) + count n (less n w) i

  one_le : (a b : Bool) → (a ≡ true → b ≡ true) → one a ≤ one b
  unfolding one
  one_le true b h = let e = h refl in rw e (omega arith)
  one_le false b h = omega arith

  one_lt : (a b : Bool) → a ≡ false → b ≡ true → one a < one b
  unfolding one
  one_lt a b p q = rw (p, q) (omega arith)

  count_le : (n : ℕ) (w : Away n) (i j : ℕ) → HasEdge rows i j → count n w i ≤ count n w j
  unfolding count
  count_le zero w i j e = omega arith
  count_le (suc n) w i j e =
      let a = w n (top n) in
      let x = one_le (a.beyond i) (a.beyond j) (λ r. a.on i j r e) in
      let y = count_le n (less n w) i j e in
      omega (arith, x, y)

  count_lt : (n : ℕ) (w : Away n) (i j : ℕ) → i < n → HasEdge rows i j → count n w i < count n w j
  unfolding count
  count_lt zero w i j lt e = absurd (omega arith)
  count_lt (suc n) w i j lt e = go (λ before. count_lt n (less n w) i j before e) (let c : (i < n) ⊎ (n ≡ i) = grind arith in c)
    where
      go : (i < n → count n (less n w) i < count n (less n w) j) → (i < n) ⊎ (n ≡ i) → one ((w n (top n)).beyond i) + count n (less n w) i < one ((w n (top n)).beyond j) + count n (less n w) j
      go rest (inl before) =
          let x = one_le ((w n (top n)).beyond i) ((w n (top n)).beyond j) (λ r. (w n (top n)).on i j r e) in
          let y = rest before in
          omega (arith, x, y)
      go rest (inr same) =
          let x = one_lt ((w n (top n)).beyond i) ((w n (top n)).beyond j) (subst (λ m. (w n (top n)).beyond m ≡ false) same (w n (top n)).back) ((w n (top n)).first j (subst (λ m. HasEdge rows m j) (sym same) e)) in
          let y = count_le n (less n w) i j e in
          omega (arith, x, y)

  abbrev pub rank_of : Away 1024 → Option ℕ → ℕ
  rank_of w None = 0
  rank_of w (Some i) = 1 + count 1024 w i

  pub rank_first : (w : Away 1024) (o : Option ℕ) (j : ℕ) → o ≡ Some j → 0 < rank_of w o
  rank_first w None j e = absurd cc
  rank_first w (Some i) j e = omega arith

  pub rank_rises : (w : Away 1024) (a b : Option ℕ) (i j : ℕ) → a ≡ Some i → b ≡ Some j → i < 1024 → HasEdge rows i j → rank_of w a < rank_of w b
  rank_rises w None b i j p q lt e = absurd cc
  rank_rises w (Some x) None i j p q lt e = absurd cc
  rank_rises w (Some x) (Some y) i j p q lt e =
      let c = count_lt 1024 w i j lt e in
      let f : i ≡ x = cc in
      let g : j ≡ y = cc in
      subst (λ m. 1 + count 1024 w m < 1 + count 1024 w y) f (subst (λ m. 1 + count 1024 w i < 1 + count 1024 w m) g (omega (arith, c)))

pub ranks : (net : Plan) → IsAccepted net → (rows : List (Vec ℕ)) → AreDependencies net rows → ((k : ℕ) → k < 1024 → IsAway rows k) → HasRanks net
ranks net acc rows d w = record { rank = λ p. rank_of rows w (port_number p); rises = λ a b x. rises a b x a.spot refl }
  where
    rises : (a b : Port) → DependsOn net a b → (spot : Spot) → a.spot ≡ spot → rank_of rows w (port_number a) < rank_of rows w (port_number b)
    rises a b x spot at = go spot at (number_after net acc a b x)
      where
        go : (spot : Spot) → a.spot ≡ spot → (j : ℕ) × (port_number b ≡ Some j) → rank_of rows w (port_number a) < rank_of rows w (port_number b)
        go (Node n) at (j, q) =
            subst (λ o. rank_of rows w o < rank_of rows w (port_number b)) (sym (ap (λ s. port_number_at s a.link) at)) (rank_first rows w (port_number b) j q)
        go (Switch n) at (j, q) =
            let i = switch_number net acc a x.goes.far n x.goes.comes at in
            rank_rises rows w (port_number a) (port_number b) i.0 j i.1 q (number_small a i.0 i.1) (d.all a b i.0 j x i.1 q)

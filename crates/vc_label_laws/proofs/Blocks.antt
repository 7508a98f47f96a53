-- A number for each step of switches with coordinates: the axes corrected before count a block each, and then the place on this axis in
-- its direction.
use Rattle.std.proofs.Common.{◌≡◌, ◌≢◌, ◌⊎◌, inl, inr, ℕ, zero, suc, ◌+◌, ◌-◌, ◌<◌, ◌≤◌, Bool, true, false, ◌==◌, nat_lt, refl, sym, ap, subst, arith}
use Rattle.std.proofs.Math.Nat.{eq-or-lt_of_le}
use Rattle.std.proofs.lemmas.Bool.Decides.{Decides-ltb, eqb_tells}
use Rattle.vc_label_laws.specs.Dimension.{Nearer}

-- which of two numbers of axes is less
pub three_ways : (i j : ℕ) → (i < j) ⊎ (i ≡ j) ⊎ (j < i)
three_ways i j = go (nat_lt i j) refl
  where
    below : (i ≡ j) ⊎ (j < i) → (i < j) ⊎ (i ≡ j) ⊎ (j < i)
    below (inl e) = inr (inl e)
    below (inr lt) = inr (inr lt)

    go : (b : Bool) → nat_lt i j ≡ b → (i < j) ⊎ (i ≡ j) ⊎ (j < i)
    go true e = inl ((Decides-ltb i j).0 e)
    go false e = below (turn (eq-or-lt_of_le (not_less e)))
      where
        not_less : nat_lt i j ≡ false → j ≤ i
        not_less e = grind (arith, Decides-ltb, e)

        turn : (j ≡ i) ⊎ (j < i) → (i ≡ j) ⊎ (j < i)
        turn (inl e) = inl (sym e)
        turn (inr lt) = inr lt

-- on an axis with coordinates below `most`, the place of the step from the one to the other
abbrev by_way : Bool → ℕ → ℕ → ℕ
by_way true most from = from
by_way false most from = most - from

abbrev pub place : ℕ → ℕ → ℕ → ℕ
place most from to = by_way (nat_lt from to) most from

up_place : (most a b : ℕ) → a < b → place most a b ≡ a
up_place most a b lt = rw ((Decides-ltb a b).1 lt) refl

down_place : (most a b : ℕ) → b < a → place most a b ≡ most - a
down_place most a b lt = go (nat_lt a b) refl
  where
    go : (t : Bool) → nat_lt a b ≡ t → by_way t most a ≡ most - a
    go true e = absurd (let less = (Decides-ltb a b).0 e in omega (arith, less, lt))
    go false e = refl

pub place_below : (most a b w : ℕ) → Nearer a b w → a < most → place most a b < most
place_below most a b w (inl g) lt = let e = g.1 in let p = up_place most a b (omega (arith, e)) in omega (arith, p, lt)
place_below most a b w (inr g) lt = let e = g.1 in let p = down_place most a b (omega (arith, e)) in omega (arith, p, lt, e)

-- the next step on the axis is behind this one
pub place_rises : (most a b c w : ℕ) → Nearer a b w → Nearer b c w → a < most → place most a b < place most b c
place_rises most a b c w (inl g) (inl h) lt =
    let x = g.1 in let y = h.1 in
    let p = up_place most a b (omega (arith, x)) in let q = up_place most b c (omega (arith, y)) in
    omega (arith, p, q, x)
place_rises most a b c w (inl g) (inr h) lt = absurd (let x = g.1 in let l = g.0 in let y = h.0 in omega (arith, x, l, y))
place_rises most a b c w (inr g) (inl h) lt = absurd (let x = g.1 in let l = g.0 in let y = h.0 in omega (arith, x, l, y))
place_rises most a b c w (inr g) (inr h) lt =
    let x = g.1 in let y = h.1 in
    let p = down_place most a b (omega (arith, x)) in let q = down_place most b c (omega (arith, y)) in
    omega (arith, p, q, x, lt)

pub differs : (a b w : ℕ) → Nearer a b w → a ≢ b
differs a b w (inl g) e = let x = g.1 in omega (arith, x, e)
differs a b w (inr g) e = let x = g.1 in omega (arith, x, e)

pub not_there : (a b w : ℕ) → Nearer a b w → a ≢ w
not_there a b w (inl g) e = let x = g.0 in omega (arith, x, e)
not_there a b w (inr g) e = let x = g.0 in omega (arith, x, e)

abbrev pub blocks : ℕ → ℕ → ℕ
blocks most zero = 0
blocks most (suc k) = most + blocks most k

pub more_blocks : (most i k : ℕ) → i < k → blocks most i + most ≤ blocks most k
more_blocks most i zero lt = absurd (omega (arith, lt))
more_blocks most i (suc k) lt = go (more_blocks most i k) (eq-or-lt_of_le (omega (arith, lt)))
  where
    go : (i < k → blocks most i + most ≤ blocks most k) → (i ≡ k) ⊎ (i < k) → blocks most i + most ≤ most + blocks most k
    go more (inl e) = let f : blocks most i ≡ blocks most k = ap (λ x. blocks most x) e in omega (arith, f)
    go more (inr less) = let r = more less in omega (arith, r)

module _ (coordinate : ℕ → ℕ → ℕ) (most : ℕ) where
  abbrev by_axis : Bool → ℕ → ℕ → ℕ
  by_axis true rest here = rest
  by_axis false rest here = here

  -- the number of the step from switch n to switch m, by the first so many axes: the last of them counts first
  abbrev pub number : ℕ → ℕ → ℕ → ℕ
  number zero n m = 0
  number (suc k) n m = by_axis (coordinate n k == coordinate m k) (most + number k n m) (place most (coordinate n k) (coordinate m k))

  same_axis : (k n m : ℕ) (rest here : ℕ) → coordinate m k ≡ coordinate n k → by_axis (coordinate n k == coordinate m k) rest here ≡ rest
  same_axis k n m rest here e = go (eqb_tells (coordinate n k) (coordinate m k))
    where
      go : (((coordinate n k == coordinate m k) ≡ true) × (coordinate n k ≡ coordinate m k)) ⊎ (((coordinate n k == coordinate m k) ≡ false) × (coordinate n k ≢ coordinate m k)) →
          by_axis (coordinate n k == coordinate m k) rest here ≡ rest
      go (inl x) = ap (λ b. by_axis b rest here) x.0
      go (inr x) = absurd (x.1 (sym e))

  other_axis : (k n m : ℕ) (rest here : ℕ) → coordinate n k ≢ coordinate m k → by_axis (coordinate n k == coordinate m k) rest here ≡ here
  other_axis k n m rest here e = go (eqb_tells (coordinate n k) (coordinate m k))
    where
      go : (((coordinate n k == coordinate m k) ≡ true) × (coordinate n k ≡ coordinate m k)) ⊎ (((coordinate n k == coordinate m k) ≡ false) × (coordinate n k ≢ coordinate m k)) →
          by_axis (coordinate n k == coordinate m k) rest here ≡ here
      go (inl x) = absurd (e x.1)
      go (inr x) = ap (λ b. by_axis b rest here) x.0

  -- where the switches differ on one axis, and on no later one
  pub number_is : (k n m i : ℕ) → i < k → ((j : ℕ) → i < j → j < k → coordinate m j ≡ coordinate n j) → coordinate n i ≢ coordinate m i →
      number k n m + (blocks most i + most) ≡ blocks most k + place most (coordinate n i) (coordinate m i)
  number_is zero n m i lt same other = absurd (omega (arith, lt))
  number_is (suc k) n m i lt same other = go (λ less. number_is k n m i less (λ j a b. same j a (omega (arith, b))) other) (eq-or-lt_of_le (omega (arith, lt)))
    where
      go : (i < k → number k n m + (blocks most i + most) ≡ blocks most k + place most (coordinate n i) (coordinate m i)) → (i ≡ k) ⊎ (i < k) → number (suc k) n m + (blocks most i + most) ≡ (most + blocks most k) + place most (coordinate n i) (coordinate m i)
      go rest (inl e) =
          let o : coordinate n k ≢ coordinate m k = subst (λ x. coordinate n x ≢ coordinate m x) e other in
          let x = other_axis k n m (most + number k n m) (place most (coordinate n k) (coordinate m k)) o in
          let f : blocks most i ≡ blocks most k = ap (λ x. blocks most x) e in
          let p : place most (coordinate n i) (coordinate m i) ≡ place most (coordinate n k) (coordinate m k) = ap (λ x. place most (coordinate n x) (coordinate m x)) e in
          omega (arith, x, f, p)
      go rest (inr less) =
          let x = same_axis k n m (most + number k n m) (place most (coordinate n k) (coordinate m k)) (same k less (omega arith)) in
          let r = rest less in
          omega (arith, x, r)

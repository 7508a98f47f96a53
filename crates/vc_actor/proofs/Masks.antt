-- Going through the links of a mask, the least one first.
use Rattle.std.proofs.Common.{◌≡◌, ◌≢◌, ◌+◌, ◌<◌, ℕ, sym, ◌∙◌, subst, arith, inl, inr, bit_and}
use Rattle.std.proofs.lemmas.Bool.{cases_eq, cases_lt}
use Rattle.std.proofs.lemmas.Nat.Bits.{bit_at_and, bit_at-lt}
use Rattle.std.specs.Int.{bit_at}

-- a bit of two masks
pub both_bits : (a b l : ℕ) → bit_at a l ≡ 1 → bit_at b l ≡ 1 → bit_at (bit_and a b) l ≡ 1
both_bits a b l x y = let e = bit_at_and a b l in omega (arith, e, x, y)

pub bits_both : (a b l : ℕ) → bit_at (bit_and a b) l ≡ 1 → (bit_at a l ≡ 1) × (bit_at b l ≡ 1)
bits_both a b l h = let e = bit_at_and a b l in let x = bit_at-lt a l in let y = bit_at-lt b l in (omega (arith, e, h, x, y), omega (arith, e, h, x, y))

pub not_both : {n : ℕ} → n ≡ 0 → n ≡ 1 → ⊥
not_both {n} z o = omega (arith, z, o)

-- the least link is gone, and so are as many as were tried and one more
pub gone_more : (n old new link : ℕ) → ((j : ℕ) → j < n → bit_at old j ≡ 0) → bit_at old link ≡ 1 → ((j : ℕ) → j < link → bit_at old j ≡ 0) → bit_at new link ≡ 0 → ((j : ℕ) → j < 32 → j ≢ link → bit_at new j ≡ bit_at old j) →
    n < 32 → (j : ℕ) → j < n + 1 → bit_at new j ≡ 0
gone_more n old new link before set least gone others few j less = elim (cases_eq j link) [
  | inl same ↦ subst (λ z. bit_at new z ≡ 0) (sym same) gone
  | inr ne ↦ others j (omega arith) ne ∙ elim (cases_lt j n) [
    | inl sooner ↦ before j sooner
    | inr later ↦ elim (cases_lt j link) [
      | inl low ↦ least j low
      | inr high ↦ absurd (let far : link < n = omega arith in not_both (before link far) set)
    ]
  ]
]

-- what is left is to be tried, but for the one that was
pub left_more : (P : ℕ → Type 0) (old new link : ℕ) → ((j : ℕ) → P j → bit_at old j ≡ 1) → ((j : ℕ) → P j → j < 32) → ((j : ℕ) → j < 32 → j ≢ link → bit_at new j ≡ bit_at old j) → (P link → ⊥) → (j : ℕ) → P j → bit_at new j ≡ 1
left_more P old new link tried few others none j p = elim (cases_eq j link) [
  | inl same ↦ absurd (none (subst P same p))
  | inr ne ↦ others j (few j p) ne ∙ tried j p
]

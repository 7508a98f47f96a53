-- Masks of links, bit by bit.
use Rattle.std.proofs.Common.{◌≡◌, ◌≢◌, ◌↔◌, ◌+◌, ◌<◌, ◌^◌, ℕ, zero, suc, Bool, true, false, IsTrue, refl, sym, ap, ◌∙◌, subst, arith, inl, inr, bit_and}
use Rattle.std.proofs.lemmas.Bool.{cases_eq, cases_lt}
use Rattle.std.proofs.lemmas.Nat.Bits.{bit_at-zero, bit_at-trailing_zeros, bit_at_above, bit_at_and, bit_at-lt, bit_at_not}
use Rattle.std.specs.Int.{bit_at, bit_not, trailing_zeros, w32}
use Rattle.vc_switch.specs.Private.Ready.{Tells}
use Rattle.vc_switch.specs.Private.Requests.{HasMore}

pub not_both : {n : ℕ} → n ≡ 0 → n ≡ 1 → ⊥
not_both {n} z o = omega (arith, z, o)

pub is_one : (m l : ℕ) → bit_at m l ≢ 0 → bit_at m l ≡ 1
is_one m l some = one_of (bit_at m l) (bit_at-lt m l) some
  where
    one_of : (n : ℕ) → n < 2 → n ≢ 0 → n ≡ 1
    one_of zero less some = absurd (some refl)
    one_of (suc zero) less some = refl
    one_of (suc (suc n)) less some = absurd (omega (arith, less))

pub is_zero : (m l : ℕ) → (bit_at m l ≡ 1 → ⊥) → bit_at m l ≡ 0
is_zero m l none = elim (cases_eq (bit_at m l) 0) [
  | inl e ↦ e
  | inr ne ↦ absurd (none (is_one m l ne))
]

-- a mask that is not 0 has a bit
pub some_bit : (m : ℕ) → m < 2 ^ 32 → m ≢ 0 → (l : ℕ) × (bit_at m l ≡ 1)
some_bit zero fits some = absurd (some refl)
some_bit (suc m) fits some = let low = bit_at-trailing_zeros w32 (suc m) (omega arith) fits in (trailing_zeros w32 (suc m), low.1)

-- a mask with a bit is not 0
pub has_bit : (m l : ℕ) → bit_at m l ≡ 1 → m ≢ 0
has_bit m l one e = not_both (ap (λ z. bit_at z l) e ∙ bit_at-zero l) one

-- a mask's bits are below 32
pub bit_within : (m l : ℕ) → m < 2 ^ 32 → bit_at m l ≡ 1 → l < 32
bit_within m l fits one = elim (cases_lt l 32) [
  | inl few ↦ few
  | inr far ↦ absurd (not_both (bit_at_above m 32 l fits (omega (arith, far))) one)
]

-- Two masks.

pub minus_bits : (m other l : ℕ) → m < 2 ^ 32 → other < 2 ^ 32 → (bit_at (bit_and m (bit_not w32 other)) l ≡ 1) ↔ ((bit_at m l ≡ 1) × (bit_at other l ≡ 0))
minus_bits m other l fits small =
    let both = bit_at_and m (bit_not w32 other) l in
    let a = bit_at-lt m l in
    let b = bit_at-lt (bit_not w32 other) l in (
      λ e. (let one : bit_at m l ≡ 1 = omega (arith, both, a, b, e) in
          let turned = bit_at_not w32 other l small (bit_within m l fits one) in
          let c = bit_at-lt other l in
          (one, omega (arith, both, a, b, e, turned, c))),
      λ p. (let turned = bit_at_not w32 other l small (bit_within m l fits p.0) in
          let x = p.0 in
          let y = p.1 in
          omega (arith, both, turned, x, y)),
    )

-- a mask has more where what it has without the other is not 0
pub more_bits : (m other left : ℕ) → left < 2 ^ 32 → ((l : ℕ) → (bit_at left l ≡ 1) ↔ ((bit_at m l ≡ 1) × (bit_at other l ≡ 0))) → (left ≢ 0) ↔ HasMore m other
more_bits m other left fits is = (
  λ some. (let b = some_bit left fits some in let both = (is b.0).0 b.1 in (b.0, both.0, both.1)),
  λ more. has_bit left more.0 ((is more.0).1 (more.1, more.2)),
)

-- Going through the links of a mask, the least one first.

-- the least link is gone, and so are as many as were tried and one more
pub gone_more : (n old new link : ℕ) → ((j : ℕ) → j < n → bit_at old j ≡ 0) → bit_at old link ≡ 1 → ((j : ℕ) → j < link → bit_at old j ≡ 0) → Tells (IsTrue false) link old new → link < 32 → n < 32 → (j : ℕ) → j < n + 1 → bit_at new j ≡ 0
gone_more n old new link before set least tells within few j less = elim (cases_eq j link) [
  | inl same ↦ subst (λ z. bit_at new z ≡ 0) (sym same) (is_zero new link (λ one. (let no : false ≡ true = tells.it.0 one in absurd (cc))))
  | inr ne ↦ tells.others j (omega arith) ne ∙ elim (cases_lt j n) [
    | inl sooner ↦ before j sooner
    | inr later ↦ elim (cases_lt j link) [
      | inl low ↦ least j low
      | inr high ↦ absurd (let far : link < n = omega arith in not_both (before link far) set)
    ]
  ]
]

-- each link that is gone was told of
pub told_of : (P : ℕ → Type 0) (link left less old new : ℕ) (is : Bool) → ((j : ℕ) → j < 32 → bit_at left j ≡ 0 → (bit_at old j ≡ 1) ↔ P j) → Tells (IsTrue false) link left less → Tells (IsTrue is) link old new → IsTrue is ↔ P link →
    (j : ℕ) → j < 32 → bit_at less j ≡ 0 → (bit_at new j ≡ 1) ↔ P j
told_of P link left less old new is was fewer tells has j few none = elim (cases_eq j link) [
  | inl same ↦ subst (λ z. (bit_at new z ≡ 1) ↔ P z) (sym same) (λ e. has.0 (tells.it.0 e), λ p. tells.it.1 (has.1 p))
  | inr ne ↦ (let kept = tells.others j few ne in
      let before = was j few (sym (fewer.others j few ne) ∙ none) in
      (λ e. before.0 (sym kept ∙ e), λ p. kept ∙ before.1 p))
]

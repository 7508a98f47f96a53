-- A function changed at one argument.
use Rattle.std.proofs.Common.{◌≡◌, ℕ, ◌/◌, ◌%◌, inl, inr, nat_eq, List, [], ◌∷◌, ◌++◌, refl, sym, subst, arith, eq-eqb, ne_eqb}
use Rattle.std.proofs.lemmas.Bool.{cases_eq, cond-true, cond-false}
use Rattle.vc_packets.specs.Functions.{put}

pub put-same : {X : Type 0} (f : ℕ → X) (i : ℕ) (x : X) → put f i x i ≡ x
put-same f i x = cond-true (nat_eq i i) x (f i) (eq-eqb i i refl)

pub put-other : {X : Type 0} (f : ℕ → X) (i : ℕ) (x : X) (j : ℕ) → (j ≡ i → ⊥) → put f i x j ≡ f j
put-other f i x j ne = cond-false (nat_eq j i) x (f j) (ne_eqb j i ne)

pub every_put : {X : Type 0} (P : ℕ → X → Type 0) (f : ℕ → X) (i : ℕ) (x : X) → P i x → ((j : ℕ) → (j ≡ i → ⊥) → P j (f j)) → (j : ℕ) → P j (put f i x j)
every_put P f i x here others j =
    elim (cases_eq j i) [
      | inl e ↦ subst (λ k. P k (put f i x k)) (sym e) (subst (P i) (sym (put-same f i x)) here)
      | inr ne ↦ subst (P j) (sym (put-other f i x j ne)) (others j ne)
    ]

pub every_put₂ : {X Y : Type 0} (P : ℕ → X → Y → Type 0) (f : ℕ → X) (g : ℕ → Y) (i : ℕ) (x : X) (y : Y) → P i x y → ((j : ℕ) → (j ≡ i → ⊥) → P j (f j) (g j)) → (j : ℕ) → P j (put f i x j) (put g i y j)
every_put₂ P f g i x y here others j =
    elim (cases_eq j i) [
      | inl e ↦ subst (λ k. P k (put f i x k) (put g i y k)) (sym e) (subst (λ u. P i u (put g i y i)) (sym (put-same f i x)) (subst (λ u. P i x u) (sym (put-same g i y)) here))
      | inr ne ↦ subst (λ u. P j u (put g i y j)) (sym (put-other f i x j ne)) (subst (λ u. P j (f j) u) (sym (put-other g i y j ne)) (others j ne))
    ]

pub from_bytes : (a b : ℕ) → a / 256 ≡ b / 256 → a % 256 ≡ b % 256 → a ≡ b
from_bytes a b p q = omega arith

pub head_same : (a b : ℕ) (xs ys : List ℕ) → a ∷ xs ≡ b ∷ ys → a ≡ b
head_same a b xs ys e = cc

pub tail_same : (a b : ℕ) (xs ys : List ℕ) → a ∷ xs ≡ b ∷ ys → xs ≡ ys
tail_same a b xs ys e = cc

pub header_same : (a b : ℕ) (xs ys : List ℕ) → a / 256 ∷ a % 256 ∷ xs ≡ b / 256 ∷ b % 256 ∷ ys → a ≡ b
header_same a b xs ys e =
    let p : a / 256 ≡ b / 256 = cc in
    let q : a % 256 ≡ b % 256 = cc in
    from_bytes a b p q

pub header_rest_same : (a b : ℕ) (xs ys : List ℕ) → a / 256 ∷ a % 256 ∷ xs ≡ b / 256 ∷ b % 256 ∷ ys → xs ≡ ys
header_rest_same a b xs ys e = cc

pub append_cancel : (xs ys zs : List ℕ) → xs ++ ys ≡ xs ++ zs → ys ≡ zs
append_cancel [] ys zs e = e
append_cancel (x ∷ xs) ys zs e = append_cancel xs ys zs (tail_same x x (xs ++ ys) (xs ++ zs) e)

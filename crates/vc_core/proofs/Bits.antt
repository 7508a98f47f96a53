-- One bit of an actor's links is set or cleared.
use Rattle.std.proofs.Common.{◌≡◌, ◌≢◌, ℕ, zero, suc, ◌*◌, ◌%◌, ◌^◌, ◌<◌, unwrap_or, bit_or, List, length, get_or, replicate, slice_get, slice_set, Some, refl, sym, ap, ◌∙◌, inl, inr}
use Rattle.std.proofs.lemmas.Bool.{cases_eq}
use Rattle.std.proofs.lemmas.List.{length-set}
use Rattle.std.proofs.lemmas.Nat.Bits.{bit_at_set_same, bit_at_set_other}
use Rattle.std.proofs.lemmas.Option.{slice_get-get_or, slice_get_within, get_or_from_slice_get, unwrap_or-slice_get}
use Rattle.std.specs.Int.{bit_at, w32}
use Rattle.vc_vcp.proofs.ListWrites.{place-set_same, place-set_other}
use Rattle.vc_core.specs.Fronts.{bit_of}
use Rattle.vc_core.specs.Private.Fronts.{Marked}

pub there_now : (old : List ℕ) (k x y : ℕ) → slice_get old k ≡ Some x → get_or (slice_set old k y) k 0 ≡ y
there_now old k x y here = get_or_from_slice_get (slice_set old k y) k y 0 (place-set_same old k y (slice_get_within old k x here))

pub elsewhere : (old : List ℕ) (k j y : ℕ) → j ≢ k → get_or (slice_set old k y) j 0 ≡ get_or old j 0
elsewhere old k j y ne = sym (unwrap_or-slice_get (slice_set old k y) j 0) ∙ ap (λ o. unwrap_or o 0) (place-set_other old k j y ne) ∙ unwrap_or-slice_get old j 0

pub marked : (old : List ℕ) (k l x y b : ℕ) → slice_get old k ≡ Some x → bit_at y l ≡ b → ((i : ℕ) → i < 32 → i ≢ l → bit_at y i ≡ bit_at x i) → Marked old k l b (slice_set old k y)
marked old k l x y b here it others = record {
  count = length-set old k y;
  it = ap (λ z. bit_at z l) (there_now old k x y here) ∙ it;
  others = λ j i few other. elim (cases_eq j k) [
    | inl same ↦ ap (λ z. bit_of (slice_set old k y) z i) same ∙ ap (λ z. bit_at z i) (there_now old k x y here) ∙ others i few (λ e. other (same, e)) ∙ ap (λ z. bit_at z i) (sym (get_or_from_slice_get old k x 0 here)) ∙ ap (λ z. bit_of old z i) (sym same)
    | inr ne ↦ ap (λ z. bit_at z i) (elsewhere old k j y ne)
  ];
}

zeros : (n k : ℕ) → get_or (replicate {A = ℕ} n 0) k 0 ≡ 0
zeros zero k = refl
zeros (suc n) zero = refl
zeros (suc n) (suc k) = zeros n k

-- at first no actor has a bit
pub none_set : (links : List ℕ) → links ≡ replicate 256 0 → (k : ℕ) → get_or links k 0 ≡ 0
none_set links none k = ap (λ z. get_or z k 0) none ∙ zeros 256 k

-- what stands at an actor's place, as the code reads it
pub read_at : (links : List ℕ) (i k : ℕ) → i ≡ k → k < length links → slice_get links k ≡ Some (get_or links i 0)
read_at links i k is less = slice_get-get_or links k 0 less ∙ ap (λ n. Some (get_or links n 0)) (sym is)

pub marked_set : (old : List ℕ) (k l x : ℕ) → slice_get old k ≡ Some x → l < 32 → Marked old k l 1 (slice_set old k (bit_or x (1 * 2 ^ l % 2 ^ 32)))
marked_set old k l x here few = marked old k l x (bit_or x (1 * 2 ^ l % 2 ^ 32)) 1 here (bit_at_set_same w32 x l few) (λ i less ne. bit_at_set_other w32 x l few i ne)

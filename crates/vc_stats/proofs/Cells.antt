-- The cells of a table, and entries of a list.
use Rattle.std.proofs.Common.{◌≡◌, ◌≢◌, ℕ, zero, suc, ◌<◌, ◌≤◌, List, [], ◌∷◌, ◌++◌, length, get_or, slice_get, refl, ap, sym, arith}
use Rattle.std.proofs.Math.ListN.{set}
use Rattle.std.specs.Option.{option_map_or}
use Rattle.vc_stats.specs.Tallies.{entry}
use Rattle.vc_stats.specs.declared.tally.Tally.{Tally}

-- the cell of these rows
abbrev pub cell_in : List Tally → ℕ → ℕ → ℕ
cell_in rows k n = option_map_or (λ tally. entry tally n) (slice_get rows k) 0

-- an empty row more
pub row_more : (rows : List Tally) (t : Tally) → ((n : ℕ) → entry t n ≡ 0) → (k n : ℕ) → cell_in (rows ++ t ∷ []) k n ≡ cell_in rows k n
row_more [] t empty zero n = empty n
row_more [] t empty (suc k) n = refl
row_more (r ∷ rs) t empty zero n = refl
row_more (r ∷ rs) t empty (suc k) n = row_more rs t empty k n

-- an entry more that is the one past the end
pub entry_more : {X : Type 0} (d : X) (xs : List X) (x : X) → x ≡ d → (n : ℕ) → get_or (xs ++ x ∷ []) n d ≡ get_or xs n d
entry_more d [] x none zero = none
entry_more d [] x none (suc n) = refl
entry_more d (y ∷ xs) x none zero = refl
entry_more d (y ∷ xs) x none (suc n) = entry_more d xs x none n

-- an entry that is there
pub entry_there : {X : Type 0} (xs : List X) (k : ℕ) (d x : X) → k < length xs → x ≡ get_or xs k x → get_or xs k d ≡ x
entry_there [] k d x less is = absurd (omega (arith, less))
entry_there (y ∷ ys) zero d x less is = sym is
entry_there (y ∷ ys) (suc k) d x less is = entry_there ys k d x (omega (arith, less)) is

-- a row that is there
pub row_there : (rows : List Tally) (k n : ℕ) (t : Tally) → k < length rows → t ≡ get_or rows k t → cell_in rows k n ≡ entry t n
row_there [] k n t less is = absurd (omega (arith, less))
row_there (r ∷ rs) zero n t less is = ap (λ x. entry x n) (sym is)
row_there (r ∷ rs) (suc k) n t less is = row_there rs k n t (omega (arith, less)) is

-- past the last row no number came
pub row_past : (rows : List Tally) (k n : ℕ) → length rows ≤ k → cell_in rows k n ≡ 0
row_past [] k n past = refl
row_past (r ∷ rs) zero n past = absurd (omega (arith, past))
row_past (r ∷ rs) (suc k) n past = row_past rs k n (omega (arith, past))

-- a row is changed, and the others stay
pub row_set : (rows : List Tally) (k n : ℕ) (t : Tally) → k < length rows → cell_in (set rows k t) k n ≡ entry t n
row_set [] k n t less = absurd (omega (arith, less))
row_set (r ∷ rs) zero n t less = refl
row_set (r ∷ rs) (suc k) n t less = row_set rs k n t (omega (arith, less))

pub row_set_other : (rows : List Tally) (k j n : ℕ) (t : Tally) → j ≢ k → cell_in (set rows k t) j n ≡ cell_in rows j n
row_set_other [] k j n t ne = refl
row_set_other (r ∷ rs) zero zero n t ne = absurd (ne refl)
row_set_other (r ∷ rs) zero (suc j) n t ne = refl
row_set_other (r ∷ rs) (suc k) zero n t ne = refl
row_set_other (r ∷ rs) (suc k) (suc j) n t ne = row_set_other rs k j n t (λ same. ne (ap suc same))

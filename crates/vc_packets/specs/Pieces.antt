-- The pieces of a message: each packet but the last carries 32 bytes of it, the last the rest ("Networks, Routers and
-- Transputers", chapter 2). A message whose length is a positive multiple of 32 ends with a piece of 32 bytes, and an empty
-- message is one empty piece (profile).
use Rattle.std.specs.Prelude.{◌≡◌, ℕ, zero, suc, ◌+◌, ◌-◌, ◌/◌, ◌≤◌, List, [], ◌∷◌, ◌++◌, length, take, drop}

abbrev pub joined : List (List ℕ) → List ℕ
joined [] = []
joined (c ∷ cs) = c ++ joined cs

-- every piece but the last has 32 bytes, and the last at most 32
abbrev pub IsCut : List (List ℕ) → Type 0
IsCut [] = ⊥
IsCut (c ∷ []) = length c ≤ 32
IsCut (c ∷ d ∷ cs) = (length c ≡ 32) × IsCut (d ∷ cs)

-- the last of a message's pieces is empty only where the message is
abbrev pub HasNoEmptyEnd : List ℕ → List (List ℕ) → Type 0
HasNoEmptyEnd m [] = Unit {0}
HasNoEmptyEnd m (c ∷ []) = c ≡ [] → m ≡ []
HasNoEmptyEnd m (c ∷ d ∷ cs) = HasNoEmptyEnd m (d ∷ cs)

-- cs are the pieces of the message m
pub record Pieces (m : List ℕ) (cs : List (List ℕ)) : Type 0 where
  pub whole : joined cs ≡ m
  pub cut : IsCut cs
  pub end : HasNoEmptyEnd m cs

-- how many pieces a message of this length has
abbrev pub piece_count : ℕ → ℕ
piece_count len = (len - 1) / 32 + 1

-- so many pieces of 32 bytes, of which the last has what is left
abbrev pub pieces_from : ℕ → List ℕ → List (List ℕ)
pieces_from zero m = []
pieces_from (suc n) m = take 32 m ∷ pieces_from n (drop 32 m)

-- the pieces of the message m, as a function of it
abbrev pub pieces_of : List ℕ → List (List ℕ)
pieces_of m = pieces_from (piece_count (length m)) m

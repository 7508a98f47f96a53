-- What is in a list.
use Rattle.std.proofs.Common.{◌≡◌, zero, suc, refl, List, [], ◌∷◌, ◌⊎◌, inl, inr, arith}
use Rattle.std.specs.List.{Contains}
use Rattle.std.proofs.lemmas.List.Elements.{Contains-append_left, Contains-append_right, Contains-append_cases}

pub only : {X : Type 0} (x y : X) → Contains (x ∷ []) y → x ≡ y
only x y (zero, l, h) = h
only x y (suc k, l, h) = absurd (omega arith)

pub none : {X : Type 0} (y : X) → Contains {X = X} [] y → ⊥
none y (k, l, h) = omega arith

pub alone : {X : Type 0} (x : X) → Contains (x ∷ []) x
alone x = (0, omega arith, refl)

pub at_front : {X : Type 0} (x : X) (xs : List X) → Contains (x ∷ xs) x
at_front x xs = Contains-append_left (x ∷ []) xs x (alone x)

pub behind : {X : Type 0} (x : X) (xs : List X) (y : X) → Contains xs y → Contains (x ∷ xs) y
behind x xs y h = Contains-append_right (x ∷ []) xs y h

pub front_or : {X : Type 0} (x : X) (xs : List X) (y : X) → Contains (x ∷ xs) y → (x ≡ y) ⊎ Contains xs y
front_or x xs y h = elim (Contains-append_cases (x ∷ []) xs y h) [ inl k ↦ inl (only x y k) | inr k ↦ inr k ]

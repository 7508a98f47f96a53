-- Headers as bytes: two each, the high byte first (profile).
use Rattle.std.specs.Prelude.{ℕ, ◌+◌, ◌*◌, ◌/◌, ◌%◌, List, [], ◌∷◌, Option, Some, None}

-- a route's headers, the front one first
abbrev pub spelled : List ℕ → List ℕ
spelled [] = []
spelled (h ∷ hs) = h / 256 ∷ h % 256 ∷ spelled hs

-- the header that a body begins with
abbrev pub front_header_of : List ℕ → Option ℕ
front_header_of [] = None
front_header_of (high ∷ []) = None
front_header_of (high ∷ low ∷ rest) = Some (256 * high + low)

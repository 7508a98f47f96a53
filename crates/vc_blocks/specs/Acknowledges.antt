-- What an acknowledge comes to, by the pieces not yet acknowledged.
use Rattle.std.specs.Prelude.{ℕ, List, [], ◌∷◌}
use Rattle.vc_blocks.specs.declared.out_half.Advance.{Advance}
use Rattle.vc_blocks.specs.declared.out_half.Advance.TheVariants.{More, Finished}

-- the pieces behind the one under way
abbrev pub later_than : List (List ℕ) → List (List ℕ)
later_than [] = []
later_than (now ∷ later) = later

abbrev pub advanced : List (List ℕ) → Advance
advanced [] = Finished
advanced (now ∷ later) = More

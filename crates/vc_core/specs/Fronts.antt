-- Which links of which actors tokens come by, as bits: an actor has a number, with a bit for each link.
use Rattle.std.specs.Prelude.{ℕ, List, get_or}
use Rattle.std.specs.Int.{bit_at}

-- the link's bit of actor k
abbrev pub bit_of : List ℕ → ℕ → ℕ → ℕ
bit_of links k link = bit_at (get_or links k 0) link

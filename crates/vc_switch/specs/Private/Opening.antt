-- A switch as it begins, by the plan that it is given.
use Rattle.std.specs.Prelude.{ℕ, zero, suc, List, [], ◌∷◌, ◌++◌, None}
use Rattle.vc_credit.specs.Ends.{new_receiver}
use Rattle.vc_switch.specs.declared.link_in.LinkIn.{LinkIn}
use Rattle.vc_switch.specs.declared.link_out.LinkOut.{LinkOut}

-- the values at 0 to n - 1
abbrev pub listed : {X : Type 0} → (ℕ → X) → ℕ → List X
listed f zero = []
listed f (suc n) = listed f n ++ f n ∷ []

unfoldable pub link_count : ℕ
link_count = 32

abbrev pub new_link_in : ℕ → LinkIn
new_link_in limit = record { receiver = new_receiver; word = 0; got = record { passed = []; limit = limit }; mark = None; bound = None }

abbrev pub new_link_out : LinkOut
new_link_out = record { credit = 0; source = None }

-- What a site does where a move is made, or where it goes on.
use Rattle.std.specs.Prelude.{◌≡◌, ◌==◌, ℕ, nat_le, List, [], ◌∷◌, Option, Some, None, if◌then◌else◌}
use Rattle.vc_occam.specs.declared.answer.Answer.{Answer}
use Rattle.vc_occam.specs.declared.moves.Move.{Move}
use Rattle.vc_occam.specs.declared.moves.Move.TheVariants.{Offer, Want, Choose, Stopch, Inner, Quiet}
use Rattle.vc_occam.specs.States.{came}

-- the site of a move; of a meeting, the output's
abbrev pub site_of : Move → ℕ
site_of (Offer i c) = i
site_of (Want i c) = i
site_of (Choose i k c) = i
site_of (Stopch i c) = i
site_of (Inner i j k c) = i
site_of (Quiet i) = i

-- the first of these moves at a site from the i-th on
abbrev pub from_site : ℕ → List Move → Option Move
from_site i [] = None
from_site i (m ∷ ms) = if nat_le i (site_of m) then Some m else from_site i ms

-- these moves without the first one at the i-th site
abbrev pub without : ℕ → List Move → List Move
without i [] = []
without i (m ∷ ms) = if site_of m == i then ms else m ∷ without i ms

-- an output begins, or an input that finds no message: its site waits then, and no other has done anything
abbrev pub BeginsToWait : Move → Answer → Type 0
BeginsToWait (Offer i c) a = Unit {0}
BeginsToWait (Want i c) a = came a ≡ None
BeginsToWait m a = ⊥

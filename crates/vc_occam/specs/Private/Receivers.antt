-- The inputs and guards that outputs meet, by their channel.
use Rattle.std.specs.Prelude.{◌≡◌, ℕ, suc, List}
use Rattle.std.specs.List.Sorted.{IsNonDecreasingBy}
use Rattle.vc_occam.specs.declared.moves.Move.{Move}
use Rattle.vc_occam.specs.declared.moves.Move.TheVariants.{Offer, Want, Choose, Stopch, Inner, Quiet}
use Rattle.vc_occam.specs.First.{meetings}

-- of an input or a guard one more than its channel's number, and 0 of another move
abbrev pub key : Move → ℕ
key (Offer i c) = 0
key (Want i c) = suc c
key (Choose i k c) = suc c
key (Stopch i c) = 0
key (Inner i j k c) = 0
key (Quiet i) = 0

-- the first list is in order of channel, and each output meets there what it meets in the second
pub record HasReceivers (found ms : List Move) : Type 0 where
  pub rising : IsNonDecreasingBy key found
  pub meets : (i c : ℕ) → meetings i c found ≡ meetings i c ms

-- On an accepted network with ranks nothing is under way where only processes can make events.
use Rattle.std.proofs.Common.{ℕ, inl, inr}
use Rattle.vc_machine.specs.Paths.{Net}
use Rattle.vc_switch.specs.Waiting.{Waiting}
use Rattle.vc_machine.specs.Still.{StillIsClear}
use Rattle.vc_machine.proofs.Standing.{stands}
use Rattle.vc_machine.proofs.Progress.{goes_on}

pub still_is_clear : (net : Net) (back : ℕ → ℕ) (waiting : Waiting) → StillIsClear net back waiting
still_is_clear net back waiting most acc has ranks wires stay es u run still w real =
    elim (goes_on net back waiting most u acc ranks stay (stands net back waiting most acc has wires es u run)) [
      | inl p ↦ absurd (still p.event p.new p.moves p.step)
      | inr rest ↦ rest.clear w real
    ]

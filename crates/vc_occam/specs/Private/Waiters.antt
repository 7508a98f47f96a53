-- The sites that are noted as ones that wait.
use Rattle.std.specs.Prelude.{◌≡◌, ◌%◌, ℕ, Bool, true, List, Option, Some, None, IsSome, slice_get}
use Rattle.std.specs.List.{Contains}
use Rattle.vc_occam.specs.declared.moves.Move.{Move}
use Rattle.vc_occam.specs.declared.moves.Move.TheVariants.{Offer, Want, Choose}
use Rattle.vc_occam.specs.declared.waiters.Waiters.{Waiters}
use Rattle.vc_occam.specs.declared.waits.Waits.{Waits}
use Rattle.vc_occam.specs.declared.waits.Waits.TheVariants as waits
use Rattle.vc_occam.specs.Private.Frames.{waits_at}
use Rattle.vc_occam.specs.States.{Waiting, bytes_or_none}
use Rattle.vc_process.specs.ProcessStep.{ProcessStep, Finishes, Receives}

-- this site is noted as one that waits for this
abbrev pub IsNoted : Waiters → Waits → ℕ → Type 0
IsNoted noted (waits.Output c) i = slice_get noted.outputs (c % 256) ≡ Some (Some (record { chan = c; site = i }))
IsNoted noted (waits.Input c) i = slice_get noted.inputs (c % 256) ≡ Some (Some (record { chan = c; site = i }))

-- each site that is noted waits, said as that none is noted that does not: an invariant may have one proof only, and that has one
abbrev pub AllWait : Waiters → List Waiting → Type 0
AllWait noted ws = (w : Waits) (i : ℕ) → IsNoted noted w i → (Contains ws (waits_at w i) → ⊥) → ⊥

-- what a site waits for that makes a move, with the site: an output for its end, and an input or guard where no message came
abbrev pub wait_of : Move → (has_none : Bool) → Option (Waits × ℕ)
wait_of (Offer i c) b = Some (waits.Output c, i)
wait_of (Want i c) true = Some (waits.Input c, i)
wait_of (Choose i k c) true = Some (waits.Input c, i)
wait_of m b = None

-- an output that waits is finished, and an input gets its message
abbrev pub FitsWait : Waits → Option (List ℕ) → Type 0
FitsWait (waits.Output c) m = m ≡ None
FitsWait (waits.Input c) m = IsSome m

abbrev pub step_of : Waits → Option (List ℕ) → ProcessStep
step_of (waits.Output c) m = Finishes c
step_of (waits.Input c) m = Receives c (bytes_or_none m)

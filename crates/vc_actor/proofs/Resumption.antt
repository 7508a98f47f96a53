-- A process goes on where what it waits for is finished, or has come.
use Rattle.std.proofs.Common.{◌≡◌, ℕ, Bool, true, false, List, Some, refl}
use Rattle.std.specs.List.{Contains}
use Rattle.vc_process.specs.ProcessStep.{Finishes, Receives}
use Rattle.vc_occam.specs.Runnings.{inner_channels, state}
use Rattle.vc_occam.specs.States.{Acts, input, output, waiting}
use Rattle.vc_occam.specs.declared.running.Running.{Running}
use Rattle.vc_vcp.specs.Steps.{Complete, Finished}
use Rattle.vc_network.specs.Network.{GoesOn}
use Rattle.vc_accepted.specs.Process.{does}
use Rattle.vc_actor.specs.ActorView.{process_of}
use Rattle.vc_actor.specs.Private.Passes.{IsAwaited}

pub has_finished : (old new : Running) (b : Bool) (c : ℕ) → (b ≡ true → Acts (state old) (Finishes c) (state new)) → (b ≡ false → (i : ℕ) → Contains (waiting (state old).rest) (output i c) → ⊥) → inner_channels new ≡ inner_channels old →
    IsAwaited (process_of old) (Some (Finished c)) → GoesOn does (process_of old) (Some (Finished c)) (process_of new)
has_finished old new true c acts none inside h = let a = acts refl in record { comms = a.0; does = a.1; inside = inside }
has_finished old new false c acts none inside h = absurd (none refl h.0 h.1)

pub has_received : (old new : Running) (b : Bool) (c : ℕ) (m : List ℕ) → (b ≡ true → Acts (state old) (Receives c m) (state new)) → (b ≡ false → (i : ℕ) → Contains (waiting (state old).rest) (input i c) → ⊥) → inner_channels new ≡ inner_channels old →
    IsAwaited (process_of old) (Some (Complete c m)) → GoesOn does (process_of old) (Some (Complete c m)) (process_of new)
has_received old new true c m acts none inside h = let a = acts refl in record { comms = a.0; does = a.1; inside = inside }
has_received old new false c m acts none inside h = absurd (none refl h.0 h.1)

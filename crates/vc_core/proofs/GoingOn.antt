-- What a token that passed brings, the process goes on with.
use Rattle.std.proofs.Common.{Option, Some, refl}
use Rattle.vc_occam.proofs.GoingOn.{finishes_on, receives_on}
use Rattle.vc_vcp.specs.Steps.{Taken, Complete, Finished}
use Rattle.vc_network.specs.Network.{GoesOn}
use Rattle.vc_actor.specs.Private.Passes.{IsAwaited}
use Rattle.vc_accepted.specs.Process.{Process, does}

pub goes_on : (p : Process) (taken : Option Taken) → IsAwaited p taken → (q : Process) × GoesOn does p taken q
goes_on p (Some (Complete c m)) (i, h) =
    let n = receives_on p.state i c m h in
    (record { inside = p.inside; state = n.1 }, record { comms = n.0; does = n.2; inside = refl })
goes_on p (Some (Finished c)) (i, h) =
    let n = finishes_on p.state i c h in
    (record { inside = p.inside; state = n.1 }, record { comms = n.0; does = n.2; inside = refl })
goes_on p o h = (p, refl)

use Rattle.std.proofs.Common.{ap, ◌∙◌, arith}
use Rattle.vc_threads.proofs.order.place_in.Goals as goal

pub unreachable-requires : goal.unreachable-requires
unreachable-requires c =
    let h = c.requires in
    let m = h.1.1 in
    c.loop-k.invariant h.1.0 (omega (arith, m)) h.0 (ap (λ o. o.0) h.1.2 ∙ h.2)

use Rattle.std.proofs.Common.{◌≡◌}
use Rattle.vc_switch.specs.Private.Opening.{listed, new_link_out}
use Rattle.vc_switch.proofs.opening.outputs.Given as goal

abbrev pub invariant-loop-link : goal.invariant-loop-link
invariant-loop-link l = l.outputs.items ≡ listed (λ link. new_link_out) l._link

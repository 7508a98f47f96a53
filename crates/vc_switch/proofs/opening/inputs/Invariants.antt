use Rattle.std.proofs.Common.{◌≡◌}
use Rattle.vc_switch.specs.Private.Opening.{listed, new_link_in}
use Rattle.vc_switch.proofs.opening.inputs.Given as goal

abbrev pub invariant-loop-link : goal.invariant-loop-link
invariant-loop-link l = l.inputs.items ≡ listed (λ link. new_link_in l.limit) l._link

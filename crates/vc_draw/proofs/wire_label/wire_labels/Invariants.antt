use Rattle.std.proofs.Common.{◌≡◌, ◌++◌, drop, map}
use Rattle.std.specs.List.{enumerate_from}
use Rattle.vc_core.specs.State.{shown, state_of}
use Rattle.vc_draw.specs.State.{wire_label}
use Rattle.vc_draw.proofs.wire_label.wire_labels.Given as goal

abbrev pub invariant-loop-number : goal.invariant-loop-number
invariant-loop-number l = l.labels ++ map (wire_label l.plan (shown (state_of l.network))) (enumerate_from l.number (drop l.number l.plan.wires)) ≡ map (wire_label l.plan (shown (state_of l.network))) (enumerate_from 0 l.plan.wires)

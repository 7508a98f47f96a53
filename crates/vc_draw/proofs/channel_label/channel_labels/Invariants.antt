use Rattle.std.proofs.Common.{◌≡◌, ◌++◌, drop, map}
use Rattle.std.specs.List.{enumerate_from}
use Rattle.vc_core.specs.State.{shown, state_of}
use Rattle.vc_draw.specs.State.{channel_label}
use Rattle.vc_draw.proofs.channel_label.channel_labels.Given as goal

abbrev pub invariant-loop-number : goal.invariant-loop-number
invariant-loop-number l = l.labels ++ map (channel_label l.plan (shown (state_of l.network)) l.places) (enumerate_from l.number (drop l.number l.plan.channels)) ≡ map (channel_label l.plan (shown (state_of l.network)) l.places) (enumerate_from 0 l.plan.channels)

use Rattle.std.proofs.Common.{◌≡◌, ◌++◌, List, drop}
use Rattle.std.specs.List.{enumerate_from, flat_map}
use Rattle.vc_core.specs.declared.event.Event.{Event}
use Rattle.vc_stats.specs.Counts.{AreCounts}
use Rattle.vc_stats.specs.Sections.{wire_text}
use Rattle.vc_stats.proofs.sections.push_wires.Given as goal

abbrev pub invariant-loop-n : goal.invariant-loop-n
invariant-loop-n l =
    (es : List Event) → AreCounts l.stats es →
    l.out.items ++ flat_map (wire_text l.form l.plan es l.ways) (enumerate_from l.n (drop l.n l.wires)) ≡ l.fn.out.items ++ flat_map (wire_text l.form l.plan es l.ways) (enumerate_from 0 l.wires)

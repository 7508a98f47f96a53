use Rattle.std.proofs.Common.{◌≡◌, ◌++◌, List, take}
use Rattle.std.specs.List.{flat_map}
use Rattle.vc_core.specs.declared.event.Event.{Event}
use Rattle.vc_stats.specs.Counts.{AreCounts}
use Rattle.vc_stats.specs.Fields.{kind_text}
use Rattle.vc_stats.proofs.fields.push_each.Given as goal

abbrev pub invariant-loop-kind : goal.invariant-loop-kind
invariant-loop-kind l = (es : List Event) → AreCounts l.stats es → l.out.items ≡ l.fn.out.items ++ flat_map (kind_text l.form l.actor es) (take l.kind-index l.kinds)

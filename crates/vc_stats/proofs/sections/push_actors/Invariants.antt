use Rattle.std.proofs.Common.{◌≡◌, ◌++◌, List}
use Rattle.std.specs.List.{flat_map, range_with_len}
use Rattle.vc_core.specs.declared.event.Event.{Event}
use Rattle.vc_stats.specs.Counts.{AreCounts}
use Rattle.vc_stats.specs.Sections.{actor_text}
use Rattle.vc_stats.proofs.sections.push_actors.Given as goal

abbrev pub invariant-loop-actor : goal.invariant-loop-actor
invariant-loop-actor l = (es : List Event) → AreCounts l.stats es → l.out.items ≡ l.fn.out.items ++ flat_map (actor_text l.form l.plan es) (range_with_len 0 l.actor)

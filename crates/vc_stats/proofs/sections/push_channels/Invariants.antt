use Rattle.std.proofs.Common.{◌≡◌, ◌++◌, List, drop, map}
use Rattle.std.specs.List.{enumerate_from, flat_map}
use Rattle.vc_core.specs.declared.event.Event.{Event}
use Rattle.vc_text.specs.Views.{shown}
use Rattle.vc_stats.specs.Counts.{AreCounts}
use Rattle.vc_stats.specs.Sections.{channel_text}
use Rattle.vc_stats.proofs.sections.push_channels.Given as goal

abbrev pub invariant-loop-n : goal.invariant-loop-n
invariant-loop-n l =
    (es : List Event) → AreCounts l.stats es →
    l.out.items ++ flat_map (channel_text l.form es l.unfinished) (enumerate_from l.n (map shown (drop l.n l.views))) ≡ l.fn.out.items ++ flat_map (channel_text l.form es l.unfinished) (enumerate_from 0 (map shown l.views))

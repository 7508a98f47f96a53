use Rattle.vc_stats.specs.Sections.{stats_text}
use Rattle.vc_stats.proofs.Pieces.{eight_more}
use Rattle.vc_stats.proofs.sections.push_stats.Goals as goal

pub returns : goal.returns
unfolding stats_text
returns c = λ es counts.
    eight_more _ _ _ _ _ _ _ _ _ _ _ _ _ _ _ _ _ (c.in_ok-push_events.ensures es counts) (rw c.text.ensures at c.in_ok-extend_from_slice.ensures.items) (c.in_ok-push_actors.ensures es counts)
    (rw c.text-2.ensures at c.in_ok-extend_from_slice-2.ensures.items) (rw c.as_slice-ways.ensures.value at (rw c.as_slice.ensures at (c.in_ok-push_wires.ensures es counts)))
    (rw c.text-3.ensures at c.in_ok-extend_from_slice-3.ensures.items) (rw c.as_slice-unfinished.ensures.value at (c.in_ok-push_channels.ensures es counts)) (rw c.text-4.ensures at c.in_ok-extend_from_slice-4.ensures.items)

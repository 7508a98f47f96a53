use Rattle.std.proofs.lemmas.Result.{on_ok_weaker}
use Rattle.vc_stats.specs.Sections.{channel_text}
use Rattle.vc_stats.proofs.Pieces.{five_more}
use Rattle.vc_stats.proofs.sections.push_channel.Goals as goal

pub returns : goal.returns
unfolding channel_text
returns c = λ es counts.
    on_ok_weaker c.push_end.result (λ last. five_more _ _ _ _ _ _ _ _ _ _ _ (rw c.as_bytes.ensures.value at c.in_ok-push_start.ensures) (c.in_ok-push_begun.ensures es counts) c.in_ok-push_taken.ensures c.in_ok-push_unfinished.ensures last)
    c.push_end.ensures

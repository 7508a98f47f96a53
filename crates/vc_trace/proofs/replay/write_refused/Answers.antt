use Rattle.std.proofs.Common.{◌∙◌, subst}
use Rattle.vc_text.specs.Streams.{Writes}
use Rattle.vc_trace.proofs.replay.write_refused.Goals as goal

pub returns : goal.returns
returns g c =
    subst (λ t. Writes (g.W.Write.contents c.args.writer.now) (g.W.Write.contents c.write_text.new.writer) t c.write_text.result) (c.as_slice.ensures.value ∙ c.in_ok-text.ensures) c.write_text.ensures

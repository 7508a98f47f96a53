use Rattle.vc_core.specs.State.{shown, state_of}
use Rattle.vc_text.specs.Tail.{IsTail, tail_text}
use Rattle.vc_text.proofs.StepText.{writes_one}
use Rattle.vc_text.proofs.tail.write_tail.Goals as goal

pub returns : goal.returns
returns g c = λ events.
    writes_one (IsTail c.args.is_why c.args.plan.now events (shown (state_of c.args.network.now)) c.args.close) (g.W.Write.contents c.args.writer.now) (g.W.Write.contents c.write.new.writer)
    (tail_text c.in_ok-tail.tail) c.write.result (c.in_ok-tail.ensures.text events) c.write.ensures

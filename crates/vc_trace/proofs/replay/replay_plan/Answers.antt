use Rattle.std.proofs.Common.{subst}
use Rattle.vc_trace.specs.Replay.{ReplaysPlan}
use Rattle.vc_trace.proofs.replay.replay_plan.Goals as goal

pub returns : goal.returns
returns g c =
    let known = g.E.Read.remaining c.args.events.now in
    subst (λ p. ReplaysPlan c.args.is_why known p (g.W.Write.contents c.args.writer.now) (g.W.Write.contents c.write_answer.new.writer) c.write_answer.result) c.plan-plan.ensures.plan
    (c.write_answer.ensures known c.in_ok-refused.ensures.made)

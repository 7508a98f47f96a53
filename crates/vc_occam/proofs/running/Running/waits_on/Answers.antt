use Rattle.std.proofs.Common.{subst}
use Rattle.vc_occam.specs.declared.waiters.Waiters.{Waiters}
use Rattle.vc_occam.specs.Frames.{remains}
use Rattle.vc_occam.specs.Private.Waiters.{IsNoted}
use Rattle.vc_occam.specs.States.{waiting}
use Rattle.vc_occam.proofs.MoveActs.{found_waits}
use Rattle.vc_occam.proofs.NotedWaits.{is_there}
use Rattle.vc_occam.proofs.running.Running.waits_on.Goals as goal

pub returns-in-Some : goal.returns-in-Some
returns-in-Some c =
    let noted = subst (λ (w : Waiters). IsNoted w c.args.wanted c.in-Some.site) c.deref.ensures c.in-Some.ensures in
    is_there _ _ (c.args.self.now.waiting c.args.wanted c.in-Some.site noted)

pub returns-in-None : goal.returns-in-None
returns-in-None c = found_waits c.args.wanted (waiting (remains c.args.self.now.task)) c.waits_on.result c.waits_on.ensures

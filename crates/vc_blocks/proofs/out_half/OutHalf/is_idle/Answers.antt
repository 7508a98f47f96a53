use Rattle.std.proofs.Common.{ap}
use Rattle.vc_blocks.proofs.UnderWay.{idle_is}
use Rattle.vc_blocks.proofs.out_half.OutHalf.is_idle.Goals as goal

pub returns : goal.returns
returns c =
    let x = c.self.inside in
    idle_is x.busy x.message x.count x.piece c.self.invariant c.args.self.now.unacked (ap (λ z. z.unacked) c.self.view_is)

use Rattle.std.proofs.Common.{◌∙◌, ◌++◌, sym, ap}
use Rattle.vc_process.specs.ChannelUses.{channel_uses}
use Rattle.vc_process.specs.InOrder.{number}
use Rattle.vc_process.specs.Syntax.{Proc}
use Rattle.vc_process.proofs.Numbers.{written_is}
use Rattle.vc_process.proofs.process.Process.channel_uses.Goals as goal

pub returns : goal.returns
returns c =
    let k = c.args.kinds.now in
    c.in_ok-push_uses.ensures 0 ∙ ap (λ us. us ++ channel_uses k ((number c.args.self.now).tree 0)) c.new-uses.ensures ∙ ap (λ (p : Proc). channel_uses k p) (sym (written_is c.args.self.now))

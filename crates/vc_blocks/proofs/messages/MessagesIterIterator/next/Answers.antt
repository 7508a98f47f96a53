use Rattle.std.proofs.Common.{arith}
use Rattle.vc_blocks.specs.Messages.{listed}
use Rattle.vc_blocks.proofs.Logs.{yields}
use Rattle.vc_blocks.proofs.messages.MessagesIterIterator.next.Goals as goal

pub returns-clause-steps : goal.returns-clause-steps
returns-clause-steps c =
    let s = c.args.self.now in
    yields (listed s.messages) s.at c.get-message.result (omega (arith, c.len.ensures, c.if-self-len.false)) c.get-message.ensures

use Rattle.vc_blocks.proofs.Logs.{rise-pop, cut-pop}
use Rattle.vc_blocks.proofs.message_log.MessageLog.pop.Goals as goal

pub invariant_of-self : goal.invariant_of-self
invariant_of-self c =
    let x = c.self.inside in
    rise-pop x.bytes.items c.truncate.new.self.items x.ends c.pop.new.self c.len.result c.before-2.result c.self.invariant c.pop.ensures c.len.ensures c.before-2.ensures c.truncate.ensures.items

pub returns : goal.returns
returns c =
    let x = c.self.inside in
    cut-pop x.bytes.items c.truncate.new.self.items x.ends c.pop.new.self c.args.self.now c.len.result c.before-2.result c.self.invariant c.pop.ensures c.len.ensures c.before-2.ensures c.truncate.ensures.items c.self.view_is

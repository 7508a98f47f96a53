use Rattle.vc_blocks.proofs.Logs.{one-less, popped_none}
use Rattle.vc_blocks.proofs.ends.Ends.pop.Goals as goal

pub returns-then-self-gt0 : goal.returns-then-self-gt0
returns-then-self-gt0 c =
    let x = c.self.inside in
    let none = popped_none c.pop.result c.is_none.result x.others c.pop.new.self c.pop.ensures c.is_none.ensures c.if-is_none.true in
    one-less x.step x.even x.others c.pop.new.self c.args.self.now none c.if-self-gt0.true c.self.view_is

use Rattle.std.proofs.Common.{refl}
use Rattle.vc_actor.specs.declared.act.Act.TheVariants.{Pass}
use Rattle.vc_actor.proofs.SwitchCalls.{passed}
use Rattle.vc_actor.proofs.switch_actor.SwitchActor.pass.Goals as goal

pub returns : goal.returns
returns c = λ plan k is. passed plan k c.args.link (Pass c.args.link) c.args.self.now.switch c.pass-passed.new.self is refl c.pass-passed.ensures.passes c.pass-passed.ensures.kept

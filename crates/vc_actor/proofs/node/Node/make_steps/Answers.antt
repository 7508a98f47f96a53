use Rattle.std.proofs.Common.{◌-◌, refl}
use Rattle.vc_actor.proofs.StepsInARow.{makes_steps}
use Rattle.vc_actor.proofs.node.Node.make_steps.Goals as goal

pub returns-clause-made : goal.returns-clause-made
returns-clause-made c = λ plan k is.
    let steps = c.args.steps.now in
    let new = c.make_steps.new in
    makes_steps plan k is.0 c.args.self.now _ (steps.left - new.steps.left) steps.last new.steps.last is.1 refl refl c.make_steps.ensures.made c.make_steps.ensures.inside

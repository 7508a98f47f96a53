use Rattle.vc_actor.proofs.node.Node.holds.Goals as goal

pub returns : goal.returns
returns c = c.holds.ensures

use Rattle.vc_label_text.proofs.SameNodes.{same_nodes}
use Rattle.vc_label_text.proofs.nodes.has_same_nodes.Goals as goal

pub returns : goal.returns
returns c = λ e. same_nodes c.args.input.now c.args.made.now c.in_ok-before.before c.in_ok-after.after c.in_ok-before.ensures c.in_ok-after.ensures (c.are_same.ensures e)

use Rattle.std.proofs.Common.{sym, ap, ◌∙◌}
use Rattle.vc_credit.specs.Ends.{new_receiver}
use Rattle.vc_packets.specs.Functions.{shown_or}
use Rattle.vc_actor.proofs.node.Node.tokens_at.Goals as goal

pub returns : goal.returns
returns c = c.tokens.ensures ∙ ap (λ x. (shown_or new_receiver (λ y. y.receiver) x).buffer) (sym c.receiving.ensures)

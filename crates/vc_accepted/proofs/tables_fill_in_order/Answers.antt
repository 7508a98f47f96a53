-- The lemmas.
use Rattle.vc_accepted.proofs.Tables.{channel_next, wire_next}
use Rattle.vc_accepted.proofs.tables_fill_in_order.Goals as goal

pub returns-clause-channels : goal.returns-clause-channels
returns-clause-channels c = λ p acc k v f x e. channel_next p acc k v f x e

pub returns-clause-wires : goal.returns-clause-wires
returns-clause-wires c = λ p acc actor link k w e. wire_next p acc actor link k w e

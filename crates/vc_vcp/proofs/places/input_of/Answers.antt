use Rattle.vc_vcp.proofs.KeyedLemmas.{first_finds, likely_at}
use Rattle.vc_vcp.proofs.places.input_of.Goals as goal

pub returns-then-inputs-hint-clause-found : goal.returns-then-inputs-hint-clause-found
returns-then-inputs-hint-clause-found c =
    likely_at (λ x. x.block) c.args.block c.args.inputs.now c.args.hint c.index-inputs-hint.result c.requires c.if-hint-inputs.true c.if-inputs-hint.true

pub returns-clause-found : goal.returns-clause-found
returns-clause-found c = first_finds (λ x. x.block) c.args.block c.args.inputs.now c.first_input_of.result c.first_input_of.ensures

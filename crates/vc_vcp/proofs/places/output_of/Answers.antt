use Rattle.vc_vcp.proofs.KeyedLemmas.{first_finds, likely_at}
use Rattle.vc_vcp.proofs.places.output_of.Goals as goal

pub returns-then-outputs-hint-clause-found : goal.returns-then-outputs-hint-clause-found
returns-then-outputs-hint-clause-found c =
    likely_at (λ x. x.block) c.args.block c.args.outputs.now c.args.hint c.index-outputs-hint.result c.requires c.if-hint-outputs.true c.if-outputs-hint.true

pub returns-clause-found : goal.returns-clause-found
returns-clause-found c = first_finds (λ x. x.block) c.args.block c.args.outputs.now c.first_output_of.result c.first_output_of.ensures

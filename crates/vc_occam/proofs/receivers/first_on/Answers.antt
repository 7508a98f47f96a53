use Rattle.std.proofs.Common.{rules}
use Rattle.std.specs.Prelude.{nat_le}
use Rattle.std.proofs.lemmas.List.Sorted.{IsPartitionPoint-from_clause, IsPartitionedBy-leb}
use Rattle.vc_occam.specs.declared.moves.Move.{Move}
use Rattle.vc_occam.specs.Private.Receivers.{key}
use Rattle.vc_occam.proofs.receivers.first_on.Goals as goal

pub returns : goal.returns
returns c =
    let ms = c.args.moves.now in
    IsPartitionPoint-from_clause (λ (m : Move). nat_le (key m) c.args.chan) ms c.partition_point.result c.partition_point.ensures.partitioned
    (IsPartitionedBy-leb key ms c.args.chan c.requires) (λ a r f k. search rules)

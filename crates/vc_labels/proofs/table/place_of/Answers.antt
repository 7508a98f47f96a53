use Rattle.std.proofs.Common.{rules}
use Rattle.std.specs.Prelude.{nat_le}
use Rattle.std.proofs.lemmas.List.Sorted.{IsPartitionPoint-from_clause, IsPartitionedBy-leb}
use Rattle.vc_labels.specs.declared.row.Row.{Row}
use Rattle.vc_labels.specs.Lawful.{starts_at}
use Rattle.vc_labels.proofs.Tables.{limits-rise}
use Rattle.vc_labels.proofs.table.place_of.Goals as goal

pub returns : goal.returns
returns c =
    let rows = c.args.rows.now in
    IsPartitionPoint-from_clause (λ (row : Row). nat_le row.limit c.args.header) rows c.partition_point.result c.partition_point.ensures.partitioned
    (IsPartitionedBy-leb (λ (row : Row). row.limit) rows c.args.header (limits-rise (starts_at rows) rows c.requires)) (λ a r f k. search rules)

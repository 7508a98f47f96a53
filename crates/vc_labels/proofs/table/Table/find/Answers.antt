use Rattle.std.proofs.Common.{◌≡◌}
use Rattle.vc_labels.specs.Lawful.{starts_at}
use Rattle.vc_labels.specs.Interval.{action_for}
use Rattle.vc_labels.proofs.Tables.{one-row}
use Rattle.vc_labels.proofs.table.Table.find.Goals as goal

pub returns-clause-one : goal.returns-clause-one
returns-clause-one c =
    let rows = c.self.inside.rows in
    let is : c.find_by_halving.result ≡ action_for rows c.args.header = cc in
    rw (← c.self.view_is) (rw is (one-row (starts_at rows) c.args.header rows c.self.invariant))

use Rattle.std.proofs.Common.{sym, ◌∙◌}
use Rattle.vc_labels.specs.Lawful.{starts_at}
use Rattle.vc_labels.proofs.Tables.{by-place}
use Rattle.vc_labels.proofs.table.find_by_halving.Goals as goal

pub returns : goal.returns
returns c =
    let rows = c.args.rows.now in
    c.action_at.ensures ∙ sym (by-place (starts_at rows) c.args.header rows c.place_of.result c.requires c.place_of.ensures)

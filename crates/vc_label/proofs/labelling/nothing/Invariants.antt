use Rattle.std.proofs.Common.{◌≡◌, vec_len}
use Rattle.vc_label.proofs.labelling.nothing.Given as goal

abbrev pub invariant-loop-way : goal.invariant-loop-way
invariant-loop-way l = vec_len l.homes ≡ l.way-index

abbrev pub invariant-loop-table : goal.invariant-loop-table
invariant-loop-table l = vec_len l.tables ≡ l._table

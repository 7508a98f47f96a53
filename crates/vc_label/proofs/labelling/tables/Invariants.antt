use Rattle.std.proofs.Common.{◌≡◌, vec_len}
use Rattle.vc_label.proofs.labelling.tables.Given as goal

abbrev pub invariant-loop-s : goal.invariant-loop-s
invariant-loop-s l = vec_len l.tables ≡ l.s

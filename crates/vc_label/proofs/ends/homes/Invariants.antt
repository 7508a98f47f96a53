use Rattle.std.proofs.Common.{◌≡◌, vec_len}
use Rattle.vc_label.proofs.ends.homes.Given as goal

abbrev pub invariant-loop-way : goal.invariant-loop-way
invariant-loop-way l = vec_len l.homes ≡ l.way-index

use Rattle.std.proofs.Common.{◌≡◌, ◌++◌, drop}
use Rattle.vc_explain.specs.Nearest.{listed_after}
use Rattle.vc_explain.proofs.nearest.push_listed_after.Given as goal

abbrev pub invariant-loop-name : goal.invariant-loop-name
invariant-loop-name l = l.out.items ++ listed_after (drop l.name-index l.names) ≡ l.initial.out.items ++ listed_after l.names

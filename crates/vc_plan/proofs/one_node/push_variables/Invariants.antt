use Rattle.std.proofs.Common.{◌≡◌, ◌++◌, take}
use Rattle.vc_plan.proofs.one_node.push_variables.Given as goal

abbrev pub invariant-loop-var : goal.invariant-loop-var
invariant-loop-var l = l.vars ≡ l.initial.vars ++ take l.var-index l.var-items

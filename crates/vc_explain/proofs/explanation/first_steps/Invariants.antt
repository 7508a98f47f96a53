use Rattle.std.proofs.Common.{◌≡◌, take}
use Rattle.vc_explain.proofs.explanation.first_steps.Given as goal

abbrev pub invariant-loop-k : goal.invariant-loop-k
invariant-loop-k l = l.steps.items ≡ take l.k l.path

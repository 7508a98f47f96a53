use Rattle.std.proofs.Common.{◌≡◌, drop}
use Rattle.vc_explain.specs.Misuses.{misuse}
use Rattle.vc_explain.proofs.misuse.misuse.Given as goal

abbrev pub invariant-loop-number : goal.invariant-loop-number
invariant-loop-number l = misuse l.plan l.chan l.channel l.number (drop l.number l.plan.nodes) ≡ misuse l.plan l.chan l.channel 0 l.plan.nodes

use Rattle.std.proofs.Common.{◌≡◌, ◌*◌, length}
use Rattle.vc_core.specs.Wiring.{AreWaysAt}
use Rattle.vc_core.proofs.TokensOnWays.{IsLaid}
use Rattle.vc_core.proofs.lines.Lines.with_tokens.Given as goal

abbrev pub invariant-loop-way : goal.invariant-loop-way
invariant-loop-way l = record {
  wired : AreWaysAt l.fn.plan l.lines.wiring;
  count : length l.lines.ways ≡ 2 * length l.fn.plan.wires;
  laid : IsLaid l.tokens l.way l.lines.ways;
}

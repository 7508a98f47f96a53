use Rattle.std.proofs.Common.{length}
use Rattle.vc_label_text.proofs.judge.+has_wires.Given as goal

abbrev pub decreases-has_wires : goal.decreases-has_wires
decreases-has_wires l = length l.entries.now

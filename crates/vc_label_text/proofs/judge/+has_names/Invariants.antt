use Rattle.std.proofs.Common.{length}
use Rattle.vc_label_text.proofs.judge.+has_names.Given as goal

abbrev pub decreases-has_names : goal.decreases-has_names
decreases-has_names l = length l.names.now

use Rattle.std.proofs.Common.{length}
use Rattle.vc_label_text.proofs.judge.+has_channels.Given as goal

abbrev pub decreases-has_channels : goal.decreases-has_channels
decreases-has_channels l = length l.listed.now

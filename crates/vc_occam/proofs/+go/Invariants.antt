use Rattle.std.proofs.Common.{◌+◌, ◌*◌}
use Rattle.vc_occam.proofs.+go.Given as goal

abbrev pub decreases-frame::Frame::go : goal.decreases-frame::Frame::go
decreases-frame::Frame::go g l = 3 * goal.size-frame::Frame::go g l

abbrev pub decreases-go::Task+Frame::go : goal.decreases-go::Task+Frame::go
decreases-go::Task+Frame::go g l = 3 * goal.size-go::Task+Frame::go g l + 1

abbrev pub decreases-go::Par+Frame::go : goal.decreases-go::Par+Frame::go
decreases-go::Par+Frame::go g l = 3 * goal.size-go::Par+Frame::go g l + 2

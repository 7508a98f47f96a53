use Rattle.std.proofs.Common.{true, false}
use Rattle.vc_plan.proofs.vlink_length.vlink_length.Goals as goal

pub way_length-requires-clause-sends : goal.way_length-requires-clause-sends
way_length-requires-clause-sends c =
    c.requires.accepted.sends c.requires.there.0 c.args.vlink.now true c.requires.there.1

pub way_length-requires-2-clause-sends : goal.way_length-requires-2-clause-sends
way_length-requires-2-clause-sends c =
    c.requires.accepted.sends c.requires.there.0 c.args.vlink.now false c.requires.there.1

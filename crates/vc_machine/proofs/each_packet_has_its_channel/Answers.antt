use Rattle.vc_machine.proofs.Ownership.{paths_reach}
use Rattle.vc_machine.proofs.each_packet_has_its_channel.Goals as goal

pub returns-clause-paths : goal.returns-clause-paths
returns-clause-paths c = paths_reach

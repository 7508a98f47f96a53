use Rattle.vc_packets.proofs.PieceLists.{packets_tell}
use Rattle.vc_packets.proofs.laws.packets_tell_the_message.Goals as goal

pub returns : goal.returns
returns c = packets_tell

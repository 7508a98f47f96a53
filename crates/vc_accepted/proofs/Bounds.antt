-- What any processes' network keeps to, that of an accepted plan's processes keeps to.
use Rattle.vc_accepted.specs.NetworkOf.{network_of}
use Rattle.vc_accepted.proofs.AcceptedNetwork.{accepted}
use Rattle.vc_network.proofs.CreditSum.{credit_holds, bodies_fit}
use Rattle.vc_network.proofs.Ownership.{each_owned, packets_are_short}
use Rattle.vc_network.proofs.Packets.{events_are_steps}
use Rattle.vc_accepted.specs.Begin.{begin_of}
use Rattle.vc_accepted.specs.Bounds.{NetworksKeepCredit, NetworksKeepLimits, PacketsHaveOwners, NoPacketIsLonger, PacketsAreMoved}
use Rattle.vc_accepted.specs.Process.{does}

pub credit_kept : NetworksKeepCredit
credit_kept p waiting es s acc h = credit_holds (network_of p) waiting does (begin_of p) es s (accepted p acc) h

pub limits_kept : NetworksKeepLimits
limits_kept p waiting es s acc h = bodies_fit (network_of p) waiting does (begin_of p) es s (accepted p acc) h

pub owners_known : PacketsHaveOwners
owners_known p waiting es s acc h = each_owned (network_of p) waiting does (begin_of p) es s (accepted p acc) h

pub all_short : NoPacketIsLonger
all_short p waiting es s acc h = packets_are_short (network_of p) waiting does (begin_of p) es s (accepted p acc) h

pub packets_moved : PacketsAreMoved
packets_moved p waiting es s acc h = events_are_steps (network_of p) waiting does (begin_of p) es s (accepted p acc) h

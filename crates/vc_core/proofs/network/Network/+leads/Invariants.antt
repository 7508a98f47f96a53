use Rattle.vc_core.proofs.network.Network.+leads.Given as goal

abbrev pub decreases-leads : goal.decreases-leads
decreases-leads l = l.hops

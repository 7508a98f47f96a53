use Rattle.std.proofs.Common.{◌≡◌, take, map}
use Rattle.vc_reader.proofs.bare_network.names.Given as goal

abbrev pub invariant-loop-thing : goal.invariant-loop-thing
invariant-loop-thing g l = l.names ≡ map g.T.Named.name_of (take l.thing-index l.things)

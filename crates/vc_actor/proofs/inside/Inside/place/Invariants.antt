use Rattle.std.proofs.Common.{◌≡◌, drop}
use Rattle.vc_vcp.specs.Names.{named}
use Rattle.vc_actor.proofs.inside.Inside.place.Given as goal

abbrev pub invariant-loop-i : goal.invariant-loop-i
invariant-loop-i l = named (λ x. x.chan) l.chan (drop l.i l.self) ≡ named (λ x. x.chan) l.chan l.self

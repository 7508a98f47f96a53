use Rattle.std.proofs.Common.{◌≡◌, ◌<◌, ◌++◌, drop}
use Rattle.std.specs.Prelude.{All}
use Rattle.vc_actor.specs.Private.Inside.{opened_inside}
use Rattle.vc_actor.proofs.inside.Inside.new.Given as goal

abbrev pub invariant-loop-chan : goal.invariant-loop-chan
invariant-loop-chan l = record {
  before : All (λ x. x.chan < l.chan) l.inside;
  opened : l.inside ++ opened_inside l.node l.chan (drop l.chan l.channels) ≡ opened_inside l.node 0 l.channels;
}

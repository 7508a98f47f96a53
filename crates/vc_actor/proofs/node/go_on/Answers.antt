use Rattle.std.proofs.Common.{Some, sym, subst}
use Rattle.vc_network.specs.Network.{GoesOn}
use Rattle.vc_accepted.specs.Process.{does}
use Rattle.vc_vcp.specs.VcpView.{passed_of}
use Rattle.vc_actor.specs.Private.Passes.{IsAwaited}
use Rattle.vc_actor.specs.ActorView.{process_of}
use Rattle.vc_actor.proofs.Resumption.{has_finished, has_received}
use Rattle.vc_actor.proofs.node.go_on.Goals as goal

pub returns-in-Complete-clause-goes_on : goal.returns-in-Complete-clause-goes_on
returns-in-Complete-clause-goes_on c =
    let old = c.args.process.now in
    let new = c.receive.new.self in
    subst (λ t. IsAwaited (process_of old) (passed_of (Some t)) → GoesOn does (process_of old) (passed_of (Some t)) (process_of new)) (sym c.in-Complete.is)
    (has_received old new c.receive.result c.in-Complete.chan c.in-Complete.message c.receive.ensures.received c.receive.ensures.none c.receive.ensures.inside)

pub returns-in-Finished-clause-goes_on : goal.returns-in-Finished-clause-goes_on
returns-in-Finished-clause-goes_on c =
    let old = c.args.process.now in
    let new = c.finish.new.self in
    subst (λ t. IsAwaited (process_of old) (passed_of (Some t)) → GoesOn does (process_of old) (passed_of (Some t)) (process_of new)) (sym c.in-Finished.is)
    (has_finished old new c.finish.result c.in-Finished.chan c.finish.ensures.finished c.finish.ensures.none c.finish.ensures.inside)

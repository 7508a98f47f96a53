use Rattle.std.proofs.Common.{rules}
use Rattle.vc_actor.proofs.node.Node.may_choose.Goals as goal

pub returns-then-may_want-clause-lets : goal.returns-then-may_want-clause-lets
returns-then-may_want-clause-lets c =
    let opened = c.may_want.ensures.open.0 c.if-may_want.true in
    (λ t. (opened, (c.ready.ensures.ready.0 t).held), λ h. c.ready.ensures.ready.1 (record { held = h.1; not_stopped = search rules }))

pub returns-then-may_want-clause-can : goal.returns-then-may_want-clause-can
returns-then-may_want-clause-can c = c.ready.ensures.can (c.may_want.ensures.open.0 c.if-may_want.true)

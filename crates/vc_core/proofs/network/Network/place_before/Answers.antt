use Rattle.std.proofs.Common.{◌<◌, ap, ◌∙◌, subst}
use Rattle.vc_accepted.specs.NetworkOf.{port_at}
use Rattle.vc_core.specs.State.{state_of}
use Rattle.vc_actor.proofs.Turns.{clash}
use Rattle.vc_core.proofs.Ways.{waiting, before_it, none_before}
use Rattle.vc_core.proofs.network.Network.place_before.Goals as goal

pub returns-in-Node : goal.returns-in-Node
returns-in-Node c = λ p c' is owned ends less there.
    let s = state_of c.args.self.now in
    let n = c.in-Node.number in
    let link = c.args.near.link in
    let w = c.args.way in
    let real = subst (λ k. w < k) is.ways less in
    let at = there ∙ ap (λ z. port_at z link) c.in-Node.is in
    before_it p s c' w n link at ((c.queues.ensures p c' is real ends (λ q h. waiting p s w n link q owned real at h)).0 c.if-queues.true)

pub returns-in_default : goal.returns-in_default
returns-in_default c = λ p c' is owned ends less there.
    let s = state_of c.args.self.now in
    let n = c.in-Node.number in
    let link = c.args.near.link in
    let w = c.args.way in
    let real = subst (λ k. w < k) is.ways less in
    let at = there ∙ ap (λ z. port_at z link) c.in-Node.is in
    none_before p s c' w n link at (λ has. clash c.queues.result c.if-queues.false ((c.queues.ensures p c' is real ends (λ q h. waiting p s w n link q owned real at h)).1 has))

use Rattle.std.proofs.Common.{subst}
use Rattle.vc_actor.specs.ActorView.{OfSwitch}
use Rattle.vc_actor.specs.Private.Kinds.{FindsOf}
use Rattle.vc_actor.specs.Private.Kinds as kind
use Rattle.vc_actor.proofs.Turns.{passes_here, routes_here, puts, grants, of_switch}
use Rattle.vc_actor.proofs.switch_actor.SwitchActor.next.Goals as goal

pub returns-in-Some-clause-finds : goal.returns-in-Some-clause-finds
returns-in-Some-clause-finds c = λ plan k.
    let s = c.args.self.now.switch in
    (subst (FindsOf kind.Pass plan k (OfSwitch s) c.args.room) c.in-Some.is (passes_here plan k s c.args.room c.next_pass.result c.next_pass.ensures.finds)).0

pub returns-in-Some-next_route-clause-finds : goal.returns-in-Some-next_route-clause-finds
returns-in-Some-next_route-clause-finds c = λ plan k.
    let s = c.args.self.now.switch in
    (subst (FindsOf kind.Route plan k (OfSwitch s) c.args.room) c.in-Some-next_route.is (routes_here plan k s c.args.room c.next_route.result c.next_route.ensures.finds)).0

pub returns-in-Some-next_put-clause-finds : goal.returns-in-Some-next_put-clause-finds
returns-in-Some-next_put-clause-finds c = λ plan k.
    let s = c.args.self.now.switch in
    (subst (FindsOf kind.Put plan k (OfSwitch s) c.args.room) c.in-Some-next_put.is (puts plan k (OfSwitch s) c.args.room c.next_put.result (c.next_put.ensures.finds plan k))).0

pub returns-clause-finds : goal.returns-clause-finds
returns-clause-finds c = λ plan k.
    let s = c.args.self.now.switch in
    let room = c.args.room in
    let pass = subst (FindsOf kind.Pass plan k (OfSwitch s) room) c.in_default.is (passes_here plan k s room c.next_pass.result c.next_pass.ensures.finds) in
    let route = subst (FindsOf kind.Route plan k (OfSwitch s) room) c.in_default-next_route.is (routes_here plan k s room c.next_route.result c.next_route.ensures.finds) in
    let put = subst (FindsOf kind.Put plan k (OfSwitch s) room) c.in_default-next_put.is (puts plan k (OfSwitch s) room c.next_put.result (c.next_put.ensures.finds plan k)) in
    of_switch plan k s room c.next_grant.result pass route put (grants plan k (OfSwitch s) room c.next_grant.result (c.next_grant.ensures.finds plan k))

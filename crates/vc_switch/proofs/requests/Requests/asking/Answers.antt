use Rattle.std.proofs.Common.{◌↔◌, ◌<◌, IsTrue, get_or, subst, arith}
use Rattle.vc_switch.specs.Private.Requests.{HasMore}
use Rattle.vc_switch.proofs.Masks.{gone_more, told_of}
use Rattle.vc_switch.proofs.requests.Requests.asking.Goals as goal

pub loop-preserved : goal.loop-preserved
loop-preserved c =
    let inv = c.loop.invariant in
    let link = c.in-Some.link in
    let low = c.in-Some.ensures in
    let test = c.loop-test.true in
    let under : c.loop.counter < 32 = omega (arith, test) in
    let has = subst (λ m. IsTrue c.has_more.result ↔ HasMore m c.args.busy) c.of.ensures c.has_more.ensures in
    record {
      gone = gone_more c.loop.counter c.loop.left c.told-left.result link inv.gone low.1.0 low.1.1 c.told-left.ensures low.0 under;
      told = told_of (λ j. HasMore (get_or c.args.self.now j 0) c.args.busy) link c.loop.left c.told-left.result c.loop.routes c.told-routes.result c.has_more.result inv.told c.told-left.ensures c.told-routes.ensures has;
    }

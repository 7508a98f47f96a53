use Rattle.std.proofs.Common.{◌<◌, arith}
use Rattle.vc_plan.specs.Names.{actor_name}
use Rattle.vc_trace.specs.EventOf.{IsActor}
use Rattle.vc_trace.proofs.DistinctNames.{actor_apart, numbered_more}
use Rattle.vc_trace.proofs.names.actors_of.Goals as goal

pub loop-actor-preserved : goal.loop-actor-preserved
loop-actor-preserved c = λ named.
    let p = c.args.plan.now in
    let n = c.loop-actor.actor in
    let test = c.loop-actor-test.true in
    let many0 = c.len.ensures in
    let many1 = c.len-2.ensures in
    let here : IsActor p n = omega arith in
    numbered_more (actor_name p) n c.actor_name.result.now c.loop-actor.actors c.insert.new.self c.actor_name.ensures (λ k less. actor_apart p n k named here less)
    c.in_ok-insert.ensures.updates (c.loop-actor.invariant named)

pub returns : goal.returns
returns c = λ named k less.
    let p = c.args.plan.now in
    let test = c.loop-actor-test.false in
    let many0 = c.len.ensures in
    let many1 = c.len-2.ensures in
    let sooner : k < c.loop-actor.actor = omega arith in
    c.loop-actor.invariant named k sooner

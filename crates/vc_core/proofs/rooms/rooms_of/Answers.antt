use Rattle.std.proofs.Common.{◌∙◌, subst, sym, ◌<◌, arith}
use Rattle.std.proofs.lemmas.List.{length-set}
use Rattle.vc_core.proofs.WaysOut.{rooms_more, rooms_all}
use Rattle.vc_core.proofs.rooms.rooms_of.Goals as goal

pub loop-actor-preserved : goal.loop-actor-preserved
loop-actor-preserved c =
    let inv = c.loop-actor.invariant in
    let old = c.loop-actor.rooms in
    let less = c.loop-actor-test.true in
    let within = subst (λ n. c.loop-actor.actor < n) (sym inv.count) less in
    record {
      count = length-set old c.loop-actor.actor c.room_of.result ∙ inv.count;
      told = rooms_more c.args.out.now old c.room_of.result c.loop-actor.actor within inv.told c.room_of.ensures;
    }

pub returns : goal.returns
returns c = rooms_all c.args.out.now c.loop-actor.rooms 256 c.loop-actor.invariant.count c.requires (let past = c.loop-actor-test.false in let told = c.loop-actor.invariant.told in λ k l less few. told k l (omega (arith, past, less)) few)

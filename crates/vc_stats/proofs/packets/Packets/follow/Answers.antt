use Rattle.std.proofs.Common.{◌∙◌, Some, None, sym}
use Rattle.std.proofs.lemmas.Result.{on_ok_weaker}
use Rattle.vc_core.specs.State.{shown, state_of}
use Rattle.vc_tokens.specs.CodeTokens.{token}
use Rattle.vc_stats.proofs.PacketCounts.{none_in, packets_still, packets_step, same_with}
use Rattle.vc_stats.proofs.packets.Packets.follow.Goals as goal

pub returns-in_default : goal.returns-in_default
returns-in_default c = λ p es xs s are same few made.
    let e = c.args.event.now in
    packets_still p c.args.self.now es xs e (shown (state_of c.args.network.now)) are same (none_in _ (λ link is. c.in_default.not-Some link (c.link_by.ensures ∙ is)))

pub returns-in-Some-last_put : goal.returns-in-Some-last_put
returns-in-Some-last_put c = on_ok_weaker c.add.result (λ after p es xs s are same few made.
    let e = c.args.event.now in
    packets_step p c.args.self.now c.add.new.self es xs e (shown (state_of c.args.network.now)) c.in-Some.link (Some (token c.in-Some-last_put.token)) made.kept.accepted are same few (sym c.in-Some.ensures)
    (λ way out. c.in-Some-last_put.ensures.token p way made.kept out) after) c.add.ensures

pub returns-in-None : goal.returns-in-None
returns-in-None c = λ p es xs s are same few made.
    let e = c.args.event.now in
    packets_step p c.args.self.now c.args.self.now es xs e (shown (state_of c.args.network.now)) c.in-Some.link None made.kept.accepted are same few (sym c.in-Some.ensures)
    (λ way out. c.in-None.ensures.token p way made.kept out) (λ k l. same_with _ _)

use Rattle.std.proofs.Common.{refl, rules, sym, ap, ◌∙◌, subst, w64, Some}
use Rattle.std.proofs.lemmas.Int.{to_z-of_z}
use mir.Val.{SFits}
use Rattle.std.specs.List.{Contains}
use Rattle.vc_vcp.proofs.ListWrites.{on_ok}
use Rattle.vc_occam.specs.Runnings.{state, moves, inner_channels}
use Rattle.vc_occam.specs.States.{sent_by}
use Rattle.vc_process.specs.Messages.{number_bytes}
use Rattle.vc_actor.specs.MayMove.{AnswersMove}
use Rattle.vc_actor.proofs.NodeMoves.{meets}
use Rattle.vc_actor.proofs.Messages.{meeting_sends}
use Rattle.vc_actor.proofs.node.Node.meet.Goals as goal

pub unreachable-requires : goal.unreachable-requires
unreachable-requires c =
    let s = state c.args.self.now.process in
    let e = c.requires.is.3 in
    meeting_sends (inner_channels c.args.self.now.process) s c.requires.is.0 c.requires.is.1 c.requires.is.2 c.args.chan (subst (Contains (moves c.args.self.now.process)) e c.requires.may.listed)
    (ap (sent_by s) (sym e) ∙ sym c.in_ok-message.ensures ∙ c.in_default-2.is)

pub returns-in-Some-clause-ok : goal.returns-in-Some-clause-ok
unfolding number_bytes
returns-in-Some-clause-ok c = λ plan k is.
    let fits : SFits w64 c.in-Some.number = search rules in
    let sent = ap Some (c.to_le_bytes.ensures ∙ ap number_bytes (to_z-of_z w64 c.in-Some.number fits)) ∙ sym c.in-Some.ensures in
    on_ok c.act.result (λ acts.
    meets plan k c.args.self.now _ c.args.made.now c.requires.is.0 c.requires.is.1 c.requires.is.2 c.args.chan c.to_le_bytes.result _ c.requires.is.3 sent is c.requires.may.listed
    (subst (AnswersMove c.args.self.now) c.requires.is.3 c.requires.may.answers) refl
    c.in_ok-exchange.ensures.ok c.in_ok-exchange.ensures.names acts c.act.ensures.inside) c.act.ensures.made

pub returns-clause-ok : goal.returns-clause-ok
returns-clause-ok c = λ plan k is.
    on_ok c.act-2.result (λ acts.
    meets plan k c.args.self.now _ c.args.made.now c.requires.is.0 c.requires.is.1 c.requires.is.2 c.args.chan c.as_slice.result.now _ c.requires.is.3 (ap Some c.as_slice.ensures ∙ sym c.in-Some-2.is ∙ c.in_ok-message.ensures) is c.requires.may.listed
    (subst (AnswersMove c.args.self.now) c.requires.is.3 c.requires.may.answers) refl
    c.in_ok-exchange-2.ensures.ok c.in_ok-exchange-2.ensures.names acts c.act-2.ensures.inside) c.act-2.ensures.made

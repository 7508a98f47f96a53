use Rattle.std.proofs.Common.{◌≡◌, ◌∙◌, ◌^◌, ◌<◌, rules, arith, w64, sym, ap, subst, List, Option, Some}
use Rattle.std.proofs.lemmas.Int.{ints, to_z-of_z}
use lib.Signed.{mag}
use mir.Val.{SFits, of_z, to_z}
use Rattle.vc_process.specs.declared.datum.Datum.{Datum}
use Rattle.vc_process.specs.declared.datum.Datum.TheVariants as datum
use Rattle.vc_occam.specs.Traces.{set as set_to}
use Rattle.vc_process.specs.Terms.{exp, store}
use Rattle.vc_process.specs.Values.{value_of}
use Rattle.vc_occam.specs.declared.frame.Frame.{Frame}
use Rattle.vc_occam.specs.declared.frame.Turn.{Turn}
use Rattle.vc_occam.specs.declared.outcome.Outcome.{Outcome}
use Rattle.vc_occam.specs.Frames.{begun, counting, outcome_of, view}
use Rattle.vc_occam.specs.Remains.{begin}
use Rattle.vc_occam.specs.Private.Frames.{Acted, count_turn}
use Rattle.vc_occam.proofs.PartChoice.{count_faulted, count_left, count_taken, not_counting}
use Rattle.vc_occam.proofs.act.Count+Frame.act.Goals as goal

pub returns-clause-acted : goal.returns-clause-acted
returns-clause-acted c = λ i.
    let x = c.args.self.now.var in
    let a = exp c.args.self.now.base in
    let n = exp c.args.self.now.count in
    let v = view c.args.self.now.body.value in
    let w = view c.start.new.self in
    let e = store c.args.vars.now.items in
    let f = store c.set_variable.new.vars.items in
    let same = ap (λ (f : Frame). (view f).plan) c.deref_mut.ensures.value in
    let h = ap (λ (xs : List Datum). count_turn (value_of a (store xs)) (value_of n (store xs))) (sym c.deref.ensures.value) ∙ sym c.first_turn.ensures ∙ c.in_ok-turn.was ∙ ap Some c.in-Some.is in
    let fits : SFits w64 c.in-Some.turn.index = search rules in
    let plain : to_z w64 (of_z w64 c.in-Some.turn.index) ≡ c.in-Some.turn.index = to_z-of_z w64 c.in-Some.turn.index fits in
    let value = c.set_variable.ensures.value ∙ ap (λ z. set_to e x (datum.Int z)) plain in
    let l : mag c.in-Some.turn.index < 2 ^ 63 = grind (arith, ints) in
    subst (λ (t : Option Turn). Acted i (counting x a n v t) e (Some c.start.result) (counting x a n w (Some c.in-Some.turn)) f) (sym (not_counting x a n v c.args.self.now.turn c.requires.itself))
    (count_taken i x a n v w c.in-Some.turn c.start.result e f h l (c.start.ensures.begun ∙ ap begun same) (c.start.ensures.outcome ∙ ap (λ p. outcome_of (begin p)) same) value)

pub returns-in_err-turn-clause-acted : goal.returns-in_err-turn-clause-acted
returns-in_err-turn-clause-acted c = λ i.
    let s = c.args.self.now in
    let a = exp s.base in
    let n = exp s.count in
    let v = view s.body.value in
    let e = store c.args.vars.now.items in
    let h = ap (λ (xs : List Datum). count_turn (value_of a (store xs)) (value_of n (store xs))) (sym c.deref.ensures.value) ∙ sym c.first_turn.ensures ∙ c.in_err-turn.was in
    subst (λ (o : Option Outcome). Acted i (counting s.var a n v s.turn) e o (counting s.var a n v s.turn) e) (sym c.from_residual.ensures) (count_faulted i s.var a n v s.turn e c.requires.itself h)

pub returns-in_default-clause-acted : goal.returns-in_default-clause-acted
returns-in_default-clause-acted c = λ i.
    let s = c.args.self.now in
    let a = exp s.base in
    let n = exp s.count in
    let h = ap (λ (xs : List Datum). count_turn (value_of a (store xs)) (value_of n (store xs))) (sym c.deref.ensures.value) ∙ sym c.first_turn.ensures ∙ c.in_ok-turn.was ∙ ap Some c.in_default.is in
    count_left i s.var a n (view s.body.value) s.turn (store c.args.vars.now.items) c.requires.itself c.requires.sound h

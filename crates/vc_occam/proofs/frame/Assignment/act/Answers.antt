use Rattle.std.proofs.Common.{◌≡◌, ◌∙◌, w64, ap, sym, subst, rules, List, Option, Some}
use Rattle.std.proofs.lemmas.Int.{to_z-of_z}
use mir.Val.{SFits}
use Rattle.vc_process.specs.declared.datum.Datum.{Datum}
use Rattle.vc_process.specs.declared.datum.Datum.TheVariants as datum
use Rattle.vc_occam.specs.declared.outcome.Outcome.{Outcome}
use Rattle.vc_occam.specs.Private.Frames.{Acted, assigned_shape}
use Rattle.vc_process.specs.Terms.{given, store}
use Rattle.vc_process.specs.Values.{assigned_bytes, datum_of}
use Rattle.vc_occam.specs.Traces.{set as set_to}
use Rattle.vc_occam.proofs.ProcessStep.{assigned, assigned_none}
use Rattle.vc_occam.proofs.frame.Assignment.act.Goals as goal

pub returns-in_err-bytes-clause-acted : goal.returns-in_err-bytes-clause-acted
returns-in_err-bytes-clause-acted c = λ i.
    let s = c.args.self.now in
    let e = store c.args.vars.now.items in
    let worth = subst (λ (xs : List Datum). c.args.assigned.now ≡ assigned_bytes (given s.value) (store xs) → c.assigned.result ≡ datum_of (given s.value) (store xs)) c.deref.ensures.value c.assigned.ensures c.requires.assigned in
    subst (λ (o : Option Outcome). Acted i (assigned_shape s) e o (assigned_shape s) e) (sym c.from_residual.ensures) (assigned_none i s.var (given s.value) e (sym worth ∙ c.in_err-bytes.was))

pub returns-in-Int-clause-acted : goal.returns-in-Int-clause-acted
returns-in-Int-clause-acted c = λ i.
    let s = c.args.self.now in
    let worth = subst (λ (xs : List Datum). c.args.assigned.now ≡ assigned_bytes (given s.value) (store xs) → c.assigned.result ≡ datum_of (given s.value) (store xs)) c.deref.ensures.value c.assigned.ensures c.requires.assigned in
    let e = store c.args.vars.now.items in
    let x : SFits w64 c.in-Int.number = search rules in
    let value = c.set_variable.ensures.value ∙ ap (λ k. set_to e s.var (datum.Int k)) (to_z-of_z w64 c.in-Int.number x) in
    assigned i s.var (given s.value) e (datum.Int c.in-Int.number) (store c.set_variable.new.vars.items) (sym worth ∙ c.in_ok-bytes.was ∙ ap Some c.in-Int.is) value

pub returns-in_default-clause-acted : goal.returns-in_default-clause-acted
returns-in_default-clause-acted c = λ i.
    let s = c.args.self.now in
    let worth = subst (λ (xs : List Datum). c.args.assigned.now ≡ assigned_bytes (given s.value) (store xs) → c.assigned.result ≡ datum_of (given s.value) (store xs)) c.deref.ensures.value c.assigned.ensures c.requires.assigned in
    assigned i s.var (given s.value) (store c.args.vars.now.items) _ (store c.set_variable-in_default.new.vars.items) (sym worth ∙ c.in_ok-bytes.was) c.set_variable-in_default.ensures.value

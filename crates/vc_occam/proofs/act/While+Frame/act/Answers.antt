use Rattle.std.proofs.Common.{◌∙◌, sym, ap, subst, Bool, Option, Some, true}
use Rattle.vc_occam.specs.declared.outcome.Outcome.{Outcome}
use Rattle.vc_process.specs.Terms.{as_test, store}
use Rattle.vc_occam.specs.declared.frame.Frame.{Frame}
use Rattle.vc_occam.specs.Frames.{begun, looping, outcome_of, view}
use Rattle.vc_occam.specs.Remains.{begin}
use Rattle.vc_occam.specs.Private.Frames.{Acted}
use Rattle.vc_occam.proofs.PartChoice.{not_turning, turn_taken, while_faulted, while_left}
use Rattle.vc_occam.proofs.act.While+Frame.act.Goals as goal

pub returns : goal.returns
returns c =
    record {
      acted = λ i.
          let b = as_test c.args.self.now.cond in
          let v = view c.args.self.now.body.value in
          let w = view c.start.new.self in
          let e = store c.args.vars.now in
          let same = ap (λ (f : Frame). (view f).plan) c.deref_mut.ensures.value in
          subst (λ (t : Bool). Acted i (looping b v t) e (Some c.start.result) (looping b w true) e) (sym (not_turning b v c.args.self.now.turning c.requires.itself))
          (turn_taken i b v w c.start.result e (sym c.holds.ensures ∙ c.in_ok-holds.was ∙ ap Some c.if-not-branch.false) (c.start.ensures.begun ∙ ap begun same) (c.start.ensures.outcome ∙ ap (λ p. outcome_of (begin p)) same));
    }

pub returns-in_err-holds : goal.returns-in_err-holds
returns-in_err-holds c =
    record {
      acted = λ i.
          let b = as_test c.args.self.now.cond in
          let v = view c.args.self.now.body.value in
          let t = c.args.self.now.turning in
          let e = store c.args.vars.now in
          subst (λ (o : Option Outcome). Acted i (looping b v t) e o (looping b v t) e) (sym c.from_residual.ensures) (while_faulted i b v t e c.requires.itself (sym c.holds.ensures ∙ c.in_err-holds.was));
    }

pub returns-then-not-branch : goal.returns-then-not-branch
returns-then-not-branch c =
    record {
      acted = λ i. while_left i (as_test c.args.self.now.cond) (view c.args.self.now.body.value) c.args.self.now.turning (store c.args.vars.now) c.requires.itself c.requires.sound (sym c.holds.ensures ∙ c.in_ok-holds.was ∙ ap Some c.if-not-branch.true);
    }

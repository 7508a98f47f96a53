use Rattle.std.proofs.Common.{ap, refl}
use Rattle.std.proofs.lemmas.Bool.{and_from}
use Rattle.vc_occam.specs.declared.outcome.Outcome.{Outcome}
use Rattle.vc_occam.specs.Frames.{left_by, outcome_of, same_outcome, view}
use Rattle.vc_occam.specs.Private.Frames.{shown}
use Rattle.vc_occam.proofs.StepsInARow.{left_steps, outcome_itself, same_steps, stepped_outcome, stepped_sound}
use Rattle.vc_occam.proofs.steps.Task+Frame.make_steps.Goals as goal

pub returns-clause-stepped : goal.returns-clause-stepped
returns-clause-stepped c =
    let f = c.make_steps-self in
    let o = f.result in
    let new = view f.new.self in
    let old = view c.args.self.now.frame in
    let steps = f.ensures.stepped in
    let sound = and_from new.sound (same_outcome o (outcome_of (left_by o new.rest))) (stepped_sound steps) (outcome_itself o (outcome_of (left_by o new.rest)) (stepped_outcome steps)) in
    same_steps (shown c.args.self.now) refl (ap (λ (q : Outcome). left_by q old.rest) c.requires.begins)
    (left_steps (shown (record { frame = f.new.self; begins = o })) refl refl sound steps)

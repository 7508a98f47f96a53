use Rattle.std.proofs.Common.{◌∷◌, [], Some, ap, decimal, ◌∙◌}
use Rattle.vc_actor.specs.declared.act.Act.TheVariants.{Route}
use Rattle.vc_trace.proofs.Found.{neither}
use Rattle.vc_trace.proofs.event_line.route_in.Goals as goal
use Rattle.vc_core.proofs.Turns.{same_some}

pub returns-in_err-input : goal.returns-in_err-input
returns-in_err-input c = λ from to is_from is_to whole.
    let input = c.byte_in.ensures from (decimal to ∷ []) is_from whole in
    absurd (neither c.byte_in.result from c.in_err-input.was input.0)

pub returns-in_err-output : goal.returns-in_err-output
returns-in_err-output c = λ from to is_from is_to whole.
    let input = c.byte_in.ensures from (decimal to ∷ []) is_from whole in
    let output = c.byte_in-2.ensures to [] is_to input.1 in
    absurd (neither c.byte_in-2.result to c.in_err-output.was output.0)

pub returns : goal.returns
returns c = λ from to is_from is_to whole.
    let input = c.byte_in.ensures from (decimal to ∷ []) is_from whole in
    let output = c.byte_in-2.ensures to [] is_to input.1 in
    ap (λ x. Some (Route x c.in_ok-output.output)) (same_some c.byte_in.result c.in_ok-input.input from c.in_ok-input.was input.0) ∙ ap (λ y. Some (Route from y)) (same_some c.byte_in-2.result c.in_ok-output.output to c.in_ok-output.was output.0)

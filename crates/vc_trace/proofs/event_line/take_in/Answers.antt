use Rattle.std.proofs.Common.{◌∷◌, [], Some, ap, decimal, ◌∙◌}
use Rattle.vc_actor.specs.declared.act.Act.TheVariants.{Take}
use Rattle.vc_trace.proofs.Found.{neither}
use Rattle.vc_trace.proofs.event_line.take_in.Goals as goal
use Rattle.vc_core.proofs.Turns.{same_some}

pub returns-in_err-link : goal.returns-in_err-link
returns-in_err-link c = λ by bits is_byte is_long whole.
    let link = c.byte_in.ensures by (decimal bits ∷ []) is_byte whole in
    absurd (neither c.byte_in.result by c.in_err-link.was link.0)

pub returns-in_err-word : goal.returns-in_err-word
returns-in_err-word c = λ by bits is_byte is_long whole.
    let link = c.byte_in.ensures by (decimal bits ∷ []) is_byte whole in
    let word = c.long_in.ensures bits [] is_long link.1 in
    absurd (neither c.long_in.result bits c.in_err-word.was word.0)

pub returns : goal.returns
returns c = λ by bits is_byte is_long whole.
    let link = c.byte_in.ensures by (decimal bits ∷ []) is_byte whole in
    let word = c.long_in.ensures bits [] is_long link.1 in
    ap (λ x. Some (Take x c.in_ok-word.word)) (same_some c.byte_in.result c.in_ok-link.link by c.in_ok-link.was link.0) ∙ ap (λ y. Some (Take by y)) (same_some c.long_in.result c.in_ok-word.word bits c.in_ok-word.was word.0)

use Rattle.std.proofs.Common.{◌∷◌, [], Some, ap, decimal, ◌∙◌}
use Rattle.vc_plan.specs.Names.{channel_name}
use Rattle.vc_occam.specs.declared.moves.Move.TheVariants.{Inner}
use Rattle.vc_trace.specs.EventText.{guard_word}
use Rattle.vc_trace.proofs.Found.{neither}
use Rattle.vc_trace.proofs.event_line.meeting_in.Goals as goal
use Rattle.vc_core.proofs.Turns.{same_some}

pub returns-in_err-sender : goal.returns-in_err-sender
returns-in_err-sender c = λ p named from to on by is_from is_to is_guard is_channel whole.
    let sender = c.half_in.ensures from (decimal to ∷ guard_word by ∷ channel_name p on ∷ []) is_from whole in
    absurd (neither c.half_in.result from c.in_err-sender.was sender.0)

pub returns-in_err-receiver : goal.returns-in_err-receiver
returns-in_err-receiver c = λ p named from to on by is_from is_to is_guard is_channel whole.
    let sender = c.half_in.ensures from (decimal to ∷ guard_word by ∷ channel_name p on ∷ []) is_from whole in
    let receiver = c.half_in-2.ensures to (guard_word by ∷ channel_name p on ∷ []) is_to sender.1 in
    absurd (neither c.half_in-2.result to c.in_err-receiver.was receiver.0)

pub returns-in_err-guard : goal.returns-in_err-guard
returns-in_err-guard c = λ p named from to on by is_from is_to is_guard is_channel whole.
    let sender = c.half_in.ensures from (decimal to ∷ guard_word by ∷ channel_name p on ∷ []) is_from whole in
    let receiver = c.half_in-2.ensures to (guard_word by ∷ channel_name p on ∷ []) is_to sender.1 in
    let guard = c.guard_in.ensures by (channel_name p on ∷ []) is_guard receiver.1 in
    absurd (neither c.guard_in.result by c.in_err-guard.was guard.0)

pub returns-in_err-chan : goal.returns-in_err-chan
returns-in_err-chan c = λ p named from to on by is_from is_to is_guard is_channel whole.
    let sender = c.half_in.ensures from (decimal to ∷ guard_word by ∷ channel_name p on ∷ []) is_from whole in
    let receiver = c.half_in-2.ensures to (guard_word by ∷ channel_name p on ∷ []) is_to sender.1 in
    let guard = c.guard_in.ensures by (channel_name p on ∷ []) is_guard receiver.1 in
    let chan = c.channel_in.ensures p named on [] is_channel guard.1 in
    absurd (neither c.channel_in.result on c.in_err-chan.was chan.0)

pub returns : goal.returns
returns c = λ p named from to on by is_from is_to is_guard is_channel whole.
    let sender = c.half_in.ensures from (decimal to ∷ guard_word by ∷ channel_name p on ∷ []) is_from whole in
    let receiver = c.half_in-2.ensures to (guard_word by ∷ channel_name p on ∷ []) is_to sender.1 in
    let guard = c.guard_in.ensures by (channel_name p on ∷ []) is_guard receiver.1 in
    let chan = c.channel_in.ensures p named on [] is_channel guard.1 in
    ap (λ x. Some (Inner x c.in_ok-receiver.receiver c.in_ok-guard.guard c.in_ok-chan.chan)) (same_some c.half_in.result c.in_ok-sender.sender from c.in_ok-sender.was sender.0)
    ∙ ap (λ x. Some (Inner from x c.in_ok-guard.guard c.in_ok-chan.chan)) (same_some c.half_in-2.result c.in_ok-receiver.receiver to c.in_ok-receiver.was receiver.0)
    ∙ ap (λ x. Some (Inner from to x c.in_ok-chan.chan)) (same_some c.guard_in.result c.in_ok-guard.guard by c.in_ok-guard.was guard.0)
    ∙ ap (λ x. Some (Inner from to by x)) (same_some c.channel_in.result c.in_ok-chan.chan on c.in_ok-chan.was chan.0)

use Rattle.std.proofs.Common.{◌∷◌, [], Some, ap, ◌∙◌}
use Rattle.vc_plan.specs.Names.{channel_name}
use Rattle.vc_trace.proofs.Found.{neither}
use Rattle.vc_trace.proofs.event_line.place_in.Goals as goal
use Rattle.vc_core.proofs.Turns.{same_some}

pub returns-in_err-site : goal.returns-in_err-site
returns-in_err-site c = λ p named at on is_half is_channel whole.
    let site = c.half_in.ensures at (channel_name p on ∷ []) is_half whole in
    absurd (neither c.half_in.result at c.in_err-site.was site.0)

pub returns-in_err-chan : goal.returns-in_err-chan
returns-in_err-chan c = λ p named at on is_half is_channel whole.
    let site = c.half_in.ensures at (channel_name p on ∷ []) is_half whole in
    let chan = c.channel_in.ensures p named on [] is_channel site.1 in
    absurd (neither c.channel_in.result on c.in_err-chan.was chan.0)

pub returns : goal.returns
returns c = λ p named at on is_half is_channel whole.
    let site = c.half_in.ensures at (channel_name p on ∷ []) is_half whole in
    let chan = c.channel_in.ensures p named on [] is_channel site.1 in
    ap (λ x. Some (x, c.in_ok-chan.chan)) (same_some c.half_in.result c.in_ok-site.site at c.in_ok-site.was site.0) ∙ ap (λ y. Some (at, y)) (same_some c.channel_in.result c.in_ok-chan.chan on c.in_ok-chan.was chan.0)

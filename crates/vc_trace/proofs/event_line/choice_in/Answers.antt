use Rattle.std.proofs.Common.{◌∷◌, [], Some, ap, decimal, ◌∙◌}
use Rattle.vc_plan.specs.Names.{channel_name}
use Rattle.vc_occam.specs.declared.moves.Move.TheVariants.{Choose}
use Rattle.vc_trace.proofs.Found.{neither}
use Rattle.vc_trace.proofs.event_line.choice_in.Goals as goal
use Rattle.vc_core.proofs.Turns.{same_some}

pub returns-in_err-site : goal.returns-in_err-site
returns-in_err-site c = λ p named at by on is_half is_guard is_channel whole.
    let site = c.half_in.ensures at (decimal by ∷ channel_name p on ∷ []) is_half whole in
    absurd (neither c.half_in.result at c.in_err-site.was site.0)

pub returns-in_err-guard : goal.returns-in_err-guard
returns-in_err-guard c = λ p named at by on is_half is_guard is_channel whole.
    let site = c.half_in.ensures at (decimal by ∷ channel_name p on ∷ []) is_half whole in
    absurd (neither c.place_in.result (by, on) c.in_err-guard.was (c.place_in.ensures p named by on is_guard is_channel site.1))

pub returns : goal.returns
returns c = λ p named at by on is_half is_guard is_channel whole.
    let site = c.half_in.ensures at (decimal by ∷ channel_name p on ∷ []) is_half whole in
    let place = same_some c.place_in.result (c.in_ok-guard.guard, c.in_ok-guard.chan) (by, on) c.in_ok-guard.was (c.place_in.ensures p named by on is_guard is_channel site.1) in
    ap (λ x. Some (Choose x c.in_ok-guard.guard c.in_ok-guard.chan)) (same_some c.half_in.result c.in_ok-site.site at c.in_ok-site.was site.0) ∙ ap (λ x. Some (Choose at x.0 x.1)) place

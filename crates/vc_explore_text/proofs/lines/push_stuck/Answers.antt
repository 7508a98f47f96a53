use Rattle.std.proofs.Common.{◌≡◌, ◌∙◌, ◌++◌, ap, append_assoc, length}
use Rattle.std.specs.Prelude.{codes}
use Rattle.std.specs.List.{flat_map}
use Rattle.vc_explore_text.specs.ExploredText.{blocked_line, count_line, move_line}
use Rattle.vc_explore_text.proofs.lines.push_stuck.Goals as goal

pub returns : goal.returns
returns c =
    let old = c.args.out.now.items in
    let first = count_line (codes "stuck after ") (length c.args.schedule.now) in
    let moves = flat_map (move_line c.args.plan.now c.args.all.now) c.args.schedule.now in
    let parts = flat_map (blocked_line c.args.plan.now c.args.all.now c.args.schedule.now) c.args.parts.now in
    c.in_ok-push_all_blocked.ensures ∙ ap (λ xs. xs ++ parts) (c.in_ok-push_moves.ensures ∙ ap (λ xs. xs ++ moves) c.in_ok-push_count.ensures) ∙ ap (λ xs. xs ++ parts) (append_assoc old first moves) ∙ append_assoc old (first ++ moves) parts

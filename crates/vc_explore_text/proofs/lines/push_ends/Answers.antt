use Rattle.std.proofs.Common.{◌≡◌, ◌∙◌, ◌++◌, ap, sym, append_assoc}
use Rattle.std.specs.Prelude.{codes}
use Rattle.std.specs.List.{flat_map}
use Rattle.vc_explore_text.specs.ExploredText.{count_line, ends_text, move_line}
use Rattle.vc_explore_text.proofs.lines.push_ends.Goals as goal

pub returns-in_ok-push_moves-in-MayGoOn : goal.returns-in_ok-push_moves-in-MayGoOn
returns-in_ok-push_moves-in-MayGoOn c =
    let old = c.args.out.now.items in
    let line = move_line c.args.plan.now c.args.all.now in
    let first = count_line (codes "may go on for ever after ") c.in-MayGoOn.moves in
    let moves = flat_map line c.as_slice.result.now in
    c.in_ok-push_moves-in-MayGoOn.ensures ∙ ap (λ xs. xs ++ moves) c.in_ok-push_count-in-MayGoOn.ensures ∙ append_assoc old first moves ∙ ap (λ cs. old ++ (first ++ flat_map line cs)) c.as_slice.ensures
    ∙ ap (λ e. old ++ ends_text c.args.plan.now c.args.all.now e) (sym c.in-MayGoOn.is)

use Rattle.std.proofs.Common.{◌∙◌, ◌++◌, [], ◌∷◌, ap, rules}
use Rattle.vc_cycles.proofs.CycleSearch.{searched_start}
use Rattle.vc_cycles.proofs.round.Round.new.Goals as goal

pub returns : goal.returns
returns c = λ rows.
    searched_start rows c.args.start c.push.new.self.items c.in_ok-seen.seen.items c.requires
    (c.in_ok-push.ensures.items ∙ ap (λ l. l ++ record { port = c.args.start; from = 0 } ∷ []) c.new-found.ensures.items)
    (c.in_ok-seen.ensures.items_if_clones_equal (λ y e. search rules))

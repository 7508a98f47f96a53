use Rattle.std.proofs.Common.{◌==◌, ◌&&◌, ◌||◌, length, ap, ◌∙◌, refl}
use Rattle.std.proofs.lemmas.Option.{slice_get_read}
use Rattle.vc_stats.specs.Rows.{has}
use Rattle.vc_stats.proofs.NumberRows.{row_grows}
use Rattle.vc_stats.proofs.rows.Rows.push.Goals as goal

pub returns : goal.returns
returns c = λ k n.
    let rows = c.reach.new.self.rows.items in
    let there = slice_get_read rows (length rows) c.from-place.result c.index_mut.result.now refl c.in_ok-reach.ensures.within c.index_mut.ensures.value in
    row_grows (λ row. row.items) rows c.from-place.result c.index_mut.result.now c.push.new.self c.args.number there c.in_ok-push.ensures.items k n
    ∙ ap (λ b. b || (c.from-place.result == k && c.args.number == n)) (c.in_ok-reach.ensures.same k n)
    ∙ ap (λ r. has c.args.self.now k n || (r == k && c.args.number == n)) c.from-place.ensures

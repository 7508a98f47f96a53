use Rattle.std.proofs.Common.{◌≡◌, ◌<◌, [], ◌∷◌, ◌++◌, Some, length, slice_get, slice_set, refl, sym, ap, ◌∙◌, subst}
use Rattle.std.proofs.lemmas.Option.{slice_get_read}
use Rattle.vc_tokens.specs.CodeTokens.{token as spelt}
use Rattle.vc_core.specs.Private.ByEnd.{with_line, ways_at}
use Rattle.vc_core.proofs.ByEnd.{on_ok, place_there, same_line, with_tokens}
use Rattle.vc_core.proofs.ways_by_end.WaysByEnd.push.Goals as goal

pub returns-clause-ok : goal.returns-clause-ok
returns-clause-ok c =
    let x = c.self.inside in
    let ends = x.ends.items in
    let lines = x.lines.items in
    let e = c.args.end in
    let f = c.requires in
    let line = c.index_mut.result.now in
    let more = c.push.new.self in
    let there = place_there ends lines c.self.invariant c.args.self.now c.self.view_is f.way e f.tokens line f.leads f.stand in
    let read = subst (λ n. slice_get lines n ≡ Some line) c.place_at.ensures
    (slice_get_read lines (length lines) c.place_at.result line refl (subst (λ n. n < length lines) (sym c.place_at.ensures) there) c.index_mut.ensures.value) in
    let same = same_line ends lines c.self.invariant c.args.self.now c.self.view_is f.way e f.tokens line f.leads f.stand read in
    let new_is = with_tokens ends lines c.self.invariant c.args.self.now c.self.view_is f.way e f.tokens line f.leads f.stand more in
    on_ok c.push.result
    (λ ok. (
      f,
      subst (λ n. record { ends = ends; ways = ways_at ends (slice_set lines n more) } ≡ with_line c.args.self.now f.way more) (sym c.place_at.ensures) new_is
          ∙ ap (with_line c.args.self.now f.way) (ok ∙ ap (λ z. z ++ spelt c.args.token ∷ []) (sym same)),
    ))
    c.push.ensures.ok

use Rattle.std.proofs.Common.{◌≡◌, ◌<◌, ◌∷◌, Some, length, slice_get, slice_set, refl, sym, ap, ◌∙◌, subst}
use Rattle.std.proofs.lemmas.Option.{slice_get_read}
use Rattle.vc_tokens.specs.CodeTokens.{token as spelt}
use Rattle.vc_core.specs.Private.ByEnd.{HasToken, with_line, ways_at}
use Rattle.vc_core.proofs.ByEnd.{place_there, same_line, with_tokens}
use Rattle.vc_core.proofs.ways_by_end.WaysByEnd.take_front.Goals as goal

pub returns : goal.returns
returns c =
    let x = c.self.inside in
    let ends = x.ends.items in
    let lines = x.lines.items in
    let e = c.args.end in
    let f = c.requires in
    let line = c.index_mut-line.result.now in
    let rest = c.take_front-token.new.self in
    let there = place_there ends lines c.self.invariant c.args.self.now c.self.view_is f.way e (f.token ∷ f.rest) line f.leads f.stands in
    let read = subst (λ n. slice_get lines n ≡ Some line) c.place_at.ensures
    (slice_get_read lines (length lines) c.place_at.result line refl (subst (λ n. n < length lines) (sym c.place_at.ensures) there) c.index_mut-line.ensures.value) in
    let same = same_line ends lines c.self.invariant c.args.self.now c.self.view_is f.way e (f.token ∷ f.rest) line f.leads f.stands read in
    let front : HasToken c.args.self.now e = record { way = f.way; token = spelt c.take_front-token.result; rest = rest; leads = f.leads; stands = f.stands ∙ ap Some (same ∙ c.take_front-token.ensures) } in
    let new_is = with_tokens ends lines c.self.invariant c.args.self.now c.self.view_is f.way e (f.token ∷ f.rest) line f.leads f.stands rest in
    (front, refl, subst (λ n. record { ends = ends; ways = ways_at ends (slice_set lines n rest) } ≡ with_line c.args.self.now f.way rest) (sym c.place_at.ensures) new_is, c.is_empty.ensures)

use Rattle.std.proofs.Common.{◌≡◌, ◌<◌, Some, length, slice_get, slice_set, refl, sym, subst}
use Rattle.std.proofs.lemmas.Option.{slice_get_read}
use Rattle.vc_core.specs.Private.ByEnd.{with_line, ways_at}
use Rattle.vc_core.specs.Private.Ways.{PutsAt}
use Rattle.vc_core.proofs.ByEnd.{on_err, on_ok, place_there, same_line, unchanged, with_tokens}
use Rattle.vc_core.proofs.ways_by_end.WaysByEnd.put.Goals as goal

pub returns-clause-ok : goal.returns-clause-ok
returns-clause-ok c =
    let x = c.self.inside in
    let ends = x.ends.items in
    let lines = x.lines.items in
    let e = c.args.end in
    let f = c.requires.leads in
    let line = c.index_mut.result.now in
    let more = c.put.new.self in
    let there = place_there ends lines c.self.invariant c.args.self.now c.self.view_is f.way e f.tokens line f.leads f.stand in
    let read = subst (λ n. slice_get lines n ≡ Some line) c.place_at.ensures
    (slice_get_read lines (length lines) c.place_at.result line refl (subst (λ n. n < length lines) (sym c.place_at.ensures) there) c.index_mut.ensures.value) in
    let same = same_line ends lines c.self.invariant c.args.self.now c.self.view_is f.way e f.tokens line f.leads f.stand read in
    let new_is = with_tokens ends lines c.self.invariant c.args.self.now c.self.view_is f.way e f.tokens line f.leads f.stand more in
    on_ok c.put.result
    (λ ok. record {
      to = f;
      more = more;
      new_is = subst (λ n. record { ends = ends; ways = ways_at ends (slice_set lines n more) } ≡ with_line c.args.self.now f.way more) (sym c.place_at.ensures) new_is;
      puts = subst (λ z. PutsAt c.args.from.now c.args.link z c.put.new.from more) (sym same) ok;
    })
    c.put.ensures.ok

pub returns-clause-err : goal.returns-clause-err
returns-clause-err c =
    let x = c.self.inside in
    let ends = x.ends.items in
    let lines = x.lines.items in
    let e = c.args.end in
    let f = c.requires.leads in
    let line = c.index_mut.result.now in
    let there = place_there ends lines c.self.invariant c.args.self.now c.self.view_is f.way e f.tokens line f.leads f.stand in
    let read = subst (λ n. slice_get lines n ≡ Some line) c.place_at.ensures
    (slice_get_read lines (length lines) c.place_at.result line refl (subst (λ n. n < length lines) (sym c.place_at.ensures) there) c.index_mut.ensures.value) in
    on_err c.put.result
    (λ err. (
      err.0,
      subst (λ n. record { ends = ends; ways = ways_at ends (slice_set lines n c.put.new.self) } ≡ c.args.self.now) (sym c.place_at.ensures)
          (unchanged ends lines c.self.invariant c.args.self.now c.self.view_is f.way e f.tokens line f.leads f.stand c.put.new.self err.1 read),
    ))
    c.put.ensures.err

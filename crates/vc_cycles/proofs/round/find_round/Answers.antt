use Rattle.std.proofs.Common.{◌<◌, ◌≤◌, length, arith}
use Rattle.vc_cycles.proofs.Among.{read_at}
use Rattle.vc_cycles.proofs.CycleSearch.{away, edge_of, looked, looking_first, no_edge, row_read, row_small}
use Rattle.vc_cycles.proofs.Ways.{least_round}
use Rattle.vc_cycles.proofs.round.find_round.Goals as goal

pub returns-then-contains-clause-some : goal.returns-then-contains-clause-some
returns-then-contains-clause-some c = λ net acc d.
    let f = c.index.result.now in
    let within : c.loop-at.at < length c.loop-at.round.found.items = (let len = c.len.ensures in let ok = c.loop-at.round.found.ok.0 in let lt = c.loop-at-test.true in omega (arith, len, ok, lt)) in
    let is = read_at c.loop-at.round.found.items c.loop-at.at f within c.index.ensures in
    let same = row_read c.args.rows.now c.from.result f.port c.index-rows-from.result c.as_slice-row.result.now c.requires.rows (c.loop-at.invariant.base.small c.loop-at.at f is) c.from.ensures c.index-rows-from.is c.as_slice-row.ensures.value in
    least_round net acc c.args.rows.now d c.args.start c.loop-at.at c.loop-at.round.found.items c.loop-at.round.seen.items c.loop-at.invariant.base c.requires.start within f c.in_ok-path.field-0.items is
    (edge_of c.args.rows.now f.port c.args.start c.as_slice-row.result.now same c.if-contains.ensures.value) c.in_ok-path.ensures

pub look-requires-clause-small : goal.look-requires-clause-small
look-requires-clause-small c = λ j i.
    let f = c.index.result.now in
    let within : c.loop-at.at < length c.loop-at.round.found.items = (let len = c.len.ensures in let ok = c.loop-at.round.found.ok.0 in let lt = c.loop-at-test.true in omega (arith, len, ok, lt)) in
    let is = read_at c.loop-at.round.found.items c.loop-at.at f within c.index.ensures in
    let same = row_read c.args.rows.now c.from.result f.port c.index-rows-from.result c.as_slice-row.result.now c.requires.rows (c.loop-at.invariant.base.small c.loop-at.at f is) c.from.ensures c.index-rows-from.is c.as_slice-row.ensures.value in
    row_small c.args.rows.now f.port j c.as_slice-row.result.now c.requires.rows same i

pub loop-at-preserved : goal.loop-at-preserved
loop-at-preserved c =
    let f = c.index.result.now in
    let within : c.loop-at.at < length c.loop-at.round.found.items = (let len = c.len.ensures in let ok = c.loop-at.round.found.ok.0 in let lt = c.loop-at-test.true in omega (arith, len, ok, lt)) in
    let is = read_at c.loop-at.round.found.items c.loop-at.at f within c.index.ensures in
    let same = row_read c.args.rows.now c.from.result f.port c.index-rows-from.result c.as_slice-row.result.now c.requires.rows (c.loop-at.invariant.base.small c.loop-at.at f is) c.from.ensures c.index-rows-from.is c.as_slice-row.ensures.value in
    looked c.args.rows.now c.args.start c.loop-at.at c.as_slice-row.result.now c.look.new.self.found.items c.look.new.self.seen.items
    (c.in_ok-look.ensures {u = tt} c.args.rows.now c.args.start
    (looking_first c.args.rows.now c.args.start c.loop-at.at f c.as_slice-row.result.now c.loop-at.round.found.items c.loop-at.round.seen.items c.requires.rows c.loop-at.invariant is same
    (no_edge c.args.start c.as_slice-row.result.now c.if-contains.ensures.value)))

pub returns-clause-none : goal.returns-clause-none
returns-clause-none c =
    let past : length c.loop-at.round.found.items ≤ c.loop-at.at = (let len = c.len.ensures in let ok = c.loop-at.round.found.ok.0 in let le = c.loop-at-test.false in omega (arith, len, ok, le)) in
    away c.args.rows.now c.args.start c.loop-at.at c.loop-at.round.found.items c.loop-at.round.seen.items c.loop-at.invariant.base past

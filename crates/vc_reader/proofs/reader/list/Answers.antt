use Rattle.std.proofs.lemmas.Result.{err_from_is_err_and}
use Rattle.vc_reader.proofs.Lists.{list_next, list_stops, list_ends}
use Rattle.vc_reader.proofs.reader.list.Goals as goal

pub loop-item-preserved : goal.loop-item-preserved
loop-item-preserved g c =
    list_next (g.R.ItemReader.meaning c.args.reader.now) c.loop-item.read _ c.loop-item.item-index _ c.item-item.result _ c.loop-item-test.true c.item-item.is
    (rw c.as_slice.ensures at (c.in_ok-read.ensures _ c.read-one.ensures)) c.loop-item.invariant

pub returns-in_err-read : goal.returns-in_err-read
returns-in_err-read g c =
    let p = err_from_is_err_and c.from_residual-in_err-read.result c.from_residual-in_err-read.ensures.1 in
    rw (p.1, p.2) (list_stops (g.R.ItemReader.meaning c.args.reader.now) c.loop-item.read c.loop-item.item-index c.in_ok-item-items.item-items.now c.item-item.result _ c.in_err-read.field-0.0 c.in_ok-item-items.ensures c.loop-item-test.true c.item-item.is
    (rw c.as_slice.ensures at (c.in_err-read.ensures _ c.read-one.ensures)) c.loop-item.invariant)

pub returns : goal.returns
returns g c =
    list_ends (g.R.ItemReader.meaning c.args.reader.now) c.loop-item.read c.loop-item.item-index _ _ c.in_ok-item-items.ensures c.loop-item-test.false c.loop-item.invariant

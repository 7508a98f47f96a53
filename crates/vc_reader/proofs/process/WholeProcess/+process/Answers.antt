use Rattle.std.proofs.lemmas.Result.{err_from_is_err_and}
use Rattle.serde_json.specs.View.{view}
use Rattle.vc_reader.specs.Processes.{read_process, read_branch, read_guard}
use Rattle.vc_reader.proofs.Beside.{branch-fails, branch-read, while-fails, while-read, guard-fails, guard-read}
use Rattle.vc_reader.proofs.Lists.{list_next, list_stops, list_ends}
use Rattle.vc_reader.proofs.process.WholeProcess.+process.Goals as goal

pub parts-loop-item-preserved : goal.parts-loop-item-preserved
parts-loop-item-preserved t c =
    list_next (λ _. read_process c.args.depth c.args.self.now.vars.now c.args.self.now.channels.now) c.loop-item.read _ c.loop-item.item-index _ c.item-item.result _ c.loop-item-test.true c.item-item.is
    (c.in_ok-read.ensures _ c.process.ensures) c.loop-item.invariant

pub parts-returns-in_err-read : goal.parts-returns-in_err-read
parts-returns-in_err-read t c =
    let p = err_from_is_err_and c.from_residual-in_err-read.result c.from_residual-in_err-read.ensures.1 in
    rw (p.1, p.2) (list_stops (λ _. read_process c.args.depth c.args.self.now.vars.now c.args.self.now.channels.now) c.loop-item.read c.loop-item.item-index c.in_ok-item-items.item-items.now c.item-item.result _ c.in_err-read.field-0.0 c.in_ok-item-items.ensures c.loop-item-test.true c.item-item.is
    (c.in_err-read.ensures _ c.process.ensures) c.loop-item.invariant)

pub parts-returns : goal.parts-returns
parts-returns t c =
    list_ends (λ _. read_process c.args.depth c.args.self.now.vars.now c.args.self.now.channels.now) c.loop-item.read c.loop-item.item-index _ _ c.in_ok-item-items.ensures c.loop-item-test.false c.loop-item.invariant

pub branches-loop-item-preserved : goal.branches-loop-item-preserved
branches-loop-item-preserved t c =
    list_next (λ _. read_branch (read_process c.args.depth c.args.self.now.vars.now c.args.self.now.channels.now) c.args.self.now.vars.now) c.loop-item.read _ c.loop-item.item-index _ c.item-item.result _ c.loop-item-test.true c.item-item.is
    (c.in_ok-read.ensures _ c.branch-self.ensures) c.loop-item.invariant

pub branches-returns-in_err-read : goal.branches-returns-in_err-read
branches-returns-in_err-read t c =
    let p = err_from_is_err_and c.from_residual-in_err-read.result c.from_residual-in_err-read.ensures.1 in
    rw (p.1, p.2) (list_stops (λ _. read_branch (read_process c.args.depth c.args.self.now.vars.now c.args.self.now.channels.now) c.args.self.now.vars.now) c.loop-item.read c.loop-item.item-index c.in_ok-item-items.item-items.now c.item-item.result _ c.in_err-read.field-0.0 c.in_ok-item-items.ensures c.loop-item-test.true c.item-item.is
    (c.in_err-read.ensures _ c.branch-self.ensures) c.loop-item.invariant)

pub branches-returns : goal.branches-returns
branches-returns t c =
    list_ends (λ _. read_branch (read_process c.args.depth c.args.self.now.vars.now c.args.self.now.channels.now) c.args.self.now.vars.now) c.loop-item.read c.loop-item.item-index _ _ c.in_ok-item-items.ensures c.loop-item-test.false c.loop-item.invariant

pub guards-loop-item-preserved : goal.guards-loop-item-preserved
guards-loop-item-preserved t c =
    list_next (λ _. read_guard (read_process c.args.depth c.args.self.now.vars.now c.args.self.now.channels.now) c.args.self.now.vars.now c.args.self.now.channels.now) c.loop-item.read _ c.loop-item.item-index _ c.item-item.result _ c.loop-item-test.true c.item-item.is
    (c.in_ok-read.ensures _ c.guard.ensures) c.loop-item.invariant

pub guards-returns-in_err-read : goal.guards-returns-in_err-read
guards-returns-in_err-read t c =
    let p = err_from_is_err_and c.from_residual-in_err-read.result c.from_residual-in_err-read.ensures.1 in
    rw (p.1, p.2) (list_stops (λ _. read_guard (read_process c.args.depth c.args.self.now.vars.now c.args.self.now.channels.now) c.args.self.now.vars.now c.args.self.now.channels.now) c.loop-item.read c.loop-item.item-index c.in_ok-item-items.item-items.now c.item-item.result _ c.in_err-read.field-0.0 c.in_ok-item-items.ensures c.loop-item-test.true c.item-item.is
    (c.in_err-read.ensures _ c.guard.ensures) c.loop-item.invariant)

pub guards-returns : goal.guards-returns
guards-returns t c =
    list_ends (λ _. read_guard (read_process c.args.depth c.args.self.now.vars.now c.args.self.now.channels.now) c.args.self.now.vars.now c.args.self.now.channels.now) c.loop-item.read c.loop-item.item-index _ _ c.in_ok-item-items.ensures c.loop-item-test.false c.loop-item.invariant

pub branch-returns-in_err-cond-2 : goal.branch-returns-in_err-cond-2
branch-returns-in_err-cond-2 t c =
    let p = err_from_is_err_and c.from_residual-in_err-cond-2.result c.from_residual-in_err-cond-2.ensures.1 in
    rw (p.1, p.2) (branch-fails (read_process c.args.depth c.args.self.now.vars.now c.args.self.now.channels.now) c.args.self.now.vars.now (view c.args.value.now) c.in_ok-cond.cond c.in_err-cond-2.field-0.0 c.in_ok-cond.ensures (c.in_err-cond-2.ensures _ c.part.ensures))

pub branch-returns : goal.branch-returns
branch-returns t c = branch-read (read_process c.args.depth c.args.self.now.vars.now c.args.self.now.channels.now) c.args.self.now.vars.now (view c.args.value.now) c.in_ok-cond.cond c.in_ok-cond-2.cond c.in_ok-cond-2.body c.in_ok-cond.ensures (c.in_ok-cond-2.ensures _ c.part.ensures)

pub repeated-returns-in_err-cond-2 : goal.repeated-returns-in_err-cond-2
repeated-returns-in_err-cond-2 t c =
    let p = err_from_is_err_and c.from_residual-in_err-cond-2.result c.from_residual-in_err-cond-2.ensures.1 in
    rw (p.1, p.2) (while-fails (read_process c.args.depth c.args.self.now.vars.now c.args.self.now.channels.now) c.args.self.now.vars.now (view c.args.value.now) c.in_ok-cond.cond c.in_err-cond-2.field-0.0 c.in_ok-cond.ensures (c.in_err-cond-2.ensures _ c.boxed_part.ensures))

pub repeated-returns : goal.repeated-returns
repeated-returns t c = while-read (read_process c.args.depth c.args.self.now.vars.now c.args.self.now.channels.now) c.args.self.now.vars.now (view c.args.value.now) c.in_ok-cond.cond c.in_ok-cond-2.cond c.in_ok-cond-2.body c.in_ok-cond.ensures (c.in_ok-cond-2.ensures _ c.boxed_part.ensures)

pub guard-returns-in_err-head-2 : goal.guard-returns-in_err-head-2
guard-returns-in_err-head-2 t c =
    let p = err_from_is_err_and c.from_residual-in_err-head-2.result c.from_residual-in_err-head-2.ensures.1 in
    rw (p.1, p.2) (guard-fails (read_process c.args.depth c.args.self.now.vars.now c.args.self.now.channels.now) c.args.self.now.vars.now c.args.self.now.channels.now (view c.args.value.now) c.in_ok-head.head c.in_err-head-2.field-0.0 c.in_ok-head.ensures (c.in_err-head-2.ensures _ c.part.ensures))

pub guard-returns : goal.guard-returns
guard-returns t c = guard-read (read_process c.args.depth c.args.self.now.vars.now c.args.self.now.channels.now) c.args.self.now.vars.now c.args.self.now.channels.now (view c.args.value.now) c.in_ok-head.head c.in_ok-head-2.head c.in_ok-head-2.body c.in_ok-head.ensures (c.in_ok-head-2.ensures _ c.part.ensures)

use Rattle.std.proofs.Common.{length, refl, sym, ◌∙◌}
use Rattle.vc_threads.specs.Private.Close.{stop_at}
use Rattle.vc_threads.specs.declared.run.Stop.TheVariants.{Clock, Gate}
use Rattle.vc_threads.proofs.Closings.{none_stopped, some_stopped}
use Rattle.vc_threads.proofs.report.stopped.Goals as goal

pub returns-then-is_some : goal.returns-then-is_some
returns-then-is_some g c =
    let rs = c.args.runs.now in
    let at = c.first_stop-in_default in
    (some_stopped (length rs) (stop_at rs) Clock at.result (sym c.is_some.ensures ∙ c.if-is_some.true) at.ensures.first, c.in_default.ensures.none refl)

pub returns-then-is_some-2 : goal.returns-then-is_some-2
returns-then-is_some-2 g c =
    let rs = c.args.runs.now in
    let clock = c.first_stop-in_default in
    let gate = c.first_stop-else-is_some in (
      some_stopped (length rs) (stop_at rs) Gate gate.result (sym c.is_some-else-is_some.ensures ∙ c.if-is_some-2.true) gate.ensures.first,
      c.in_default.ensures.none refl,
      none_stopped (length rs) (stop_at rs) Clock clock.result (sym c.is_some.ensures ∙ c.if-is_some.false) clock.ensures.none,
    )

use Rattle.std.proofs.Common.{map, sym, subst}
use Rattle.std.specs.List.{AllByRecursion}
use Rattle.vc_network.specs.Merge.{AreDistinct, IsMerge, RunRises, run_of}
use Rattle.vc_threads.specs.MergedRuns.{numbered}
use Rattle.vc_threads.specs.Threads.{Reports}
use Rattle.vc_threads.proofs.Merged.{logs_apart, logs_rise, reports}
use Rattle.vc_threads.proofs.threads.run_threads.Goals as goal

pub merge-requires-clause-distinct : goal.merge-requires-clause-distinct
merge-requires-clause-distinct g c =
    let r = c.in_ok-logged.logged in
    subst (λ ls. AreDistinct (map numbered ls)) (sym c.as_slice.ensures.value)
    (logs_apart c.args.accepted.now (g.G.Gate.refuses c.args.gate.now) c.args.turns c.args.seed r c.in_ok-logged.ensures)

pub merge-requires-clause-rising : goal.merge-requires-clause-rising
merge-requires-clause-rising g c =
    let r = c.in_ok-logged.logged in
    subst (λ ls. AllByRecursion RunRises (map numbered ls)) (sym c.as_slice.ensures.value)
    (logs_rise c.args.accepted.now (g.G.Gate.refuses c.args.gate.now) c.args.turns c.args.seed r c.in_ok-logged.ensures)

pub returns : goal.returns
returns g c =
    let r = c.in_ok-logged.logged in
    let m = c.in_ok-steps.ensures in
    subst (Reports c.args.accepted.now (g.G.Gate.refuses c.args.gate.now) c.args.turns c.args.seed) (sym c.into_report.ensures)
    (reports c.args.accepted.now (g.G.Gate.refuses c.args.gate.now) c.args.turns c.args.seed r c.in_ok-logged.ensures
    m.0 (subst (λ ls. IsMerge (run_of (map numbered ls)) m.0) c.as_slice.ensures.value m.1) c.in_ok-steps.steps.items m.2)

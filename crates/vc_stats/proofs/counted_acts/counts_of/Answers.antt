use Rattle.std.proofs.Common.{◌≡◌, ◌+◌, suc, length, refl, subst, arith}
use Rattle.std.proofs.lemmas.Option.{slice_get_read}
use Rattle.vc_stats.specs.Counts.{AreCounts}
use Rattle.vc_stats.specs.Private.ActCounts.{all_events}
use Rattle.vc_stats.proofs.counted_acts.counts_of.Goals as goal

pub loop-log-preserved : goal.loop-log-preserved
loop-log-preserved c = λ acts each few.
    let logs = c.args.logs.now in
    let k = c.loop-log.log-index in
    let log = c.log-item.result in
    let more : suc k ≡ k + 1 = omega arith in
    let here = slice_get_read logs (length logs) k log refl c.loop-log-test.true c.log-item.is in
    subst (λ n. AreCounts c.add_counts.new.all (all_events acts n)) more
    (c.in_ok-add_counts.ensures k (acts k) (all_events acts k) (each k log here) (few k) (c.loop-log.invariant acts each few))

pub returns : goal.returns
returns c = λ acts each few.
    let logs = c.args.logs.now in
    let past = c.loop-log-test.false in
    let end = c.loop-log.auto.log-index-end in
    let all : c.loop-log.log-index ≡ length logs = omega (arith, past, end) in
    subst (λ n. AreCounts c.loop-log.all (all_events acts n)) all (c.loop-log.invariant acts each few)

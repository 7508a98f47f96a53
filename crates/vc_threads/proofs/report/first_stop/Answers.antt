use Rattle.std.proofs.Common.{get_or, ◌∙◌, sym, rules}
use denote.Enum.Bare.{same_false, same_true}
use Rattle.vc_threads.specs.Private.Close.{stop_at}
use Rattle.vc_threads.specs.contracts.run.Stop.{the_type}
use Rattle.vc_threads.proofs.Closings.{none_more, stop_of}
use Rattle.vc_threads.proofs.report.first_stop.Goals as goal

-- src/report.rt:28:5
pub loop-k-preserved : goal.loop-k-preserved
loop-k-preserved g c =
    let rs = c.args.runs.now in
    let k = c.loop-k.k in
    none_more k (stop_at rs) c.args.stop c.loop-k.invariant (λ same.
    same_false the_type (get_or rs k c.index-runs-k.result).stop c.args.stop (sym c.eq.ensures ∙ c.if-eq.false)
    (sym (stop_of rs k c.index-runs-k.result c.loop-k-test.true) ∙ same))

pub returns-then-eq-clause-first : goal.returns-then-eq-clause-first
returns-then-eq-clause-first g c =
    let rs = c.args.runs.now in
    let k = c.loop-k.k in
    let r = c.index-runs-k.result in
    let same = same_true the_type (search rules) (get_or rs k r).stop c.args.stop (sym c.eq.ensures ∙ c.if-eq.true) in
    (c.loop-k-test.true, stop_of rs k r c.loop-k-test.true ∙ same, c.loop-k.invariant)

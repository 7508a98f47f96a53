use Rattle.std.proofs.Common.{◌∙◌, sym, subst}
use Rattle.vc_core.specs.State.{event_of, shown, state_of}
use Rattle.vc_stats.specs.Private.Peaks.{AreRaised}
use Rattle.vc_stats.proofs.RunStates.{peaks_raise, peaks_still}
use Rattle.vc_stats.proofs.Acts.{puts_by}
use Rattle.vc_stats.proofs.peaks.Peaks.follow.Goals as goal

pub returns-then-not-may_put : goal.returns-then-not-may_put
returns-then-not-may_put c = λ p xs s are made.
    let e = c.args.event.now in
    record {
      ways = are.ways;
      count = are.count;
      each = λ way less. peaks_still p c.args.self.now.most.items xs (shown s) (shown (state_of c.args.network.now)) (event_of e) way (are.each way less) made.happens
          (puts_by e.act ∙ sym c.may_put.ensures ∙ c.if-not-may_put.true);
    }

pub returns : goal.returns
returns c = λ p xs s are made.
    let e = c.args.event.now in
    let y = shown (state_of c.args.network.now) in
    let old = c.args.self.now.most.items in
    let new = c.raise_all.new.most.items in
    let raised = subst (λ ways. AreRaised y ways old new) c.row.ensures c.raise_all.ensures in
    record {
      ways = are.ways;
      count = raised.count ∙ are.count;
      each = λ way less. peaks_raise p c.args.self.now.ways old new xs (shown s) y (event_of e) way are.ways are.count less (are.each way less) made.happens raised;
    }

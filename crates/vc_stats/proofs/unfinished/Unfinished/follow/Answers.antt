use Rattle.std.proofs.Common.{◌∙◌, sym, subst}
use Rattle.vc_core.specs.State.{event_of, shown, state_of}
use Rattle.vc_stats.specs.Private.Times.{AreTurned}
use Rattle.vc_stats.proofs.RunStates.{times_still, times_turn}
use Rattle.vc_stats.proofs.Acts.{turns_by}
use Rattle.vc_stats.proofs.unfinished.Unfinished.follow.Goals as goal

pub returns-then-not-may_turn : goal.returns-then-not-may_turn
returns-then-not-may_turn c = λ p xs s are count made.
    let e = c.args.event.now in
    record {
      outputs = are.outputs;
      count = are.count;
      each = times_still p c.args.self.now.times.items xs (shown s) (shown (state_of c.args.network.now)) (event_of e) are.each made.happens (turns_by e.act ∙ sym c.may_turn.ensures ∙ c.if-not-may_turn.true);
    }

pub returns : goal.returns
returns c = λ p xs s are count made.
    let e = c.args.event.now in
    let y = shown (state_of c.args.network.now) in
    let old = c.args.self.now.times.items in
    let new = c.turn_all.new.times.items in
    let turn = subst (λ chans. AreTurned p y c.args.before chans old new) c.row.ensures (c.turn_all.ensures p made.kept are.count) in
    record {
      outputs = are.outputs;
      count = turn.count ∙ are.count;
      each = times_turn p c.args.self.now.outputs old new xs (shown s) y (event_of e) c.args.before are.outputs are.count are.each count made.happens turn;
    }

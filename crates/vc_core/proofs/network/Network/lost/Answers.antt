use Rattle.std.proofs.Common.{rules, ◌≡◌, length, slice_get, Some, refl, sym, ap, ◌∙◌, arith}
use Rattle.std.specs.List.{sum_by}
use Rattle.std.proofs.lemmas.List.{take_all}
use Rattle.std.proofs.lemmas.Option.{slice_get_read}
use Rattle.vc_actor.specs.Parts.{lost_of, saturated}
use Rattle.vc_core.specs.State.{state_of}
use Rattle.vc_core.proofs.Sums.{sum_next}
use Rattle.vc_core.proofs.Turns.{none_lost}
use Rattle.vc_core.proofs.network.Network.lost.Goals as goal

pub loop-actor-preserved : goal.loop-actor-preserved
loop-actor-preserved c =
    let xs = c.deref-actor-items.result.now in
    let k = c.loop-actor.actor-index in
    let a = c.actor-item.result in
    let there : slice_get xs k ≡ Some a = slice_get_read xs (length xs) k a refl c.loop-actor-test.true c.actor-item.is in
    let here : slice_get c.args.self.now.actors.items k ≡ Some a = ap (λ z. slice_get z k) (sym c.deref-actor-items.ensures.value) ∙ there in
    record {
      counts = sum_next lost_of c.args.self.now.actors.items k a c.loop-actor.all c.lost.result c.saturating_add-all.result here c.loop-actor.invariant.counts c.lost.ensures c.saturating_add-all.ensures;
      none = λ p events r. (let one = c.lost.ensures ∙ none_lost p events (state_of c.args.self.now) k a r here in let before = c.loop-actor.invariant.none p events r in search rules);
    }

pub returns-clause-counts : goal.returns-clause-counts
returns-clause-counts c =
    let past = c.loop-actor-test.false in
    let long = ap length c.deref-actor-items.ensures.value in
    c.loop-actor.invariant.counts ∙ ap (λ z. saturated (sum_by lost_of z)) (take_all c.loop-actor.actor-index c.args.self.now.actors.items (omega arith))

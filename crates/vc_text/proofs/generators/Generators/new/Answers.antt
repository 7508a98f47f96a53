use Rattle.std.proofs.Common.{◌∷◌, ◌++◌, [], ap, arith, length, length-append, slice_get, ◌∙◌}
use Rattle.vc_threads.specs.Runs.{generator}
use Rattle.vc_text.proofs.GeneratorDraws.{generators_begun}
use Rattle.vc_text.proofs.generators.Generators.new.Goals as goal

pub loop-actor-preserved : goal.loop-actor-preserved
loop-actor-preserved c =
    let inv = c.loop-actor.invariant in
    let ws = c.loop-actor.words.items in
    let all = c.in_ok-push.ensures.items ∙ ap (λ g. ws ++ g ∷ []) c.new.ensures in
    let longer = ap length all ∙ length-append ws (generator 0 c.loop-actor.actor ∷ []) in
    let count = inv.count in
    record {
      count = omega (arith, longer, count);
      each = λ k less. ap (λ xs. slice_get xs k) all ∙ generators_begun ws c.loop-actor.actor count inv.each k less;
    }

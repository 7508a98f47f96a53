use Rattle.std.proofs.Common.{◌∷◌, []}
use Rattle.vc_actor.specs.declared.act.Act.TheVariants.{Take, Put, Fct, Pass}
use Rattle.vc_core.specs.State.{state_of}
use Rattle.vc_core.proofs.ListedActs.{lists_join, on_ok}
use Rattle.vc_core.proofs.network.Network.push_at.Goals as goal

pub returns : goal.returns
returns c =
    let s = state_of c.args.self.now in
    let k = c.args.actor in
    let l = c.args.link in
    let join = lists_join s k in
    on_ok c.push_if-4.result _ _
    (λ last. join (Take l 0 ∷ []) (Pass l ∷ Put l ∷ Fct l ∷ []) c.args.acts.now.items c.push_if.new.acts.items c.push_if-4.new.acts.items c.in_ok-push_if.ensures
    (join (Pass l ∷ []) (Put l ∷ Fct l ∷ []) c.push_if.new.acts.items c.push_if-2.new.acts.items c.push_if-4.new.acts.items c.in_ok-push_if-2.ensures
    (join (Put l ∷ []) (Fct l ∷ []) c.push_if-2.new.acts.items c.push_if-3.new.acts.items c.push_if-4.new.acts.items c.in_ok-push_if-3.ensures last)))
    c.push_if-4.ensures

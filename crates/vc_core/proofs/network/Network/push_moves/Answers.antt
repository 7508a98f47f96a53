use Rattle.std.proofs.Common.{map, take, sym, subst}
use Rattle.std.proofs.lemmas.List.{map_more}
use Rattle.vc_actor.specs.declared.act.Act.TheVariants.{Proc}
use Rattle.vc_core.specs.Private.Choices.{Lists}
use Rattle.vc_core.specs.State.{state_of}
use Rattle.vc_core.proofs.ListedActs.{lists_join, lists_none}
use Rattle.vc_core.proofs.network.Network.push_moves.Goals as goal

pub loop-made-init : goal.loop-made-init
loop-made-init c = lists_none (state_of c.args.self.now) c.args.actor c.args.acts.now.items

pub loop-made-preserved : goal.loop-made-preserved
loop-made-preserved c =
    let s = state_of c.args.self.now in
    let k = c.args.actor in
    let i = c.loop-made.made-index in
    let ms = c.args.moves.now in
    let old = c.args.acts.now.items in
    let test = c.loop-made-test.true in
    subst (λ xs. Lists s k xs old c.push_if.new.acts.items) (sym (map_more Proc ms i _ test))
    (lists_join s k (map Proc (take i ms)) _ old c.loop-made.acts.items c.push_if.new.acts.items c.loop-made.invariant c.in_ok-push_if.ensures)

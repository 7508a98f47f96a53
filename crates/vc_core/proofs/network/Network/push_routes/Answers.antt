use Rattle.std.proofs.Common.{◌≡◌, ◌∷◌, [], map, sym, ap, ◌∙◌, subst, arith}
use Rattle.std.specs.List.{range_with_len}
use Rattle.std.proofs.lemmas.List.{map-append}
use Rattle.vc_actor.specs.declared.act.Act.TheVariants.{Route}
use Rattle.vc_core.specs.Private.Choices.{Lists}
use Rattle.vc_core.specs.State.{state_of}
use Rattle.vc_core.proofs.ListedActs.{lists_join, lists_no_route, lists_none, range_more, where_none}
use Rattle.vc_core.proofs.network.Network.push_routes.Goals as goal

pub loop-output-init : goal.loop-output-init
loop-output-init c = lists_none (state_of c.args.self.now) c.args.actor c.args.acts.now.items

pub loop-output-preserved : goal.loop-output-preserved
loop-output-preserved c =
    let s = state_of c.args.self.now in
    let k = c.args.actor in
    let o = c.loop-output.output in
    let route = Route c.args.input in
    let old = c.args.acts.now.items in
    subst (λ xs. Lists s k xs old c.push_if.new.acts.items) (sym (ap (map route) (range_more o) ∙ map-append route (range_with_len 0 o) (o ∷ [])))
    (lists_join s k (map route (range_with_len 0 o)) (route o ∷ []) old c.loop-output.acts.items c.push_if.new.acts.items c.loop-output.invariant c.in_ok-push_if.ensures)

pub returns : goal.returns
returns c =
    let s = state_of c.args.self.now in
    let k = c.args.actor in
    let last = c.loop-output-test.false in
    let few = c.loop-output.auto.output-end in
    let all : c.loop-output.output ≡ 32 = omega (arith, last, few) in
    subst (λ n. Lists s k (map (Route c.args.input) (range_with_len 0 n)) c.args.acts.now.items c.loop-output.acts.items) all c.loop-output.invariant

pub returns-in_default : goal.returns-in_default
returns-in_default c =
    lists_no_route (state_of c.args.self.now) c.args.actor c.args.switch.now c.args.input c.args.acts.now.items c.requires (where_none _ _ c.choices.result c.in_default.is c.choices.ensures)

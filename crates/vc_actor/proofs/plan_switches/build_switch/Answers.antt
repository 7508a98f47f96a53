use Rattle.std.proofs.Common.{◌≡◌, ◌<◌, nat_le, sym, ap, ◌∙◌, subst, rules}
use Rattle.std.proofs.lemmas.Bool.{and_parts}
use Rattle.std.specs.List.{AllByRecursion, list_all}
use Rattle.vc_plan.specs.declared.switch_plan.RandomInput.{RandomInput}
use Rattle.vc_switch.specs.Opening.{IsRandomInput}
use Rattle.vc_actor.specs.Private.Begin.{ranges_given}
use Rattle.vc_actor.proofs.SwitchGiven.{links_small, ranges_fit, built}
use Rattle.vc_actor.proofs.plan_switches.build_switch.Goals as goal

pub new-requires-2-clause-delete : goal.new-requires-2-clause-delete
new-requires-2-clause-delete c =
    let p = c.args.plan.now in
    let t = and_parts (list_all (λ l. nat_le l 31) p.delete) (list_all (λ (r : RandomInput). nat_le r.link 31) p.random) c.requires.links in
    subst (AllByRecursion (λ link. link < 32)) (sym c.as_slice-3.ensures) (links_small p.delete t.0)

pub new-requires-2-clause-random : goal.new-requires-2-clause-random
new-requires-2-clause-random c =
    let p = c.args.plan.now in
    let t = and_parts (list_all (λ l. nat_le l 31) p.delete) (list_all (λ (r : RandomInput). nat_le r.link 31) p.random) c.requires.links in
    let same : c.as_slice-4.result.now ≡ ranges_given p.random = c.as_slice-4.ensures ∙ c.in_ok-random.ensures ∙ ap ranges_given c.as_slice-2.ensures in
    subst (AllByRecursion IsRandomInput) (sym same) (ranges_fit p.random c.requires.ranges t.1)

pub returns : goal.returns
returns c =
    let p = c.args.plan.now in
    let table : c.in-Ok.table ≡ p.rows = search rules in
    let random : c.as_slice-4.result.now ≡ ranges_given p.random = c.as_slice-4.ensures ∙ c.in_ok-random.ensures ∙ ap ranges_given c.as_slice-2.ensures in
    built p (record { table = c.in-Ok.table; delete = c.as_slice-3.result; random = c.as_slice-4.result }) c.args.body_limit c.new-2.result table c.as_slice-3.ensures random c.new-2.ensures.seen c.new-2.ensures.plan c.new-2.ensures.limit

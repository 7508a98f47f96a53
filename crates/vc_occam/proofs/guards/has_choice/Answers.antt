use Rattle.std.proofs.Common.{◌≡◌, ◌∙◌, false, List, map, refl, subst, sym, true}
use Rattle.std.specs.List.{Contains}
use Rattle.vc_occam.specs.declared.moves.Move.{Move}
use Rattle.vc_occam.specs.Private.Frames.{seen_guard}
use Rattle.vc_process.specs.Terms.{store}
use Rattle.vc_occam.proofs.Choices.{decided_moves, not_taken, taken}
use Rattle.vc_occam.proofs.guards.has_choice.Goals as goal

pub returns-then-is_taken : goal.returns-then-is_taken
returns-then-is_taken c =
    let xs = c.args.guards.now in
    let e = store c.args.vars.now in
    let there = taken xs c.args.site c.loop-place.place c.index-guards-place.result e c.args.made.now _ c.loop-place-test.true c.index-guards-place.is (c.is_taken.ensures.0 c.if-is_taken.true) c.loop-place.invariant in
    let all = decided_moves c.args.site (map seen_guard xs) e (sym c.are_decided.ensures ∙ c.if-not-are_decided.false) in
    (λ q. subst (λ (ms : List Move). Contains ms c.args.made.now) (sym all) there, λ q. refl)

pub loop-place-preserved : goal.loop-place-preserved
loop-place-preserved c =
    not_taken c.args.guards.now c.args.site c.loop-place.place c.index-guards-place.result (store c.args.vars.now) c.args.made.now _ c.loop-place-test.true c.index-guards-place.is
    (λ q. let z : true ≡ false = sym (c.is_taken.ensures.1 q) ∙ c.if-is_taken.false in cc) c.loop-place.invariant

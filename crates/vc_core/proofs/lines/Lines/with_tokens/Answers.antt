use Rattle.std.proofs.Common.{◌≡◌, ◌<◌, ◌++◌, List, Some, slice_get, refl, length, sym, subst, ap, ◌∙◌, arith}
use Rattle.std.proofs.lemmas.List.{length-set}
use Rattle.std.proofs.lemmas.Option.{slice_get_read}
use Rattle.vc_tokens.specs.Tokens.{Token}
use Rattle.vc_tokens.specs.CodeTokens.{tokens as all_spelt}
use Rattle.vc_core.specs.Lines.{Lined}
use Rattle.vc_core.specs.Private.Lines.{with_way}
use Rattle.vc_core.specs.Wiring.{AreWaysAt}
use Rattle.vc_core.proofs.TokensOnWays.{none_yet, one_more, all_laid}
use Rattle.vc_core.proofs.lines.Lines.with_tokens.Goals as goal
use Rattle.vc_switch.proofs.ListWrites.{some_at}

pub loop-way-init : goal.loop-way-init
loop-way-init c =
    let made = c.in_ok-lines.ensures in
    record { wired = made.wired; count = made.count; laid = none_yet c.args.tokens.now c.in_ok-lines.lines.ways made.empty }

pub lay-requires : goal.lay-requires
lay-requires c =
    let less = c.loop-way-test.true in
    let count = c.loop-way.invariant.count in
    omega (arith, less, count, c.requires.count)

pub loop-way-preserved : goal.loop-way-preserved
loop-way-preserved c =
    let x = c.loop-way.lines in
    let n = c.loop-way.way in
    let lines = c.args.tokens.now in
    let line = c.index-tokens-way.result in
    let less = c.loop-way-test.true in
    let count = c.loop-way.invariant.count in
    let within : n < length x.ways = omega (arith, less, count, c.requires.count) in
    let here = some_at x.ways n within in
    let made = λ (ts : List Token) (stand : slice_get x.ways n ≡ Some ts). c.in_ok-lay.ensures ts stand ∙ ap (λ line. with_way x n (ts ++ all_spelt line)) c.as_slice.ensures.value in
    let is = made here.0 here.1 in
    record {
      wired = subst (λ (z : Lined). AreWaysAt c.args.plan.now z.wiring) (sym is) c.loop-way.invariant.wired;
      count = ap (λ (z : Lined). length z.ways) is ∙ (length-set x.ways n _ ∙ count);
      laid = one_more lines n line x c.lay.new.self (slice_get_read lines (length lines) n line refl less c.index-tokens-way.is) within c.loop-way.invariant.laid made;
    }

pub returns-clause-ways : goal.returns-clause-ways
returns-clause-ways c = all_laid c.args.tokens.now c.loop-way.way c.loop-way.lines.ways c.loop-way-test.false (c.loop-way.invariant.count ∙ sym c.requires.count) c.loop-way.invariant.laid

use Rattle.std.proofs.Common.{◌≡◌, ◌↔◌, ◌∙◌, Bool, false, IsTrue, sym, subst}
use Rattle.std.proofs.lemmas.Bool.{false≢true}
use Rattle.vc_core.specs.State.{state_of}
use Rattle.vc_core.specs.Private.Turns.{GoesOn}
use Rattle.vc_core.specs.declared.close.Close.TheVariants.{Quiet}
use Rattle.vc_text.proofs.Closes.{processes_wait}
use Rattle.vc_text.proofs.close.close_of.Goals as goal

-- a test that fails shows that what it tests is not so
not_so : (P : Type 0) (b : Bool) → b ≡ false → (IsTrue b ↔ P) → P → ⊥
not_so P b fails test so = false≢true (sym fails ∙ test.1 so)

pub returns-then-ended-clause-closes : goal.returns-then-ended-clause-closes
returns-then-ended-clause-closes c = λ p is. (c.ended.ensures p is).0 c.if-ended.true

pub returns-then-branch-clause-closes : goal.returns-then-branch-clause-closes
returns-then-branch-clause-closes c = λ p is.
    (not_so _ c.ended.result c.if-ended.false (c.ended.ensures p is), subst (GoesOn p (state_of c.args.network.now)) c.if-branch.true (c.in_ok-goes_on.ensures.goes_on p is))

pub returns-else-branch-clause-closes : goal.returns-else-branch-clause-closes
returns-else-branch-clause-closes c = λ p is.
    (subst (GoesOn p (state_of c.args.network.now)) c.if-branch.false (c.in_ok-goes_on.ensures.goes_on p is), not_so _ c.ended.result c.if-ended.false (c.ended.ensures p is))

pub returns-else-branch-clause-waits : goal.returns-else-branch-clause-waits
returns-else-branch-clause-waits c = λ p events replays.
    let s = state_of c.args.network.now in
    processes_wait p events s 0 0 Quiet replays
    (subst (GoesOn p s) c.if-branch.false (c.in_ok-goes_on.ensures.goes_on p replays.is), not_so _ c.ended.result c.if-ended.false (c.ended.ensures p replays.is))

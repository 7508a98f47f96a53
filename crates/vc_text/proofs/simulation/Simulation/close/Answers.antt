use Rattle.std.proofs.Common.{◌≡◌, ap, ◌∙◌, sym, subst, inl, inr, arith}
use Rattle.vc_core.specs.State.{shown, state_of, IsNetworkOf}
use Rattle.vc_core.specs.Private.Turns.{GoesOn, IsAtRest}
use Rattle.vc_text.specs.Close.{Closes}
use Rattle.vc_text.specs.declared.simulation.Simulation.{Simulation}
use Rattle.vc_text.proofs.simulation.Simulation.close.Goals.{else-self-limit-via-then-self-limit+in_ok-goes_on+else-branch, else-self-limit-via-else-self-limit}
use Rattle.vc_text.proofs.simulation.Simulation.close.Goals as goal

pub returns-else-self-limit-clause-closes : goal.returns-else-self-limit-clause-closes
returns-else-self-limit-clause-closes c = λ p is either.
    let s = state_of c.args.self.now.network in
    let t = state_of c.else-self-limit.self.network in
    let same : t ≡ s = elim c.else-self-limit.branch [
      | else-self-limit-via-then-self-limit+in_ok-goes_on+else-branch w ↦ ap (λ (x : Simulation). state_of x.network) w.self-is ∙ w.in_ok-goes_on.ensures.same
      | else-self-limit-via-else-self-limit w ↦ ap (λ (x : Simulation). state_of x.network) w.self-is
    ] in
    let rests : IsAtRest p s = elim c.else-self-limit.branch [
      | else-self-limit-via-then-self-limit+in_ok-goes_on+else-branch w ↦ subst (GoesOn p s) w.if-branch.false (w.in_ok-goes_on.ensures.goes_on p is)
      | else-self-limit-via-else-self-limit w ↦ elim either [ inl all ↦ absurd (let fewer = w.if-self-limit.false in omega arith) | inr rest ↦ rest ]
    ] in
    subst (λ z. Closes p (shown z) c.args.self.now.made c.args.limit c.resting.result) same
    (c.resting.ensures p c.args.self.now.made c.args.limit (subst (IsNetworkOf p) (sym same) is) (subst (IsAtRest p) (sym same) rests))

pub returns-else-self-limit-clause-same : goal.returns-else-self-limit-clause-same
returns-else-self-limit-clause-same c = elim c.else-self-limit.branch [
  | else-self-limit-via-then-self-limit+in_ok-goes_on+else-branch w ↦ ap (λ (x : Simulation). state_of x.network) w.self-is ∙ w.in_ok-goes_on.ensures.same
  | else-self-limit-via-else-self-limit w ↦ ap (λ (x : Simulation). state_of x.network) w.self-is
]

-- What goes on alone begins, waits and is blocked as the part that goes on within it.
use Rattle.std.proofs.Common.{◌≡◌, ℕ, ℤ, refl, ap, sym, ◌∙◌}
use Rattle.vc_process.specs.Syntax.{Proc, Procs}
use Rattle.vc_process.specs.Values.{Store}
use Rattle.vc_occam.specs.BlockedParts.{blocked}
use Rattle.vc_occam.specs.First.{own}
use Rattle.vc_occam.specs.Private.Frames.{assigned_at, innermost}
use Rattle.vc_occam.specs.Remains.{Rest, Then, Turns}
use Rattle.vc_occam.specs.States.{output_at, waiting}

module _ {A : Type 0} (F : Rest → A) (then_same : (r : Rest) (ps : Procs) → F (Then r ps) ≡ F r) (turns_same : (r : Rest) (v : ℕ) (b : ℤ) (n : ℕ) (p : Proc) → F (Turns r v b n p) ≡ F r) where
  within : (r : Rest) → F r ≡ F (innermost r)
  within (Then r ps) = then_same r ps ∙ within r
  within (Turns r v b n p) = turns_same r v b n p ∙ within r
  within r = refl

  alike : (r q : Rest) → innermost r ≡ innermost q → F r ≡ F q
  alike r q h = within r ∙ ap F h ∙ sym (within q)

pub same_own : (r q : Rest) (e : Store) → innermost r ≡ innermost q → own r e ≡ own q e
same_own r q e h = alike (λ x. own x e) (λ x ps. refl) (λ x v b n p. refl) r q h

pub same_waiting : (r q : Rest) → innermost r ≡ innermost q → waiting r ≡ waiting q
same_waiting r q h = alike waiting (λ x ps. refl) (λ x v b n p. refl) r q h

pub same_blocked : (r q : Rest) (e : Store) → innermost r ≡ innermost q → blocked r e ≡ blocked q e
same_blocked r q e h = alike (λ x. blocked x e) (λ x ps. refl) (λ x v b n p. refl) r q h

pub same_output : (i : ℕ) (r q : Rest) (e : Store) → innermost r ≡ innermost q → output_at i r e ≡ output_at i q e
same_output i r q e h = alike (λ x. output_at i x e) (λ x ps. refl) (λ x v b n p. refl) r q h

pub same_assigned : (i : ℕ) (r q : Rest) (e : Store) → innermost r ≡ innermost q → assigned_at i r e ≡ assigned_at i q e
same_assigned i r q e h = alike (λ x. assigned_at i x e) (λ x ps. refl) (λ x v b n p. refl) r q h

-- What something does, it does in what it stands in.
use Rattle.std.proofs.Common.{◌≡◌, ℕ, ℤ, refl, sym, subst, List}
use Rattle.vc_occam.specs.SiteActions.{SiteAction}
use Rattle.vc_occam.specs.Remains.{Rest, Done, Then, Turns, Beside, then_on, turns_on, index_on, beside_on, Step, in_then, in_turns, in_left, in_right}
use Rattle.vc_occam.specs.Traces.{Comm}
use Rattle.vc_process.specs.Syntax.{Proc, Procs}
use Rattle.vc_process.specs.Usage.{Set}
use Rattle.vc_process.specs.Values.{Store}

-- what makes a step has not ended
pub goes : {r r' : Rest} {e e' : Store} {i : ℕ} {d : SiteAction} {m : List Comm} → Step r e i d m r' e' → r ≡ Done → ⊥
goes {r = Done} st h = elim st [ ]
goes st h = absurd cc

-- what has not ended stays where it stands
pub then_is : (r : Rest) (ps : Procs) → (r ≡ Done → ⊥) → then_on r ps ≡ Then r ps
then_is Done ps h = absurd (h refl)
then_is r ps h = refl

pub turns_is : (r : Rest) (v : ℕ) (b : ℤ) (n : ℕ) (p : Proc) → (r ≡ Done → ⊥) → turns_on r v b n p ≡ Turns r v b n p
turns_is Done v b n p h = absurd (h refl)
turns_is r v b n p h = refl

pub index_is : (r : Rest) (v : ℕ) (b : ℤ) (n : ℕ) (e : Store) → (r ≡ Done → ⊥) → index_on r v b n e ≡ e
index_is Done v b n e h = absurd (h refl)
index_is r v b n e h = refl

pub left_is : (mine : Set) (r q : Rest) → (r ≡ Done → ⊥) → beside_on mine r q ≡ Beside mine r q
left_is mine Done q h = absurd (h refl)
left_is mine r q h = refl

pub right_is : (mine : Set) (r q : Rest) → (q ≡ Done → ⊥) → beside_on mine r q ≡ Beside mine r q
right_is mine Done Done h = absurd (h refl)
right_is mine r q h = refl

module _ {r q : Rest} {e f : Store} {i : ℕ} {d : SiteAction} {ks : List Comm} (st : Step r e i d ks q f) where
  pub then_steps : (ps : Procs) → Step (then_on r ps) e i d ks (then_on q ps) f
  then_steps ps = subst (λ x. Step x e i d ks (then_on q ps) f) (sym (then_is r ps (goes st))) (in_then st)

  pub turns_steps : (v : ℕ) (b : ℤ) (n : ℕ) (p : Proc) → Step (turns_on r v b n p) (index_on r v b n e) i d ks (turns_on q v b n p) (index_on q v b n f)
  turns_steps v b n p =
      subst (λ x. Step x (index_on r v b n e) i d ks (turns_on q v b n p) (index_on q v b n f)) (sym (turns_is r v b n p (goes st)))
      (subst (λ g. Step (Turns r v b n p) g i d ks (turns_on q v b n p) (index_on q v b n f)) (sym (index_is r v b n e (goes st))) (in_turns st))

  pub left_steps : (mine : Set) (s : Rest) → Step (beside_on mine r s) e i d ks (beside_on mine q s) f
  left_steps mine s = subst (λ x. Step x e i d ks (beside_on mine q s) f) (sym (left_is mine r s (goes st))) (in_left st)

  pub right_steps : (mine : Set) (s : Rest) → Step (beside_on mine s r) e i d ks (beside_on mine s q) f
  right_steps mine s = subst (λ x. Step x e i d ks (beside_on mine s q) f) (sym (right_is mine s r (goes st))) (in_right st)

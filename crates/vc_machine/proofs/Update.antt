-- Functions changed at one argument.
use Rattle.std.proofs.Common.{◌≡◌, ℕ, inl, inr, refl, sym, subst}
use Rattle.std.proofs.lemmas.Bool.{cases_eq}
use Rattle.vc_packets.specs.Functions.{put}
use Rattle.vc_machine.proofs.Basics as elsewhere
use Rattle.vc_machine.proofs.Basics.{put-same, put-other}

-- g is f but at i, where it is x
pub record Changed {X : Type 0} (i : ℕ) (f g : ℕ → X) (x : X) : Type 0 where
  pub here : g i ≡ x
  pub there : (j : ℕ) → (j ≡ i → ⊥) → g j ≡ f j

pub changed : {X : Type 0} (i : ℕ) (f : ℕ → X) (x : X) → Changed i f (put f i x) x
changed i f x = record { here = put-same f i x; there = put-other f i x }

pub kept : {X : Type 0} (i : ℕ) (f : ℕ → X) → Changed i f f (f i)
kept i f = record { here = refl; there = λ j ne. refl }

-- what held everywhere still holds, if it holds at the changed place
pub every : {A B C D E : Type 0} (P : ℕ → A → B → C → D → E → Type 0) (i : ℕ)
    (f f' : ℕ → A) (g g' : ℕ → B) (h h' : ℕ → C) (k k' : ℕ → D) (m m' : ℕ → E) (a : A) (b : B) (c : C) (d : D) (e : E) →
    Changed i f f' a → Changed i g g' b → Changed i h h' c → Changed i k k' d → Changed i m m' e →
    ((j : ℕ) → P j (f j) (g j) (h j) (k j) (m j)) → P i a b c d e → (j : ℕ) → P j (f' j) (g' j) (h' j) (k' j) (m' j)
every P i f f' g g' h h' k k' m m' a b c d e cf cg ch ck cm all here j =
    elim (cases_eq j i) [
      | inl same ↦ subst (λ n. P n (f' n) (g' n) (h' n) (k' n) (m' n)) (sym same)
          (subst (λ t. t) (λ i'. P i (sym cf.here i') (sym cg.here i') (sym ch.here i') (sym ck.here i') (sym cm.here i')) here)
      | inr ne ↦ subst (λ t. t) (λ i'. P j (sym (cf.there j ne) i') (sym (cg.there j ne) i') (sym (ch.there j ne) i') (sym (ck.there j ne) i') (sym (cm.there j ne) i')) (all j)
    ]

pub every_put : {X : Type 0} (P : ℕ → X → Type 0) (f : ℕ → X) (i : ℕ) (x : X) → P i x → ((j : ℕ) → P j (f j)) → (j : ℕ) → P j (put f i x j)
every_put P f i x here others = elsewhere.every_put P f i x here (λ j ne. others j)

pub every_put₂ : {X Y : Type 0} (P : ℕ → X → Y → Type 0) (f : ℕ → X) (g : ℕ → Y) (i : ℕ) (x : X) (y : Y) → P i x y → ((j : ℕ) → P j (f j) (g j)) → (j : ℕ) → P j (put f i x j) (put g i y j)
every_put₂ P f g i x y here others = elsewhere.every_put₂ P f g i x y here (λ j ne. others j)

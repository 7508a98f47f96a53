-- Sums of a function's values below a number, and how a change of the function changes them.
use Rattle.std.proofs.Common.{◌≡◌, ℕ, zero, suc, ◌+◌, ◌≤◌, ◌<◌, inl, inr, refl, sym, ap, subst, ◌∙◌, arith}
use Rattle.std.proofs.lemmas.Bool.{cases_eq}
use Rattle.vc_packets.specs.Functions.{put}
use Rattle.vc_machine.proofs.Update.{Changed}
use Rattle.vc_machine.proofs.Basics.{put-same, put-other}

abbrev pub total : ℕ → (ℕ → ℕ) → ℕ
total zero f = 0
total (suc n) f = f n + total n f

-- no value is greater
pub total_le : (n : ℕ) (f h : ℕ → ℕ) → ((w : ℕ) → w < n → h w ≤ f w) → total n h ≤ total n f
total_le zero f h all = omega arith
total_le (suc n) f h all =
    let a : h n ≤ f n = all n (omega arith) in
    let b = total_le n f h (λ w less. all w (omega arith)) in
    omega arith

pub total_same : (n : ℕ) (f h : ℕ → ℕ) → ((w : ℕ) → w < n → h w ≡ f w) → total n h ≡ total n f
total_same zero f h all = refl
total_same (suc n) f h all =
    let a : h n ≡ f n = all n (omega arith) in
    let b = total_same n f h (λ w less. all w (omega arith)) in
    omega arith

-- no value is greater, and one is less by x
pub total_less : (n v x : ℕ) (f h : ℕ → ℕ) → ((w : ℕ) → w < n → h w ≤ f w) → v < n → h v + x ≤ f v → total n h + x ≤ total n f
total_less zero v x f h all less here = absurd (omega arith)
total_less (suc n) v x f h all less here =
    elim (cases_eq v n) [
      | inl e ↦ (let a : h n + x ≤ f n = subst (λ k. h k + x ≤ f k) e here in
          let b = total_le n f h (λ w l. all w (omega arith)) in
          omega arith)
      | inr ne ↦ (let a : h n ≤ f n = all n (omega arith) in
          let b = total_less n v x f h (λ w l. all w (omega arith)) (omega arith) here in
          omega arith)
    ]

-- one value is another
pub total_but : (n v : ℕ) (f h : ℕ → ℕ) → ((w : ℕ) → (w ≡ v → ⊥) → h w ≡ f w) → v < n → total n h + f v ≡ total n f + h v
total_but zero v f h others less = absurd (omega arith)
total_but (suc n) v f h others less =
    elim (cases_eq v n) [
      | inl e ↦ (let a : f v ≡ f n = ap f e in
          let b : h v ≡ h n = ap h e in
          let c = total_same n f h (λ w l. others w (λ k. omega arith)) in
          omega arith)
      | inr ne ↦ (let a : h n ≡ f n = others n (λ k. ne (sym k)) in
          let b = total_but n v f h others (omega arith) in
          omega arith)
    ]

-- of weights of what stands at each number, where one is changed
pub total_put : {X : Type 0} (n v : ℕ) (weigh : ℕ → X → ℕ) (f : ℕ → X) (x : X) → v < n →
    total n (λ w. weigh w (put f v x w)) + weigh v (f v) ≡ total n (λ w. weigh w (f w)) + weigh v x
total_put n v weigh f x less =
    let a = total_but n v (λ w. weigh w (f w)) (λ w. weigh w (put f v x w)) (λ w ne. ap (weigh w) (put-other f v x w ne)) less in
    let b : weigh v (put f v x v) ≡ weigh v x = ap (weigh v) (put-same f v x) in
    a ∙ ap (λ k. total n (λ w. weigh w (f w)) + k) b

pub total_changed : {X Y : Type 0} (n v : ℕ) (weigh : ℕ → X → Y → ℕ) (f f' : ℕ → X) (g g' : ℕ → Y) (x : X) (y : Y) → Changed v f f' x → Changed v g g' y → v < n →
    total n (λ w. weigh w (f' w) (g' w)) + weigh v (f v) (g v) ≡ total n (λ w. weigh w (f w) (g w)) + weigh v x y
total_changed n v weigh f f' g g' x y cf cg less =
    let a = total_but n v (λ w. weigh w (f w) (g w)) (λ w. weigh w (f' w) (g' w))
    (λ w ne. ap (λ k. weigh w k (g' w)) (cf.there w ne) ∙ ap (λ k. weigh w (f w) k) (cg.there w ne)) less in
    let b : weigh v (f' v) (g' v) ≡ weigh v x y = ap (λ k. weigh v k (g' v)) cf.here ∙ ap (λ k. weigh v x k) cg.here in
    a ∙ ap (λ k. total n (λ w. weigh w (f w) (g w)) + k) b

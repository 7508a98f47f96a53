-- Inputs that are bound, and the sources of outputs: binding and freeing keeps them paired.
use Rattle.std.proofs.Common.{◌≡◌, ℕ, sym, ap, ◌∙◌, Option, Some, None, inl, inr}
use Rattle.std.proofs.lemmas.Bool.{cases_eq}
use Rattle.vc_packets.specs.Functions.{put}
use Rattle.vc_switch.specs.State.{ArePaired}
use Rattle.vc_switch.proofs.ListWrites.{put-same, put-other}

bound_out : (f g : ℕ → Option ℕ) (l j : ℕ) → ArePaired f g → f l ≡ None → (k i : ℕ) → put g j (Some l) k ≡ Some i → put f l (Some j) i ≡ Some k
bound_out f g l j paired idle k i e = elim (cases_eq k j) [
  | inl q ↦ (let z : Some l ≡ Some i = sym (put-same g j (Some l)) ∙ sym (ap (put g j (Some l)) q) ∙ e in
      let same : l ≡ i = cc in
      sym (ap (put f l (Some j)) same) ∙ put-same f l (Some j) ∙ sym (ap Some q))
  | inr ne ↦ (let is : f i ≡ Some k = paired.outs k i (sym (put-other g j k (Some l) ne) ∙ e) in
      put-other f l i (Some j) (λ q. (let z : None ≡ Some k = sym idle ∙ sym (ap f q) ∙ is in absurd (cc))) ∙ is)
]

bound_in : (f g : ℕ → Option ℕ) (l j : ℕ) → ArePaired f g → g j ≡ None → (i k : ℕ) → put f l (Some j) i ≡ Some k → put g j (Some l) k ≡ Some i
bound_in f g l j paired free i k e = elim (cases_eq i l) [
  | inl q ↦ (let z : Some j ≡ Some k = sym (put-same f l (Some j)) ∙ sym (ap (put f l (Some j)) q) ∙ e in
      let same : j ≡ k = cc in
      sym (ap (put g j (Some l)) same) ∙ put-same g j (Some l) ∙ sym (ap Some q))
  | inr ne ↦ (let is : g k ≡ Some i = paired.ins i k (sym (put-other f l i (Some j) ne) ∙ e) in
      put-other g j k (Some l) (λ q. (let z : None ≡ Some i = sym free ∙ sym (ap g q) ∙ is in absurd (cc))) ∙ is)
]

-- an input that is bound to no output and an output that is free are bound
pub paired_bound : (f g : ℕ → Option ℕ) (l j : ℕ) → ArePaired f g → f l ≡ None → g j ≡ None → ArePaired (put f l (Some j)) (put g j (Some l))
paired_bound f g l j paired idle free = record { outs = bound_out f g l j paired idle; ins = bound_in f g l j paired free }

freed_out : (f g : ℕ → Option ℕ) (l j : ℕ) → ArePaired f g → f l ≡ Some j → (k i : ℕ) → put g j None k ≡ Some i → put f l None i ≡ Some k
freed_out f g l j paired bound k i e = elim (cases_eq k j) [
  | inl q ↦ (let z : None ≡ Some i = sym (put-same g j None) ∙ sym (ap (put g j None) q) ∙ e in absurd (cc))
  | inr ne ↦ (let is : f i ≡ Some k = paired.outs k i (sym (put-other g j k None ne) ∙ e) in
      put-other f l i None (λ q. (let z : Some j ≡ Some k = sym bound ∙ sym (ap f q) ∙ is in let w : k ≡ j = cc in ne w)) ∙ is)
]

freed_in : (f g : ℕ → Option ℕ) (l j : ℕ) → ArePaired f g → f l ≡ Some j → (i k : ℕ) → put f l None i ≡ Some k → put g j None k ≡ Some i
freed_in f g l j paired bound i k e = elim (cases_eq i l) [
  | inl q ↦ (let z : None ≡ Some k = sym (put-same f l None) ∙ sym (ap (put f l None) q) ∙ e in absurd (cc))
  | inr ne ↦ (let is : g k ≡ Some i = paired.ins i k (sym (put-other f l i None ne) ∙ e) in
      put-other g j k None (λ q. (let z : Some l ≡ Some i = sym (paired.ins l j bound) ∙ sym (ap g q) ∙ is in let w : i ≡ l = cc in ne w)) ∙ is)
]

-- what was bound is free again
pub paired_freed : (f g : ℕ → Option ℕ) (l j : ℕ) → ArePaired f g → f l ≡ Some j → ArePaired (put f l None) (put g j None)
paired_freed f g l j paired bound = record { outs = freed_out f g l j paired bound; ins = freed_in f g l j paired bound }

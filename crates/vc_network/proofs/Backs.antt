-- The two ways of a wire.
use Rattle.std.proofs.Common.{◌≡◌, ℕ, suc, ◌-◌, ◌/◌, ◌%◌, ◌<◌, not, sym, ap, ◌∙◌, arith, if◌then◌else◌, ◌==◌, eq-eqb, ne_eqb, inl, inr}
use Rattle.std.proofs.lemmas.Bool.{cases_eq}
use Rattle.vc_machine.specs.Paths.{Port}
use Rattle.vc_network.specs.Plan.{Plan, ways, wire, port_of, near, far, back, IsOutOf, IsInto}

back_even : (w : ℕ) → w % 2 ≡ 0 → back w ≡ suc w
back_even w e = ap (λ b. if b then suc w else w - 1) (eq-eqb (w % 2) 0 e)

back_odd : (w : ℕ) → (w % 2 ≡ 0 → ⊥) → back w ≡ w - 1
back_odd w ne = ap (λ b. if b then suc w else w - 1) (ne_eqb (w % 2) 0 ne)

half : (w : ℕ) → back w / 2 ≡ w / 2
half w = elim (cases_eq (w % 2) 0) [
  | inl e ↦ (let b = back_even w e in omega arith)
  | inr ne ↦ (let b = back_odd w ne in omega arith)
]

turn : (w : ℕ) → (back w % 2 == 0) ≡ not (w % 2 == 0)
turn w = elim (cases_eq (w % 2) 0) [
  | inl e ↦ (let b = back_even w e in ne_eqb (back w % 2) 0 (λ f. omega arith) ∙ ap not (sym (eq-eqb (w % 2) 0 e)))
  | inr ne ↦ (let b = back_odd w ne in eq-eqb (back w % 2) 0 (omega arith) ∙ ap not (sym (ne_eqb (w % 2) 0 ne)))
]

pub back_back : (w : ℕ) → back (back w) ≡ w
back_back w = elim (cases_eq (w % 2) 0) [
  | inl e ↦ (let b = back_even w e in let c = back_odd (back w) (λ f. omega arith) in omega arith)
  | inr ne ↦ (let b = back_odd w ne in let c = back_even (back w) (omega arith) in omega arith)
]

pub near_back : (plan : Plan) (w : ℕ) → near plan (back w) ≡ far plan w
near_back plan w = λ i. port_of (wire plan (half w i)) (turn w i)

pub far_back : (plan : Plan) (w : ℕ) → far plan (back w) ≡ near plan w
far_back plan w = sym (near_back plan (back w)) ∙ ap (near plan) (back_back w)

pub back_real : (plan : Plan) (w : ℕ) → w < ways plan → back w < ways plan
back_real plan w r = elim (cases_eq (w % 2) 0) [
  | inl e ↦ (let b = back_even w e in omega arith)
  | inr ne ↦ (let b = back_odd w ne in omega arith)
]

pub back_into : (plan : Plan) (w : ℕ) (p : Port) → IsOutOf plan w p → IsInto plan (back w) p
back_into plan w p h = (back_real plan w h.0, far_back plan w ∙ h.1)

pub back_out : (plan : Plan) (w : ℕ) (p : Port) → IsInto plan w p → IsOutOf plan (back w) p
back_out plan w p h = (back_real plan w h.0, near_back plan w ∙ h.1)

-- An output that is a move alone is on a channel that isn't inside the node.
use Rattle.std.proofs.Common.{◌≡◌, ℕ, Bool, true, false, ◌==◌, refl, subst, List, [], ◌∷◌, ◌++◌, Option, Some, None, inl, inr, if◌then◌else◌}
use Rattle.std.specs.List.{Contains}
use Rattle.std.proofs.lemmas.List.Elements.{Contains-append_cases}
use Rattle.vc_occam.specs.declared.moves.Move.{Move}
use Rattle.vc_occam.specs.declared.moves.Move.TheVariants.{Offer, Want, Choose, Stopch, Inner, Quiet}
use Rattle.vc_occam.specs.First.{own, meetings, joined, first_moves}
use Rattle.vc_occam.specs.Remains.{Rest}
use Rattle.vc_process.specs.Usage.{Set}
use Rattle.vc_process.specs.Values.{Store}
use Rattle.vc_process.proofs.Lists.{none, front_or}

-- where an output meets inputs it is no move alone
met_by : (i c j d : ℕ) (k : Option ℕ) (e : ℕ) (b : Bool) (ms : List Move) → (Contains ms (Offer i c) → ⊥) → Contains ((if b then (Inner j d k e ∷ []) else []) ++ ms) (Offer i c) → ⊥
met_by i c j d k e true ms f h = elim (front_or (Inner j d k e) ms (Offer i c) h) [ inl q ↦ cc | inr q ↦ f q ]
met_by i c j d k e false ms f h = f h

no_offer : (i c j d : ℕ) (ms : List Move) → Contains (meetings j d ms) (Offer i c) → ⊥
no_offer i c j d [] h = none (Offer i c) h
no_offer i c j d (Want n e ∷ ms) h = met_by i c j n None d (d == e) (meetings j d ms) (no_offer i c j d ms) h
no_offer i c j d (Choose n g e ∷ ms) h = met_by i c j n (Some g) d (d == e) (meetings j d ms) (no_offer i c j d ms) h
no_offer i c j d (Offer n e ∷ ms) h = no_offer i c j d ms h
no_offer i c j d (Stopch n e ∷ ms) h = no_offer i c j d ms h
no_offer i c j d (Inner n g k e ∷ ms) h = no_offer i c j d ms h
no_offer i c j d (Quiet n ∷ ms) h = no_offer i c j d ms h

other_move : (x : Move) (ms : List Move) (i c : ℕ) (P : Type 0) → (x ≡ Offer i c → P) → (Contains ms (Offer i c) → P) → Contains (x ∷ ms) (Offer i c) → P
other_move x ms i c P f g h = elim (front_or x ms (Offer i c) h) [ inl q ↦ f q | inr q ↦ g q ]

unless_inside : (b : Bool) (x : Move) (ms : List Move) (i c : ℕ) (P : Type 0) → (x ≡ Offer i c → P) → (Contains ms (Offer i c) → P) → Contains ((if b then [] else (x ∷ [])) ++ ms) (Offer i c) → P
unless_inside true x ms i c P f g h = g h
unless_inside false x ms i c P f g h = other_move x ms i c P f g h

offers : (inside : Set) (all ms : List Move) (i c j d : ℕ) (b : Bool) → inside d ≡ b → (Contains ms (Offer i c) → inside c ≡ false) →
    Contains ((if b then meetings j d all else (Offer j d ∷ [])) ++ ms) (Offer i c) → inside c ≡ false
offers inside all ms i c j d true e g h = elim (Contains-append_cases (meetings j d all) ms (Offer i c) h) [
  | inl q ↦ absurd (no_offer i c j d all q)
  | inr q ↦ g q
]
offers inside all ms i c j d false e g h = other_move (Offer j d) ms i c (inside c ≡ false) (λ q. let is : d ≡ c = cc in subst (λ z. inside z ≡ false) is e) g h

outside : (inside : Set) (all ms : List Move) (i c : ℕ) → Contains (joined inside all ms) (Offer i c) → inside c ≡ false
outside inside all [] i c h = absurd (none (Offer i c) h)
outside inside all (Offer j d ∷ ms) i c h = offers inside all (joined inside all ms) i c j d (inside d) refl (outside inside all ms i c) h
outside inside all (Want j d ∷ ms) i c h = unless_inside (inside d) (Want j d) (joined inside all ms) i c (inside c ≡ false) (λ q. absurd (cc)) (outside inside all ms i c) h
outside inside all (Choose j k d ∷ ms) i c h = unless_inside (inside d) (Choose j k d) (joined inside all ms) i c (inside c ≡ false) (λ q. absurd (cc)) (outside inside all ms i c) h
outside inside all (Stopch j d ∷ ms) i c h = other_move (Stopch j d) (joined inside all ms) i c (inside c ≡ false) (λ q. absurd (cc)) (outside inside all ms i c) h
outside inside all (Inner j n k d ∷ ms) i c h = other_move (Inner j n k d) (joined inside all ms) i c (inside c ≡ false) (λ q. absurd (cc)) (outside inside all ms i c) h
outside inside all (Quiet j ∷ ms) i c h = other_move (Quiet j) (joined inside all ms) i c (inside c ≡ false) (λ q. absurd (cc)) (outside inside all ms i c) h

pub offers_outside : (inside : Set) (r : Rest) (e : Store) (i c : ℕ) → Contains (first_moves inside r e) (Offer i c) → inside c ≡ false
offers_outside inside r e i c h = outside inside (own r e) (own r e) i c h

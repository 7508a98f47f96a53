-- Linearizing a list changes nothing of what is got and stopped, nor its order.
use Rattle.std.proofs.Common.{◌≡◌, ℕ, Bool, true, false, ◌==◌, refl, sym, ap, ◌∙◌, List, [], ◌∷◌, inl, inr, eq-eqb, ne_eqb, if◌then◌else◌}
use Rattle.std.proofs.lemmas.Bool.{cases_eq}
use Rattle.vc_process.specs.declared.datum.Datum.{Datum}
use Rattle.vc_placement.specs.Linearization.{points}
use Rattle.vc_occam.specs.Traces.{Comm, Out, Fin, In, Stp}
use Rattle.vc_placement.proofs.Elements.{Element, Exchanged, Stopped, Received, Finished, spell, without, exchanged, linearized}

without_points : (c : ℕ) (l : List Element) → points (spell (without c l)) ≡ points (spell l)
without_points c [] = refl
without_points c (Exchanged s r d x y ∷ l) = ap (λ z. (r, In d y) ∷ z) (without_points c l)
without_points c (Stopped s d ∷ l) = ap (λ z. (s, Stp d) ∷ z) (without_points c l)
without_points c (Received s d y ∷ l) = ap (λ z. (s, In d y) ∷ z) (without_points c l)
without_points c (Finished s d ∷ l) = at (d == c) (without_points c l)
  where
    at : (b : Bool) → points (spell (without c l)) ≡ points (spell l) → points (spell (if b then l else Finished s d ∷ without c l)) ≡ points (spell l)
    at true h = refl
    at false h = h

exchanged_points : (n c : ℕ) (x : Datum) (l : List Element) → points (spell (exchanged n c x l)) ≡ points (spell l)
exchanged_points n c x [] = refl
exchanged_points n c x (Exchanged s r d z y ∷ l) = ap (λ k. (r, In d y) ∷ k) (exchanged_points n c x l)
exchanged_points n c x (Stopped s d ∷ l) = ap (λ k. (s, Stp d) ∷ k) (exchanged_points n c x l)
exchanged_points n c x (Finished s d ∷ l) = exchanged_points n c x l
exchanged_points n c x (Received s d y ∷ l) =
    let rest = exchanged_points n c x l in
    elim (cases_eq d c) [
      | inl e ↦ ap (λ b. points (spell (if b then Exchanged n s c x y ∷ without c l else Received s d y ∷ exchanged n c x l))) (eq-eqb d c e)
          ∙ ap (λ k. (s, In c y) ∷ k) (without_points c l) ∙ ap (λ j. (s, In j y) ∷ points (spell l)) (sym e)
      | inr e ↦ ap (λ b. points (spell (if b then Exchanged n s c x y ∷ without c l else Received s d y ∷ exchanged n c x l))) (ne_eqb d c e) ∙ ap (λ k. (s, In d y) ∷ k) rest
    ]

pub linearized_points : (ks : List (ℕ × Comm)) → points (spell (linearized ks)) ≡ points ks
linearized_points [] = refl
linearized_points ((n, Out c x) ∷ ks) = exchanged_points n c x (linearized ks) ∙ linearized_points ks
linearized_points ((n, Fin c) ∷ ks) = linearized_points ks
linearized_points ((n, In c y) ∷ ks) = ap (λ k. (n, In c y) ∷ k) (linearized_points ks)
linearized_points ((n, Stp c) ∷ ks) = ap (λ k. (n, Stp c) ∷ k) (linearized_points ks)

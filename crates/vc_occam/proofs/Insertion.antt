-- A list with one more thing put in at some place.
use Rattle.std.proofs.Common.{◌≡◌, sym, ◌∙◌, subst, List, [], ◌∷◌, ◌++◌, ◌⊎◌, inl, inr}
use Rattle.std.specs.List.{Contains}
use Rattle.vc_process.proofs.Lists.{at_front, behind, front_or}
use Rattle.vc_occam.specs.Laws.{Inserted, inserted_here, inserted_later}

pub inserted_left : {X : Type 0} {x : X} {xs ys : List X} (zs : List X) → Inserted x xs ys → Inserted x (xs ++ zs) (ys ++ zs)
inserted_left zs inserted_here = inserted_here
inserted_left zs (inserted_later h) = inserted_later (inserted_left zs h)

pub inserted_right : {X : Type 0} {x : X} {xs ys : List X} (zs : List X) → Inserted x xs ys → Inserted x (zs ++ xs) (zs ++ ys)
inserted_right [] h = h
inserted_right (z ∷ zs) h = inserted_later (inserted_right zs h)

pub is_inserted : {X : Type 0} {x : X} {xs ys : List X} → Inserted x xs ys → Contains ys x
is_inserted {x = x} (inserted_here {xs = xs}) = at_front x xs
is_inserted {x = x} (inserted_later {y = y} {ys = ys} h) = behind y ys x (is_inserted h)

pub inserted_keeps : {X : Type 0} {x : X} {xs ys : List X} → Inserted x xs ys → (w : X) → Contains xs w → Contains ys w
inserted_keeps {x = x} (inserted_here {xs = xs}) w h = behind x xs w h
inserted_keeps (inserted_later {y = y} {xs = xs} {ys = ys} i) w h =
    elim (front_or y xs w h) [ inl e ↦ subst (λ z. Contains (y ∷ ys) z) e (at_front y ys) | inr k ↦ behind y ys w (inserted_keeps i w k) ]

pub inserted_or : {X : Type 0} {x : X} {xs ys : List X} → Inserted x xs ys → (w : X) → Contains ys w → (w ≡ x) ⊎ Contains xs w
inserted_or {x = x} (inserted_here {xs = xs}) w h = elim (front_or x xs w h) [ inl e ↦ inl (sym e) | inr k ↦ inr k ]
inserted_or {x = x} (inserted_later {y = y} {xs = xs} {ys = ys} i) w h =
    elim (front_or y ys w h) [
      | inl e ↦ inr (subst (λ z. Contains (y ∷ xs) z) e (at_front y xs))
      | inr k ↦ elim (inserted_or i w k) [ inl e ↦ inl e | inr m ↦ inr (behind y xs w m) ]
    ]

-- without the same thing at one place or another, a list has the same members
pub same_without : {X : Type 0} {x y : X} {xs zs ys : List X} → Inserted x xs ys → Inserted y zs ys → x ≡ y → (w : X) → Contains xs w → Contains zs w
same_without inserted_here inserted_here e w h = h
same_without inserted_here (inserted_later {y = z} {xs = zs} {ys = ys} i) e w h =
    elim (inserted_or i w h) [ inl f ↦ subst (λ v. Contains (z ∷ zs) v) (e ∙ sym f) (at_front z zs) | inr k ↦ behind z zs w k ]
same_without (inserted_later {y = z} {xs = xs} {ys = ys} i) inserted_here e w h =
    elim (front_or z xs w h) [ inl f ↦ subst (λ v. Contains ys v) (e ∙ f) (is_inserted i) | inr k ↦ inserted_keeps i w k ]
same_without (inserted_later {y = z} {xs = xs} i) (inserted_later {xs = zs} j) e w h =
    elim (front_or z xs w h) [ inl f ↦ subst (λ v. Contains (z ∷ zs) v) f (at_front z zs) | inr k ↦ behind z zs w (same_without i j e w k) ]

-- Where the packets of channels stand, in the words of the definitions.
use Rattle.std.proofs.Common.{◌≡◌, ℕ, zero, suc, ◌+◌, ◌<◌, ◌≤◌, List, [], ◌∷◌, ◌++◌, length, length-append, Option, Some, None, refl, sym, ap, ◌∙◌, subst, arith, inl, inr}
use Rattle.std.proofs.lemmas.Bool.{cases_lt}
use Rattle.std.specs.Prelude.{slice_get}
use Rattle.vc_core.specs.PossibleEvents.{NetworkState}
use Rattle.vc_core.specs.PacketPlace as core
use Rattle.vc_core.specs.State.{State, shown}
use Rattle.vc_core.specs.declared.place.Place.{Place as Name}
use Rattle.vc_plan.specs.declared.plan.Plan.{Plan}
use Rattle.vc_waits.specs.Packets.{ArePlaces, FindsPlace, Stands}

-- a place of the state's is one of what it shows
stands_of : (p : Plan) (s : State) (c : ℕ) (place : _) → core.Stands p s c place → Stands p (shown s) c place
stands_of p s c place h = record { on_link = h.on_link; here = h.here }

of_stands : (p : Plan) (s : State) (c : ℕ) (place : _) → Stands p (shown s) c place → core.Stands p s c place
of_stands p s c place h = record { on_link = h.on_link; here = h.here }

pub finds_place : (p : Plan) (s : State) (c : ℕ) (found : Option Name) → core.FindsPlace p s c found → FindsPlace p (shown s) c found
finds_place p s c None h = λ place here. h place (of_stands p s c place here)
finds_place p s c (Some name) h = (h.0, stands_of p s c h.0 h.1, h.2)

-- the places of the first n channels
pub record ArePlacesTo (p : Plan) (x : NetworkState) (n : ℕ) (places : List (Option Name)) : Type 0 where
  pub count : length places ≡ n
  pub each : (c : ℕ) (found : Option Name) → slice_get places c ≡ Some found → FindsPlace p x c found

-- the element behind a list, and one in it
get_more : {X : Type 0} (xs : List X) (x : X) (k : ℕ) (found : X) → slice_get (xs ++ x ∷ []) k ≡ Some found → (k < length xs → slice_get xs k ≡ Some found) × (length xs ≤ k → (k ≡ length xs) × (x ≡ found))
get_more [] x zero found h = (λ l. absurd (omega (arith, l)), λ l. (refl, let e : x ≡ found = cc in e))
get_more [] x (suc k) found h = absurd (let e : None ≡ Some found = h in cc)
get_more (y ∷ xs) x zero found h = (λ l. h, λ l. absurd (omega (arith, l)))
get_more (y ∷ xs) x (suc k) found h =
    let t = get_more xs x k found h in
    (λ l. t.0 (omega (arith, l)), λ l. let u = t.1 (omega (arith, l)) in (ap suc u.0, u.1))

pub places_more : (p : Plan) (x : NetworkState) (n : ℕ) (places : List (Option Name)) (found : Option Name) → FindsPlace p x n found → ArePlacesTo p x n places → ArePlacesTo p x (n + 1) (places ++ found ∷ [])
places_more p x n places found here so_far = record {
  count = (let l : length (places ++ found ∷ []) ≡ length places + 1 = length-append places (found ∷ []) in let m = so_far.count in omega (arith, l, m));
  each = λ c other there.
      let t = get_more places found c other there in
      elim (cases_lt c (length places)) [
        | inl sooner ↦ so_far.each c other (t.0 sooner)
        | inr later ↦ (let u = t.1 later in
            subst (λ o. FindsPlace p x c o) u.1 (subst (λ k. FindsPlace p x k found) (sym (u.0 ∙ so_far.count)) here))
      ];
}

pub places_all : (p : Plan) (x : NetworkState) (n : ℕ) (places : List (Option Name)) → n ≡ length p.channels → ArePlacesTo p x n places → ArePlaces p x places
places_all p x n places all h = record { count = h.count ∙ all; each = h.each }

-- An output or input that begins and waits: the other sites' moves are what they were.
use Rattle.std.proofs.Common.{◌≡◌, ℕ, ℤ, Bool, true, false, refl, ap, sym, ◌∙◌, subst, List, [], ◌∷◌, ◌++◌, Option, Some, None, ◌⊎◌, inl, inr, arith}
use Rattle.std.proofs.lemmas.Bool.Decides.{nat_tests}
use Rattle.std.proofs.lemmas.List.Elements.{Contains-append_left, Contains-append_right}
use Rattle.std.specs.List.{Contains}
use Rattle.std.specs.Prelude.{◌==◌, if◌then◌else◌, is_some}
use Rattle.vc_occam.specs.declared.answer.Answer.{Answer}
use Rattle.vc_occam.specs.SiteActions as action
use Rattle.vc_occam.specs.declared.moves.Move.{Move}
use Rattle.vc_occam.specs.declared.moves.Move.TheVariants.{Offer, Want, Quiet}
use Rattle.vc_process.specs.Syntax.{Proc, Procs, Output}
use Rattle.vc_process.specs.Usage.{Set}
use Rattle.vc_process.specs.Values.{Store}
use Rattle.vc_occam.specs.First.{own}
use Rattle.vc_occam.specs.MoveSites.{BeginsToWait, site_of, without}
use Rattle.vc_occam.specs.Remains.{Rest, Done, Fresh, Then, Turns, Beside, Step, does_offer, waits_input, in_then, in_turns, in_left, in_right, then_on, turns_on, index_on, beside_on}
use Rattle.vc_occam.specs.Sites.{OwnSites, sites_rest}
use Rattle.vc_occam.specs.States.{State, Acts, came, doing}
use Rattle.vc_process.specs.ProcessStep.{Wants}
use Rattle.vc_occam.specs.Traces.{Comm}
use Rattle.vc_process.proofs.Lists.{alone, at_front, behind, front_or, none}
use Rattle.vc_occam.proofs.SideBySide.{beside_own}
use Rattle.vc_occam.proofs.Doers.{doers_rest, step_site}
use Rattle.vc_occam.proofs.PartOfSite.{mover}
use Rattle.vc_occam.proofs.Sites.{clash}

-- the first of two lists has a move at the site
without_here : (i : ℕ) (xs ys : List Move) (m : Move) → Contains xs m → site_of m ≡ i → without i (xs ++ ys) ≡ without i xs ++ ys
without_here i [] ys m h s = absurd (none m h)
without_here i (x ∷ xs) ys m h s = on (site_of x == i) refl (front_or x xs m h) (λ c. without_here i xs ys m c s)
  where
    on : (b : Bool) → (site_of x == i) ≡ b → (x ≡ m) ⊎ Contains xs m → (Contains xs m → without i (xs ++ ys) ≡ without i xs ++ ys) → (if b then (xs ++ ys) else (x ∷ without i (xs ++ ys))) ≡ (if b then xs else (x ∷ without i xs)) ++ ys
    on true q r k = refl
    on false q (inl e) k = let z : site_of x ≡ i = ap site_of e ∙ s in absurd (grind (arith, nat_tests))
    on false q (inr r) k = ap (λ zs. x ∷ zs) (k r)

-- the first of two lists has none
without_there : (i : ℕ) (xs ys : List Move) → ((m : Move) → Contains xs m → site_of m ≡ i → ⊥) → without i (xs ++ ys) ≡ xs ++ without i ys
without_there i [] ys h = refl
without_there i (x ∷ xs) ys h = on (site_of x == i) refl (without_there i xs ys (λ m c. h m (behind x xs m c)))
  where
    on : (b : Bool) → (site_of x == i) ≡ b → without i (xs ++ ys) ≡ xs ++ without i ys → (if b then (xs ++ ys) else (x ∷ without i (xs ++ ys))) ≡ x ∷ (xs ++ without i ys)
    on true q r = absurd (h x (at_front x xs) (grind (arith, nat_tests)))
    on false q r = ap (λ zs. x ∷ zs) r

without_one : (i : ℕ) (m : Move) → site_of m ≡ i → without i (m ∷ []) ≡ []
without_one i m s = let on : (site_of m == i) ≡ true = grind (arith, nat_tests) in ap (λ b. if b then [] else (m ∷ [])) on

-- something remains
abbrev IsOn : Rest → Type 0
IsOn Done = ⊥
IsOn r = Unit {0}

-- the move is there, the variables stay, something remains, and its moves are the others
abbrev Waited : ℕ → Move → Rest → Store → Rest → Store → Type 0
Waited i m r e r' e' = (site_of m ≡ i) × Contains (own r e) m × (e' ≡ e) × IsOn r' × (own r' e ≡ without i (own r e))

then_waits : (i : ℕ) (m : Move) (r r' : Rest) (ps : Procs) (e e' : Store) → Waited i m r e r' e' → Waited i m (Then r ps) e (then_on r' ps) e'
then_waits i m r Done ps e e' w = absurd w.3
then_waits i m r r' ps e e' w = w

turns_waits : (i : ℕ) (m : Move) (r r' : Rest) (v : ℕ) (b : ℤ) (n : ℕ) (p : Proc) (e e' : Store) → Waited i m r e r' e' → Waited i m (Turns r v b n p) e (turns_on r' v b n p) (index_on r' v b n e')
turns_waits i m r Done v b n p e e' w = absurd w.3
turns_waits i m r r' v b n p e e' w = w

on_left : (mine : Set) (r q : Rest) → IsOn r → IsOn (beside_on mine r q)
on_left mine Done q h = absurd h
on_left mine r q h = tt

on_right : (mine : Set) (r q : Rest) → IsOn q → IsOn (beside_on mine r q)
on_right mine Done Done h = absurd h
on_right mine r q h = tt

left_waits : (i : ℕ) (m : Move) (mine : Set) (r r' q : Rest) (e e' : Store) → Waited i m r e r' e' → Waited i m (Beside mine r q) e (beside_on mine r' q) e'
left_waits i m mine r r' q e e' w = (
  w.0,
  Contains-append_left (own r e) (own q e) m w.1,
  w.2,
  on_left mine r' q w.3,
  beside_own mine r' q e ∙ ap (λ ms. ms ++ own q e) w.4 ∙ sym (without_here i (own r e) (own q e) m w.1 w.0),
)

right_waits : (i : ℕ) (m : Move) (mine : Set) (r q q' : Rest) (e e' : Store) → (sites_rest r i ≡ true → ⊥) → Waited i m q e q' e' → Waited i m (Beside mine r q) e (beside_on mine r q') e'
right_waits i m mine r q q' e e' away w = (
  w.0,
  Contains-append_right (own r e) (own q e) m w.1,
  w.2,
  on_right mine r q' w.3,
  beside_own mine r q' e ∙ ap (λ ms. own r e ++ ms) w.4 ∙ sym (without_there i (own r e) (own q e) (λ n c s. away (doers_rest r i (mover r e n i s c)))),
)

-- an output begins
pub offer_waits : {r r' : Rest} {e e' : Store} {i c : ℕ} {ks : List Comm} → Step r e i (action.Offer c) ks r' e' → OwnSites r → Waited i (Offer i c) r e r' e'
offer_waits (does_offer {s = s} {c = c} {a = a} {e = e} h) o =
    let one : own (Fresh (Output s c a)) e ≡ Offer s c ∷ [] = ap (λ d. (if is_some d then Offer s c else Quiet s) ∷ []) h in
    (refl, subst (λ ms. Contains ms (Offer s c)) (sym one) (alone (Offer s c)), refl, tt, sym (ap (without s) one ∙ without_one s (Offer s c) refl))
offer_waits (in_then {i = i} {d = action.Offer c} {r = r} {r' = r'} {e = e} {e' = e'} {ps = ps} st) o = then_waits i (Offer i c) r r' ps e e' (offer_waits st o.0)
offer_waits (in_turns {i = i} {d = action.Offer c} {r = r} {r' = r'} {e = e} {e' = e'} {v = v} {b = b} {n = n} {p = p} st) o = turns_waits i (Offer i c) r r' v b n p e e' (offer_waits st o.0)
offer_waits (in_left {i = i} {d = action.Offer c} {r = r} {r' = r'} {q = q} {e = e} {e' = e'} {mine = mine} st) o = left_waits i (Offer i c) mine r r' q e e' (offer_waits st o.1)
offer_waits (in_right {i = i} {d = action.Offer c} {r = r} {q = q} {q' = q'} {e = e} {e' = e'} {mine = mine} st) o =
    right_waits i (Offer i c) mine r q q' e e' (λ h. clash (doers_rest q i (step_site st)) (o.0 i h)) (offer_waits st o.2)

-- an input begins that finds no message
pub want_waits : {r r' : Rest} {e e' : Store} {i c : ℕ} {ks : List Comm} → Step r e i (action.Want c None) ks r' e' → OwnSites r → Waited i (Want i c) r e r' e'
want_waits (waits_input {s = s} {c = c}) o = (refl, alone (Want s c), refl, tt, sym (without_one s (Want s c) refl))
want_waits (in_then {i = i} {d = action.Want c None} {r = r} {r' = r'} {e = e} {e' = e'} {ps = ps} st) o = then_waits i (Want i c) r r' ps e e' (want_waits st o.0)
want_waits (in_turns {i = i} {d = action.Want c None} {r = r} {r' = r'} {e = e} {e' = e'} {v = v} {b = b} {n = n} {p = p} st) o = turns_waits i (Want i c) r r' v b n p e e' (want_waits st o.0)
want_waits (in_left {i = i} {d = action.Want c None} {r = r} {r' = r'} {q = q} {e = e} {e' = e'} {mine = mine} st) o = left_waits i (Want i c) mine r r' q e e' (want_waits st o.1)
want_waits (in_right {i = i} {d = action.Want c None} {r = r} {q = q} {q' = q'} {e = e} {e' = e'} {mine = mine} st) o =
    right_waits i (Want i c) mine r q q' e e' (λ h. clash (doers_rest q i (step_site st)) (o.0 i h)) (want_waits st o.2)

-- a move was made by which its site waits
pub stays : (s s' : State) (m : Move) (sent : Option (List ℕ)) (a : Answer) → OwnSites s.rest → Acts s (doing m sent a) s' → BeginsToWait m a → own s'.rest s'.store ≡ without (site_of m) (own s.rest s.store)
stays s s' (Offer i c) sent a o h w = let n = offer_waits h.1.3 o in ap (own s'.rest) n.2 ∙ n.4
stays s s' (Want i c) sent a o h w = on (came a) w h
  where
    on : (k : Option (List ℕ)) → k ≡ None → Acts s (Wants i c k) s' → own s'.rest s'.store ≡ without i (own s.rest s.store)
    on None q h = let n = want_waits h.1.1 o in ap (own s'.rest) n.2 ∙ n.4
    on (Some x) q h = absurd cc
stays s s' m sent a o h w = absurd w

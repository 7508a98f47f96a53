-- A move that was made, and a site that went on.
use Rattle.std.proofs.Common.{◌≡◌, ℕ, Bool, true, false, refl, ap, sym, ◌∙◌, subst, List, [], ◌∷◌, Option, Some, None, inl, inr, arith}
use Rattle.std.proofs.lemmas.Bool.Decides.{nat_tests}
use Rattle.std.proofs.lemmas.List.Elements.{Contains-append_cases}
use Rattle.std.specs.Prelude.{◌==◌, if◌then◌else◌, MatchOption}
use Rattle.std.specs.List.{Contains}
use Rattle.std.specs.Option.{option_or}
use Rattle.vc_occam.specs.declared.answer.Answer.{Answer}
use Rattle.vc_process.specs.declared.datum.Datum.{Datum}
use Rattle.vc_occam.specs.SiteActions.{SiteAction}
use Rattle.vc_occam.specs.SiteActions as action
use Rattle.vc_occam.specs.declared.moves.Move.{Move}
use Rattle.vc_occam.specs.declared.moves.Move.TheVariants.{Offer, Want, Choose, Stopch, Inner, Quiet}
use Rattle.vc_process.specs.Messages.{message}
use Rattle.vc_occam.specs.Traces.{Comm, Out, Fin, In, Stp}
use Rattle.vc_process.specs.Values.{Store}
use Rattle.vc_process.specs.Usage.{just}
use Rattle.vc_occam.specs.First.{own}
use Rattle.vc_occam.specs.InUse.{UsesLawfully}
use Rattle.vc_occam.specs.Remains.{Rest, Finishing, Getting, Then, Turns, Beside, Step, does_offer, does_finish, does_input, gets, does_choose, in_then, in_turns, in_left, in_right}
use Rattle.vc_occam.specs.declared.waits.Waits.{Waits}
use Rattle.vc_occam.specs.declared.waits.Waits.TheVariants as waits
use Rattle.vc_occam.specs.Private.Frames.{Did, first_waits, waits_at, waits_there}
use Rattle.vc_occam.specs.Private.MoveSites.{IsAlone, action_for, action_on}
use Rattle.vc_occam.specs.Private.SiteSteps.{one}
use Rattle.vc_occam.specs.MoveSites.{site_of}
use Rattle.vc_occam.specs.Sites.{sites, sites_all, sites_rest, OwnSites}
use Rattle.vc_occam.specs.States.{State, Acts, IsTraced, Resumes, StepsTo, bytes_or_none, came, carried, doing, output_at, sent_by, Waiting, output, input, waiting}
use Rattle.vc_process.specs.ProcessStep.{Wants, Chooses}
use Rattle.vc_occam.proofs.Preservation.{lawful}
use Rattle.vc_occam.proofs.Law.{law}
use Rattle.vc_process.proofs.Lists.{at_front, behind, front_or, only, none}
use Rattle.vc_occam.proofs.Insertion.{is_inserted}
use Rattle.vc_occam.proofs.Made.{no_meeting}
use Rattle.vc_occam.proofs.Doers.{sent_value}
use Rattle.vc_occam.proofs.Places.{itself}
use Rattle.vc_occam.proofs.Sites.{clash}
use Rattle.vc_occam.proofs.Stores.{or_left, or_right}
use Rattle.vc_occam.proofs.StepWaits.{step_waits}

-- an action's communications
abbrev pub Says : SiteAction → List Comm → Type 0
Says (action.Offer c) ks = (x : Datum) × (ks ≡ Out c x ∷ [])
Says action.Finish ks = (c : ℕ) × (ks ≡ Fin c ∷ [])
Says (action.Want c (Some m)) ks = (x : Datum) × (ks ≡ In c x ∷ [])
Says (action.Choose k c (Some m)) ks = (x : Datum) × (ks ≡ In c x ∷ [])
Says (action.Message m) ks = (c : ℕ) × (x : Datum) × (ks ≡ In c x ∷ [])
Says (action.StopChannel c) ks = ks ≡ Stp c ∷ []
Says d ks = ks ≡ []

pub says : {r r' : Rest} {e e' : Store} {i : ℕ} {d : SiteAction} {m : List Comm} → Step r e i d m r' e' → Says d m
says (does_offer {x = x} h) = (x, refl)
says (does_finish {c = c}) = (c, refl)
says (does_input {x = x} h) = (x, refl)
says (gets {c = c} {x = x} h) = (c, x, refl)
says (does_choose {x = x} dec g h k) = (x, refl)
says (in_then st) = says st
says (in_turns st) = says st
says (in_left st) = says st
says (in_right st) = says st
says st = refl

traced : (s s' : State) (i : ℕ) (d : SiteAction) (ks : List Comm) → UsesLawfully s.rest → StepsTo s i d ks s' → IsTraced s ks s'
traced s s' i d ks u st = λ t x k. law st (lawful s.rest u) k

wanted : (s s' : State) (i c : ℕ) → UsesLawfully s.rest → (o : Option (List ℕ)) (ks : List Comm) → Step s.rest s.store i (action.Want c o) ks s'.rest s'.store → Acts s (Wants i c o) s'
wanted s s' i c u None ks st = (ks, (says st, st), traced s s' i (action.Want c None) ks u st)
wanted s s' i c u (Some m) ks st = let n = says st in (ks, (n.0, n.1, st), traced s s' i (action.Want c (Some m)) ks u st)

chose : (s s' : State) (i k c : ℕ) → UsesLawfully s.rest → (o : Option (List ℕ)) (ks : List Comm) → Step s.rest s.store i (action.Choose k c o) ks s'.rest s'.store → Acts s (Chooses i k c o) s'
chose s s' i k c u None ks st = (ks, (says st, st), traced s s' i (action.Choose k c None) ks u st)
chose s s' i k c u (Some m) ks st = let n = says st in (ks, (n.0, n.1, st), traced s s' i (action.Choose k c (Some m)) ks u st)

-- a move that was made
pub acts : (s s' : State) (m : Move) (a : Answer) → OwnSites s.rest → UsesLawfully s.rest → IsAlone m → Did s.rest s.store (site_of m) (one (action_for m a)) s'.rest s'.store → Acts s (doing m (sent_by s m) a) s'
acts s s' (Offer i c) a o u al (ks, st) =
    let n = says st in
    let sent : bytes_or_none (carried (output_at i s.rest s.store)) ≡ message n.0 = ap (λ y. bytes_or_none (carried y)) (sent_value n.0 st o n.1) in
    (ks, (n.0, sent, n.1, st), traced s s' i (action.Offer c) ks u st)
acts s s' (Want i c) a o u al (ks, st) = wanted s s' i c u (came a) ks st
acts s s' (Choose i k c) a o u al (ks, st) = chose s s' i k c u (came a) ks st
acts s s' (Stopch i c) a o u al (ks, st) = (ks, (says st, st), traced s s' i (action.StopChannel c) ks u st)
acts s s' (Quiet i) a o u al (ks, st) = (ks, (says st, st), traced s s' i action.Quiet ks u st)
acts s s' (Inner i j k c) a o u al st = absurd al

-- one site's own move is no meeting
pub own_alone : (r : Rest) (e : Store) (m : Move) → Contains (own r e) m → IsAlone m
own_alone r e (Inner i j k c) h = absurd (no_meeting r e i j k c h)
own_alone r e m h = tt

-- the site that waits
unfoldable pub waits_site : Waiting → ℕ
waits_site (output i c) = i
waits_site (input i c) = i

its_site : (r : Rest) (w : Waiting) → Contains (waiting r) w → sites_rest r (waits_site w) ≡ true
unfolding waits_site
its_site (Finishing i c) w h = subst (λ x. just i (waits_site x) ≡ true) (only (output i c) w h) (itself i)
its_site (Getting i c v) w h = subst (λ x. just i (waits_site x) ≡ true) (only (input i c) w h) (itself i)
its_site (Then r ps) w h = or_left (sites_rest r (waits_site w)) (sites_all ps (waits_site w)) (its_site r w h)
its_site (Turns r v n k p) w h = or_left (sites_rest r (waits_site w)) (sites p (waits_site w)) (its_site r w h)
its_site (Beside mine r q) w h = elim (Contains-append_cases (waiting r) (waiting q) w h) [
  | inl k ↦ or_left (sites_rest r (waits_site w)) (sites_rest q (waits_site w)) (its_site r w k)
  | inr k ↦ or_right (sites_rest r (waits_site w)) (sites_rest q (waits_site w)) (its_site q w k)
]
its_site r w h = absurd (none w h)

-- one thing waits at a site
pub one_waits : (r : Rest) (w x : Waiting) → OwnSites r → waits_site w ≡ waits_site x → Contains (waiting r) w → Contains (waiting r) x → w ≡ x
one_waits (Finishing i c) w x o e a b = sym (only (output i c) w a) ∙ only (output i c) x b
one_waits (Getting i c v) w x o e a b = sym (only (input i c) w a) ∙ only (input i c) x b
one_waits (Then r ps) w x o e a b = one_waits r w x o.0 e a b
one_waits (Turns r v n k p) w x o e a b = one_waits r w x o.0 e a b
one_waits (Beside mine r q) w x o e a b = elim (Contains-append_cases (waiting r) (waiting q) w a) [
  | inl g ↦ elim (Contains-append_cases (waiting r) (waiting q) x b) [
    | inl h ↦ one_waits r w x o.1 e g h
    | inr h ↦ absurd (clash (subst (λ k. sites_rest q k ≡ true) (sym e) (its_site q x h)) (o.0 (waits_site w) (its_site r w g)))
  ]
  | inr g ↦ elim (Contains-append_cases (waiting r) (waiting q) x b) [
    | inl h ↦ absurd (clash (its_site q w g) (o.0 (waits_site w) (subst (λ k. sites_rest r k ≡ true) (sym e) (its_site r x h))))
    | inr h ↦ one_waits q w x o.2 e g h
  ]
]
one_waits r w x o e a b = absurd (none w a)

output_chan : (i j c d : ℕ) → output i c ≡ output j d → c ≡ d
output_chan i j c d h = cc

input_chan : (i j c d : ℕ) → input i c ≡ input j d → c ≡ d
input_chan i j c d h = cc

-- a site that went on
pub resumes : (s s' : State) (i : ℕ) (m : Option (List ℕ)) → OwnSites s.rest → UsesLawfully s.rest → Did s.rest s.store i (one (action_on m)) s'.rest s'.store → Resumes s i m s'
unfolding waits_site
resumes s s' i None o u (ks, st) = λ c w.
    let n = step_waits st in
    let same : n.0 ≡ c = output_chan i i n.0 c (one_waits s.rest (output i n.0) (output i c) o refl (is_inserted n.2) w) in
    (ks, (i, n.1 ∙ ap (λ d. Fin d ∷ []) same, st), traced s s' i action.Finish ks u st)
resumes s s' i (Some m) o u (ks, st) = λ c w.
    let n = step_waits st in
    let same : n.0 ≡ c = input_chan i i n.0 c (one_waits s.rest (input i n.0) (input i c) o refl (is_inserted n.3) w) in
    (ks, (i, n.1, n.2 ∙ ap (λ d. In d n.1 ∷ []) same, st), traced s s' i (action.Message m) ks u st)

-- the first site that is found to wait for something does
found_there : (w : Waits) (x : Waiting) (i : ℕ) → waits_there w x ≡ Some i → x ≡ waits_at w i
found_there (waits.Output c) (output j d) i h = on (c == d) refl h
  where
    on : (b : Bool) → (c == d) ≡ b → (if b then Some j else None) ≡ Some i → output j d ≡ output i c
    on true q k = let e : j ≡ i = cc in let g : d ≡ c = grind (arith, nat_tests) in ap (λ z. output z d) e ∙ ap (output i) g
    on false q k = absurd cc
found_there (waits.Output c) (input j d) i h = absurd cc
found_there (waits.Input c) (input j d) i h = on (c == d) refl h
  where
    on : (b : Bool) → (c == d) ≡ b → (if b then Some j else None) ≡ Some i → input j d ≡ input i c
    on true q k = let e : j ≡ i = cc in let g : d ≡ c = grind (arith, nat_tests) in ap (λ z. input z d) e ∙ ap (input i) g
    on false q k = absurd cc
found_there (waits.Input c) (output j d) i h = absurd cc

some_none : (i : ℕ) → ◌≡◌ {A = Option ℕ} (Some i) None → ⊥
some_none i h = cc

waits_itself : (w : Waits) (i : ℕ) → waits_there w (waits_at w i) ≡ Some i
waits_itself (waits.Output c) i = let on : (c == c) ≡ true = grind (arith, nat_tests) in rw on refl
waits_itself (waits.Input c) i = let on : (c == c) ≡ true = grind (arith, nat_tests) in rw on refl

found_some : (w : Waits) (xs : List Waiting) (i : ℕ) → first_waits w xs ≡ Some i → Contains xs (waits_at w i)
found_some w [] i h = absurd (some_none i (sym h))
found_some w (x ∷ xs) i h = on (waits_there w x) refl h (found_some w xs i)
  where
    on : (o : Option ℕ) → waits_there w x ≡ o → option_or o (first_waits w xs) ≡ Some i → (first_waits w xs ≡ Some i → Contains xs (waits_at w i)) → Contains (x ∷ xs) (waits_at w i)
    on (Some j) q k f = subst (λ y. Contains (x ∷ xs) y) (found_there w x i (q ∙ k)) (at_front x xs)
    on None q k f = behind x xs (waits_at w i) (f k)

found_none : (w : Waits) (xs : List Waiting) → first_waits w xs ≡ None → (i : ℕ) → Contains xs (waits_at w i) → ⊥
found_none w [] h i k = none (waits_at w i) k
found_none w (x ∷ xs) h i k = on (waits_there w x) refl h (λ g. found_none w xs g i)
  where
    on : (o : Option ℕ) → waits_there w x ≡ o → option_or o (first_waits w xs) ≡ None → (first_waits w xs ≡ None → Contains xs (waits_at w i) → ⊥) → ⊥
    on (Some j) q g f = some_none j g
    on None q g f = elim (front_or x xs (waits_at w i) k) [
      | inl e ↦ some_none i (sym (waits_itself w i) ∙ ap (waits_there w) (sym e) ∙ q)
      | inr e ↦ f g e
    ]

pub found_waits : (w : Waits) (xs : List Waiting) (o : Option ℕ) → o ≡ first_waits w xs → MatchOption o ((i : ℕ) → Contains xs (waits_at w i) → ⊥) (λ i. Contains xs (waits_at w i))
found_waits w xs None h = found_none w xs (sym h)
found_waits w xs (Some i) h = found_some w xs i (sym h)

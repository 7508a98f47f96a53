-- Where parts side by side have sites of their own and use is lawful, what a process does leads to one state.
use Rattle.std.proofs.Common.{◌≡◌, ℕ, suc, ℤ, pos, ◌+ℤ◌, true, false, refl, sym, ap, subst, ◌∙◌, List, [], ◌∷◌, Option, Some, None, eq-eqb}
use Rattle.std.proofs.lemmas.Option.{same_Some}
use Rattle.vc_process.specs.declared.datum.Datum.{Datum}
use Rattle.vc_process.specs.declared.datum.Datum.TheVariants as datum
use Rattle.vc_occam.specs.SiteActions.{SiteAction, Quiet, Offer, Finish, Want, Choose, Message, StopChannel}
use Rattle.vc_occam.specs.InUse.{UsesLawfully, outputs_rest, inputs_rest}
use Rattle.vc_process.specs.Lawful.{outputs_all, inputs_all, outputs, inputs}
use Rattle.vc_process.specs.Messages.{message, received}
use Rattle.vc_occam.specs.Remains.{Rest, Done, Finishing, Getting, Then, Turns, begin, then_on, turns_on, index_on, beside_on, GuardAt, first, later, Step, does_skip, does_empty_seq, does_empty_par, does_assign, faults_assign, faults_out, does_if, does_turn, does_leave, faults_while, does_count, does_count_none, faults_count, does_offer, does_finish, does_input, waits_input, gets, does_stop, does_choose, waits_choose, in_then, in_turns, in_left, in_right}
use Rattle.vc_occam.specs.Sites.{sites_rest, OwnSites}
use Rattle.vc_occam.specs.States.{State, StepsTo, Does, meeting}
use Rattle.vc_process.specs.ProcessStep.{ProcessStep, Offers, Wants, Chooses, Stops, Meets, Rests, Finishes, Receives}
use Rattle.vc_process.specs.Syntax.{Test, Proc, Guards, no_parts, part}
use Rattle.vc_occam.specs.Traces.{Comm, Out, Fin, In, set, Counts}
use Rattle.vc_process.specs.Usage.{just}
use Rattle.vc_process.specs.Values.{Store}
use Rattle.vc_occam.proofs.Doers.{doers_rest, step_site}
use Rattle.vc_occam.proofs.Sites.{clash, step_keeps}
use Rattle.vc_occam.proofs.Stores.{or_left, or_right}

-- the communications that a step makes, what remains then, and the variables
abbrev Outcome : Type 0
Outcome = List Comm × Rest × Store

guard_one : {gs : Guards} {k l c v c' v' : ℕ} {b b' : Test} {p p' : Proc} → GuardAt gs k b c v p → GuardAt gs l b' c' v' p' → k ≡ l → (v ≡ v') × (p ≡ p')
guard_one first first at = (refl, refl)
guard_one first (later h) at = absurd cc
guard_one (later g) first at = absurd cc
guard_one (later {k = k} g) (later {k = l} h) at = guard_one g h (let same : k ≡ l = cc in same)

counts_one : (a k : Option ℤ) (b d : ℤ) (n m : ℕ) → Counts a k b n → Counts a k d m → (b ≡ d) × (n ≡ m)
counts_one a k b d n m h l =
    let same = same_Some (pos n) (pos m) (sym h.1 ∙ l.1) in
    (same_Some b d (sym h.0 ∙ l.0), cc)

site_there : (i : ℕ) → just i i ≡ true
site_there i = eq-eqb i i refl

-- a step is made at a site of what remains
step_there : {r r' : Rest} {e e' : Store} {i : ℕ} {d : SiteAction} {ks : List Comm} → Step r e i d ks r' e' → sites_rest r i ≡ true
step_there {r} {i = i} st = doers_rest r i (step_site st)

-- where parts side by side have sites of their own, what a site does leads to one state
pub step_one : {r r' r'' : Rest} {e e' e'' : Store} {i j : ℕ} {d f : SiteAction} {ks ls : List Comm} → Step r e i d ks r' e' → Step r e j f ls r'' e'' → i ≡ j → d ≡ f → OwnSites r → ◌≡◌ {A = Outcome} (ks, r', e') (ls, r'', e'')
step_one does_skip does_skip at it o = refl
step_one does_empty_seq does_empty_seq at it o = refl
step_one does_empty_par does_empty_par at it o = refl
step_one (does_assign {v = v} {e = e} {x = x} h) (does_assign {x = y} k) at it o = ap {B = Outcome} (λ z. ([], Done, set e v z)) (same_Some x y (sym h ∙ k))
step_one (does_assign h) (faults_assign k) at it o = absurd (let e = sym h ∙ k in cc)
step_one (faults_assign h) (does_assign k) at it o = absurd (let e = sym h ∙ k in cc)
step_one (faults_assign h) (faults_assign k) at it o = refl
step_one (faults_out h) (faults_out k) at it o = refl
step_one (faults_out h) (does_offer k) at it o = absurd (let e = sym h ∙ k in cc)
step_one (does_offer h) (faults_out k) at it o = absurd (let e = sym h ∙ k in cc)
step_one does_if does_if at it o = refl
step_one (does_turn h) (does_turn k) at it o = refl
step_one (does_turn h) (does_leave k) at it o = absurd (let e = sym h ∙ k in cc)
step_one (does_turn h) (faults_while k) at it o = absurd (let e = sym h ∙ k in cc)
step_one (does_leave h) (does_turn k) at it o = absurd (let e = sym h ∙ k in cc)
step_one (does_leave h) (does_leave k) at it o = refl
step_one (does_leave h) (faults_while k) at it o = absurd (let e = sym h ∙ k in cc)
step_one (faults_while h) (does_turn k) at it o = absurd (let e = sym h ∙ k in cc)
step_one (faults_while h) (does_leave k) at it o = absurd (let e = sym h ∙ k in cc)
step_one (faults_while h) (faults_while k) at it o = refl
step_one (does_count {v = v} {p = p} {e = e} {b = b} {n = n} h) (does_count {b = d} {n = m} k) at it o =
    let same = counts_one _ _ b d (suc n) (suc m) h k in
    let left : n ≡ m = (let z = same.1 in cc) in
    ap {B = Outcome} (λ z. ([], Turns (begin p) v (z +ℤ pos 1) n p, set e v (datum.Int z))) same.0 ∙ ap {B = Outcome} (λ z. ([], Turns (begin p) v (d +ℤ pos 1) z p, set e v (datum.Int d))) left
step_one (does_count {b = b} {n = n} h) (does_count_none {b = d} k) at it o = absurd (let same = (counts_one _ _ b d (suc n) 0 h k).1 in cc)
step_one (does_count {b = b} {n = n} h) (faults_count k) at it o = absurd (k b (suc n) h)
step_one (does_count_none {b = d} k) (does_count {b = b} {n = n} h) at it o = absurd (let same = (counts_one _ _ b d (suc n) 0 h k).1 in cc)
step_one (does_count_none h) (does_count_none k) at it o = refl
step_one (does_count_none {b = b} h) (faults_count k) at it o = absurd (k b 0 h)
step_one (faults_count k) (does_count {b = b} {n = n} h) at it o = absurd (k b (suc n) h)
step_one (faults_count k) (does_count_none {b = b} h) at it o = absurd (k b 0 h)
step_one (faults_count h) (faults_count k) at it o = refl
step_one (does_offer {s = s} {c = c} {e = e} {x = x} h) (does_offer {x = y} k) at it o = ap {B = Outcome} (λ z. (Out c z ∷ [], Finishing s c, e)) (same_Some x y (sym h ∙ k))
step_one does_finish does_finish at it o = refl
step_one (does_input {c = c} {v = v} {e = e} {m = m} h) (does_input {m = n} k) at it o =
    let same : m ≡ n = cc in
    ap {B = Outcome} (λ z. (In c z ∷ [], Done, set e v z)) (h ∙ ap (received (e v)) same ∙ sym k)
step_one (does_input h) waits_input at it o = absurd cc
step_one waits_input (does_input h) at it o = absurd cc
step_one waits_input waits_input at it o = refl
step_one (gets {c = c} {v = v} {e = e} {m = m} h) (gets {m = n} k) at it o =
    let same : m ≡ n = cc in
    ap {B = Outcome} (λ z. (In c z ∷ [], Done, set e v z)) (h ∙ ap (received (e v)) same ∙ sym k)
step_one does_stop does_stop at it o = refl
step_one (does_choose {k = k} {c = c} {v = v} {p = p} {gs = gs} {e = e} {m = m} {x = x} dec g h is) (does_choose {k = l} {c = d} {v = w} {p = q} {m = n} {x = y} dec' g' h' is') at it o =
    let place : k ≡ l = cc in
    let chan : c ≡ d = cc in
    let came : m ≡ n = cc in
    let same = guard_one g g' place in
    let value : x ≡ y = is ∙ ap (λ u. received (e u) m) same.0 ∙ ap (received (e w)) came ∙ sym is' in
    ap {B = Outcome} (λ z. (In c z ∷ [], begin p, set e v z)) value ∙ ap {B = Outcome} (λ z. (In c y ∷ [], begin z, set e v y)) same.1
    ∙ ap {B = Outcome} (λ z. (In c y ∷ [], begin q, set e z y)) same.0 ∙ ap {B = Outcome} (λ z. (In z y ∷ [], begin q, set e w y)) chan
step_one (does_choose dec g h is) (waits_choose dec' g' h') at it o = absurd cc
step_one (waits_choose dec g h) (does_choose dec' g' h' is') at it o = absurd cc
step_one (waits_choose {s = s} {k = k} {c = c} {v = v} {p = p} {e = e} dec g h) (waits_choose {k = l} {c = d} {v = w} {p = q} dec' g' h') at it o =
    let place : k ≡ l = cc in
    let chan : c ≡ d = cc in
    let same = guard_one g g' place in
    ap {B = Outcome} (λ z. ([], Then (Getting s c z) (part p no_parts), e)) same.0 ∙ ap {B = Outcome} (λ z. ([], Then (Getting s c w) (part z no_parts), e)) same.1
    ∙ ap {B = Outcome} (λ z. ([], Then (Getting s z w) (part q no_parts), e)) chan
step_one (in_then {ps = ps} st) (in_then st') at it o = ap {B = Outcome} (λ t. (t.0, then_on t.1 ps, t.2)) (step_one st st' at it o.0)
step_one (in_turns {v = v} {b = b} {n = n} {p = p} st) (in_turns st') at it o = ap {B = Outcome} (λ t. (t.0, turns_on t.1 v b n p, index_on t.1 v b n t.2)) (step_one st st' at it o.0)
step_one (in_left {q = q} {mine = mine} st) (in_left st') at it o = ap {B = Outcome} (λ t. (t.0, beside_on mine t.1 q, t.2)) (step_one st st' at it o.1)
step_one (in_right {r = r} {mine = mine} st) (in_right st') at it o = ap {B = Outcome} (λ t. (t.0, beside_on mine r t.1, t.2)) (step_one st st' at it o.2)
step_one {i = i} {j = j} (in_left {q = q} st) (in_right st') at it o = absurd (clash (step_there st') (subst (λ z. sites_rest q z ≡ false) at (o.0 i (step_there st))))
step_one {i = i} {j = j} (in_right {q = q} st) (in_left st') at it o = absurd (clash (step_there st) (subst (λ z. sites_rest q z ≡ false) (sym at) (o.0 j (step_there st'))))

-- an output that is finished is one of what remains, and so is an input whose message comes
finishing_on : {r r' : Rest} {e e' : Store} {i c : ℕ} → Step r e i Finish (Fin c ∷ []) r' e' → outputs_rest r c ≡ true
finishing_on {c = c} does_finish = site_there c
finishing_on {c = c} (in_then {r = r} {ps = ps} st) = or_left (outputs_rest r c) (outputs_all ps c) (finishing_on st)
finishing_on {c = c} (in_turns {r = r} {p = p} st) = or_left (outputs_rest r c) (outputs p c) (finishing_on st)
finishing_on {c = c} (in_left {r = r} {q = q} st) = or_left (outputs_rest r c) (outputs_rest q c) (finishing_on st)
finishing_on {c = c} (in_right {r = r} {q = q} st) = or_right (outputs_rest r c) (outputs_rest q c) (finishing_on st)

getting_on : {r r' : Rest} {e e' : Store} {i c : ℕ} {m : List ℕ} {x : Datum} → Step r e i (Message m) (In c x ∷ []) r' e' → inputs_rest r c ≡ true
getting_on {c = c} (gets h) = site_there c
getting_on {c = c} (in_then {r = r} {ps = ps} st) = or_left (inputs_rest r c) (inputs_all ps c) (getting_on st)
getting_on {c = c} (in_turns {r = r} {p = p} st) = or_left (inputs_rest r c) (inputs p c) (getting_on st)
getting_on {c = c} (in_left {r = r} {q = q} st) = or_left (inputs_rest r c) (inputs_rest q c) (getting_on st)
getting_on {c = c} (in_right {r = r} {q = q} st) = or_right (inputs_rest r c) (inputs_rest q c) (getting_on st)

-- by lawful use one site only waits for a channel's output to be finished, and one for a message
pub finishing_one : {r r' r'' : Rest} {e e' e'' : Store} {i j c d : ℕ} → Step r e i Finish (Fin c ∷ []) r' e' → Step r e j Finish (Fin d ∷ []) r'' e'' → c ≡ d → UsesLawfully r → i ≡ j
finishing_one does_finish does_finish on u = refl
finishing_one (in_then st) (in_then st') on u = finishing_one st st' on u.0
finishing_one (in_turns st) (in_turns st') on u = finishing_one st st' on u.0
finishing_one (in_left st) (in_left st') on u = finishing_one st st' on u.1
finishing_one (in_right st) (in_right st') on u = finishing_one st st' on u.2
finishing_one {c = c} (in_left {q = q} st) (in_right st') on u = absurd (clash (finishing_on st') (subst (λ z. outputs_rest q z ≡ false) on (u.0.outputs c (finishing_on st))))
finishing_one {d = d} (in_right {q = q} st) (in_left st') on u = absurd (clash (finishing_on st) (subst (λ z. outputs_rest q z ≡ false) (sym on) (u.0.outputs d (finishing_on st'))))

getting_one : {x y : Datum} {r r' r'' : Rest} {e e' e'' : Store} {i j c d : ℕ} {m : List ℕ} → Step r e i (Message m) (In c x ∷ []) r' e' → Step r e j (Message m) (In d y ∷ []) r'' e'' → c ≡ d → UsesLawfully r → i ≡ j
getting_one (gets h) (gets k) on u = refl
getting_one (in_then st) (in_then st') on u = getting_one st st' on u.0
getting_one (in_turns st) (in_turns st') on u = getting_one st st' on u.0
getting_one (in_left st) (in_left st') on u = getting_one st st' on u.1
getting_one (in_right st) (in_right st') on u = getting_one st st' on u.2
getting_one {c = c} (in_left {q = q} st) (in_right st') on u = absurd (clash (getting_on st') (subst (λ z. inputs_rest q z ≡ false) on (u.0.inputs c (getting_on st))))
getting_one {d = d} (in_right {q = q} st) (in_left st') on u = absurd (clash (getting_on st) (subst (λ z. inputs_rest q z ≡ false) (sym on) (u.0.inputs d (getting_on st'))))

state_one : (s t u : State) (i : ℕ) (d : SiteAction) (ks ls : List Comm) → StepsTo s i d ks t → StepsTo s i d ls u → OwnSites s.rest → (ks ≡ ls) × (t ≡ u)
state_one s t u i d ks ls h k o =
    let n = step_one h k refl refl o in
    (ap (λ z. z.0) n, λ j. record { rest = (n j).1; store = (n j).2 })

-- the value of an output is one
sent_one : (c : ℕ) (x y : Datum) → ◌≡◌ {A = List Comm} (Out c x ∷ []) (Out c y ∷ []) → x ≡ y
sent_one c x y h = cc

finish_one : (s t u : State) (c : ℕ) (ks ls : List Comm) → Does s (Finishes c) ks t → Does s (Finishes c) ls u → UsesLawfully s.rest → OwnSites s.rest → t ≡ u
finish_one s t u c ks ls (i, e, h) (j, f, k) lawful o =
    let one = subst (λ z. StepsTo s i Finish z t) e h in
    let two = subst (λ z. StepsTo s j Finish z u) f k in
    let same : j ≡ i = finishing_one two one refl lawful in
    (state_one s t u i Finish (Fin c ∷ []) (Fin c ∷ []) one (subst (λ z. StepsTo s z Finish (Fin c ∷ []) u) same two) o).1

receive_one : (s t u : State) (c : ℕ) (m : List ℕ) (ks ls : List Comm) → Does s (Receives c m) ks t → Does s (Receives c m) ls u → UsesLawfully s.rest → OwnSites s.rest → t ≡ u
receive_one s t u c m ks ls (i, x, e, h) (j, y, f, k) lawful o =
    let one = subst (λ z. StepsTo s i (Message m) z t) e h in
    let two = subst (λ z. StepsTo s j (Message m) z u) f k in
    let same : j ≡ i = getting_one two one refl lawful in
    (state_one s t u i (Message m) (In c x ∷ []) (In c y ∷ []) one (subst (λ z. StepsTo s z (Message m) (In c y ∷ []) u) same two) o).1

-- an exchange inside the node: its three steps, one after another
record Three (s : State) (i j : ℕ) (a b : SiteAction) (c : ℕ) (x y : Datum) (t u v : State) : Type 0 where
  first : StepsTo s i a (Out c x ∷ []) t
  second : StepsTo t j b (In c y ∷ []) u
  third : StepsTo u i Finish (Fin c ∷ []) v

three_one : (s : State) (i j : ℕ) (a b : SiteAction) (c : ℕ) (x y x' y' : Datum) (t u v t' u' v' : State) → Three s i j a b c x y t u v → Three s i j a b c x' y' t' u' v' → OwnSites s.rest → v ≡ v'
three_one s i j a b c x y x' y' t u v t' u' v' h k o =
    let at = (state_one s t t' i a (Out c x ∷ []) (Out c x' ∷ []) h.first k.first o).1 in
    let own = (step_keeps h.first o).1 in
    let au = (state_one t u u' j b (In c y ∷ []) (In c y' ∷ []) h.second (subst (λ z. StepsTo z j b (In c y' ∷ []) u') (sym at) k.second) own).1 in
    let own' = (step_keeps h.second own).1 in
    (state_one u v v' i Finish (Fin c ∷ []) (Fin c ∷ []) h.third (subst (λ z. StepsTo z i Finish (Fin c ∷ []) v') (sym au) k.third) own').1

pub doing_one : (s t u : State) (d : ProcessStep) (ks ls : List Comm) → Does s d ks t → Does s d ls u → UsesLawfully s.rest → OwnSites s.rest → t ≡ u
doing_one s t u (Offers i c m) ks ls (x, e, f, h) (y, e', f', k) lawful o = (state_one s t u i (Offer c) ks ls h k o).1
doing_one s t u (Wants i c (Some m)) ks ls (x, f, h) (y, f', k) lawful o = (state_one s t u i (Want c (Some m)) ks ls h k o).1
doing_one s t u (Wants i c None) ks ls (f, h) (f', k) lawful o = (state_one s t u i (Want c None) ks ls h k o).1
doing_one s t u (Chooses i g c (Some m)) ks ls (x, f, h) (y, f', k) lawful o = (state_one s t u i (Choose g c (Some m)) ks ls h k o).1
doing_one s t u (Chooses i g c None) ks ls (f, h) (f', k) lawful o = (state_one s t u i (Choose g c None) ks ls h k o).1
doing_one s t u (Stops i c) ks ls (f, h) (f', k) lawful o = (state_one s t u i (StopChannel c) ks ls h k o).1
doing_one s t u (Meets i j g c m) ks ls (x, y, a, b, e, f, h1, h2, h3) (x', y', a', b', e', f', k1, k2, k3) lawful o =
    three_one s i j (Offer c) (meeting g c m) c x y x' y' a b t a' b' u (record { first = h1; second = h2; third = h3 }) (record { first = k1; second = k2; third = k3 }) o
doing_one s t u (Rests i) ks ls (f, h) (f', k) lawful o = (state_one s t u i Quiet ks ls h k o).1
doing_one s t u (Finishes c) ks ls h k lawful o = finish_one s t u c ks ls h k lawful o
doing_one s t u (Receives c m) ks ls h k lawful o = receive_one s t u c m ks ls h k lawful o

pub offers_sent : (s t u : State) (i c : ℕ) (m k : List ℕ) (ks ls : List Comm) → Does s (Offers i c m) ks t → Does s (Offers i c k) ls u → OwnSites s.rest → m ≡ k
offers_sent s t u i c m k ks ls (x, e, f, h) (y, e', f', h') o =
    e ∙ ap message (sent_one c x y (sym f ∙ (state_one s t u i (Offer c) ks ls h h' o).0 ∙ f')) ∙ sym e'

pub meets_sent : (s t u : State) (i j : ℕ) (g : Option ℕ) (c : ℕ) (m k : List ℕ) (ks ls : List Comm) → Does s (Meets i j g c m) ks t → Does s (Meets i j g c k) ls u → OwnSites s.rest → m ≡ k
meets_sent s t u i j g c m k ks ls (x, y, a, b, e, f, h1, h2, h3) (x', y', a', b', e', f', k1, k2, k3) o =
    e ∙ ap message (sent_one c x x' (state_one s a a' i (Offer c) (Out c x ∷ []) (Out c x' ∷ []) h1 k1 o).0) ∙ sym e'

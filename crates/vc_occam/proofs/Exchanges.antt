-- A trace that is exchanges is made by meetings: steps without a communication move out of them, and each output is finished at once.
use Rattle.std.proofs.Common.{◌≡◌, ℕ, zero, suc, ◌≤◌, refl, sym, ap, subst, ◌∙◌, List, [], ◌∷◌, ◌++◌, Option, Some, None, arith}
use Rattle.std.specs.List.{Contains}
use Rattle.vc_process.specs.declared.datum.Datum.{Datum}
use Rattle.vc_process.specs.Messages.{message}
use Rattle.vc_process.specs.ProcessStep.{Offers, Wants, Chooses, Stops, Meets, Rests, Finishes, Receives}
use Rattle.vc_process.specs.Usage.{Set}
use Rattle.vc_process.specs.Values.{Store}
use Rattle.vc_occam.specs.Completeness.{Steps, no_more as no_steps, one_more as a_step, at_first}
use Rattle.vc_occam.specs.Exchanges.{AreExchanges, Moves, no_more, one_more, ExchangesAreMeetings}
use Rattle.vc_occam.specs.First.{own}
use Rattle.vc_occam.specs.InUse.{outputs_rest, inputs_rest, UsesLawfully}
use Rattle.vc_occam.specs.Private.MoveSites.{partner}
use Rattle.vc_occam.specs.Remains.{Rest}
use Rattle.vc_occam.specs.States.{State, StepsTo, meeting, output, waiting}
use Rattle.vc_occam.specs.Traces.{Comm, Out, Fin, In, Stp}
use Rattle.vc_occam.specs.declared.moves.Move.TheVariants as move
use Rattle.vc_occam.specs.SiteActions.{SiteAction}
use Rattle.vc_occam.specs.SiteActions as action
use Rattle.vc_occam.proofs.Commutation.{after_output, before_end, swap}
use Rattle.vc_occam.proofs.Completeness.{made}
use Rattle.vc_occam.proofs.Determinate.{finishing_one}
use Rattle.vc_occam.proofs.Insertion.{is_inserted}
use Rattle.vc_occam.proofs.Preservation.{begins, lawful, step_uses}
use Rattle.vc_occam.proofs.SiteMoves.{quiet_own, stop_own, want_own, choose_own, offer_on, stop_on}
use Rattle.vc_occam.proofs.GoingOn.{finishes as ends_there}
use Rattle.vc_occam.proofs.Meets.{lists_meeting, lists_other}
use Rattle.vc_occam.proofs.Offers.{offer_own}
use Rattle.vc_occam.proofs.UseBounds.{step_in, begin_in}
use Rattle.vc_occam.proofs.Sites.{Within}
use Rattle.vc_occam.proofs.StepWaits.{step_waits}
use Rattle.vc_occam.proofs.Interleavings.{Speaks, offers, finishes, takes, chooses, stops, Run, still, quiet, tells}

-- so many steps, one after another
data Long : ℕ → State → List Comm → State → Type 0 where
  none : {s : State} → Long 0 s [] s
  rests : {n : ℕ} {s t u : State} {i : ℕ} {ks : List Comm} → StepsTo s i action.Quiet [] t → Long n t ks u → Long (suc n) s ks u
  makes : {n : ℕ} {s t u : State} {i : ℕ} {d : SiteAction} {k : Comm} {ks : List Comm} → Speaks d k → StepsTo s i d (k ∷ []) t → Long n t ks u → Long (suc n) s (k ∷ ks) u

counted : {s t : State} {ks : List Comm} → Run s ks t → (n : ℕ) × Long n s ks t
counted still = (0, none)
counted (quiet st h) = let n = counted h in (suc n.0, rests st n.1)
counted (tells w st h) = let n = counted h in (suc n.0, makes w st n.1)

abbrev state : Rest → Store → State
state r e = record { rest = r; store = e }

-- an output that can be finished after some steps can be finished at once
record Early (k : ℕ) (s : State) (f : ℕ) (ks : List Comm) (u : State) : Type 0 where
  site : ℕ
  left : ℕ
  next : State
  ends : StepsTo s site action.Finish (Fin f ∷ []) next
  rest : Long left next ks u
  count : k ≡ suc left

early : {k : ℕ} {s u : State} {f : ℕ} {ks : List Comm} → Long k s (Fin f ∷ ks) u → UsesLawfully s.rest → Early k s f ks u
early (makes {n = n} {t = t} {i = i} finishes st r) l = record { site = i; left = n; next = t; ends = st; rest = r; count = refl }
early {s = s} (rests st r) l =
    let n = early r (step_uses st l) in
    let x = swap before_end st n.ends (lawful s.rest l) in
    record { site = n.site; left = suc n.left; next = state x.rest x.store; ends = x.first; rest = rests x.after n.rest; count = ap suc n.count }

-- the input that an output meets
record Shape (c : ℕ) (x : Datum) (d : ℕ) (y : Datum) (ks : List Comm) : Type 0 where
  end : ℕ
  others : List Comm
  is : ks ≡ Fin end ∷ others
  chan : c ≡ d
  carries : message x ≡ message y
  ends : c ≡ end
  then : AreExchanges others

shape : (c : ℕ) (x : Datum) (d : ℕ) (y : Datum) (ks : List Comm) → AreExchanges (Out c x ∷ In d y ∷ ks) → Shape c x d y ks
shape c x d y (Fin f ∷ t) h = record { end = f; others = t; is = refl; chan = h.0; carries = h.1; ends = h.2; then = h.3 }
shape c x d y z h = absurd h

-- what remains uses only channels inside the node
record Within_node (inside : Set) (r : Rest) : Type 0 where
  outputs : Within (outputs_rest r) inside
  inputs : Within (inputs_rest r) inside

module _ (inside : Set) (u : State) where
  kept : {s t : State} {i : ℕ} {d : SiteAction} {ms : List Comm} → StepsTo s i d ms t → Within_node inside s.rest → Within_node inside t.rest
  kept st w = let p = step_in st in record { outputs = λ c h. w.outputs c (p.output c h); inputs = λ c h. w.inputs c (p.input c h) }

  -- what is left of fewer than n steps is known to be made by moves
  abbrev Fewer : ℕ → Type 0
  Fewer n = (k : ℕ) (s : State) (ks : List Comm) → k ≤ n → Long k s ks u → AreExchanges ks → UsesLawfully s.rest → Within_node inside s.rest → Moves inside s ks u

  rest_first : (n k : ℕ) (s t : State) (i : ℕ) (ks : List Comm) → Fewer n → k ≤ n → StepsTo s i action.Quiet [] t → Long k t ks u → AreExchanges ks → UsesLawfully s.rest → Within_node inside s.rest → Moves inside s ks u
  rest_first n k s t i ks f h st r x l w =
      one_more (Rests i) [] (lists_other inside s.rest s.store (move.Quiet i) refl (quiet_own st)) (refl, st) (f k t ks h r x (step_uses st l) (kept {s = s} {t = t} st w))

  -- an exchange: the output began, the input got its message
  met : (n k : ℕ) (s t v : State) (i j : ℕ) (g : Option ℕ) (c : ℕ) (x y : Datum) (ks : List Comm) → Fewer n → k ≤ n → StepsTo s i (action.Offer c) (Out c x ∷ []) t → StepsTo t j (meeting g c (message x)) (In c y ∷ []) v →
      Contains (own s.rest s.store) (partner j g c) → Early k v c ks u → AreExchanges ks → UsesLawfully s.rest → UsesLawfully v.rest → Within_node inside s.rest → Within_node inside v.rest → Contains (waiting v.rest) (output i c) →
      Moves inside s (Out c x ∷ In c y ∷ Fin c ∷ ks) u
  met n k s t v i j g c x y ks f h st st2 there e z l l2 w w2 waits =
      let within = w.outputs c (offer_on st) in
      let o = ends_there v.rest v.store i c waits in
      let same : e.site ≡ i = finishing_one e.ends o.2 refl l2 in
      let st3 = subst (λ q. StepsTo v q action.Finish (Fin c ∷ []) e.next) same e.ends in
      let less : e.left ≤ n = (let q = e.count in omega arith) in
      one_more (Meets i j g c (message x)) (Out c x ∷ In c y ∷ Fin c ∷ []) (within, lists_meeting inside s.rest s.store i j g c (within, offer_own st, there))
      (x, y, t, v, refl, refl, st, st2, st3)
      (f e.left e.next ks less e.rest z (step_uses st3 l2) (kept {s = v} {t = e.next} st3 w2))

  -- the input, of the site itself or by a guard, that follows an output
  by_input : (n k : ℕ) (s t v : State) (i j : ℕ) (g : Option ℕ) (c : ℕ) (x : Datum) (d : ℕ) (y : Datum) (m : List ℕ) (ks : List Comm) → Fewer n → suc k ≤ n → StepsTo s i (action.Offer c) (Out c x ∷ []) t → StepsTo t j (meeting g d m) (In d y ∷ []) v →
      Contains (own s.rest s.store) (partner j g d) → m ≡ message y → waiting v.rest ≡ waiting t.rest → Long k v ks u → AreExchanges (Out c x ∷ In d y ∷ ks) → UsesLawfully s.rest → Within_node inside s.rest → Moves inside s (Out c x ∷ In d y ∷ ks) u
  by_input n k s t v i j g c x d y m ks f h st st2 there carried waits r z l w =
      let q = shape c x d y ks z in
      let l2 = step_uses st2 (step_uses st l) in
      let w2 = kept {s = t} {t = v} st2 (kept {s = s} {t = t} st w) in
      let same : m ≡ message x = carried ∙ sym q.carries in
      let here = subst (λ ws. Contains ws (output i c)) (sym waits) (is_inserted (step_waits st)) in
      let at = subst (λ a. StepsTo t j (meeting g a m) (In a y ∷ []) v) (sym q.chan) st2 in
      let run = subst (λ a. Long k v (Fin a ∷ q.others) u) (sym q.ends) (subst (λ a. Long k v a u) q.is r) in
      subst (λ a. Moves inside s (Out c x ∷ In d y ∷ a) u) (sym q.is)
      (subst (λ a. Moves inside s (Out c x ∷ In d y ∷ Fin a ∷ q.others) u) q.ends
      (subst (λ a. Moves inside s (Out c x ∷ In a y ∷ Fin c ∷ q.others) u) q.chan
      (met n k s t v i j g c x y q.others f (omega arith) st (subst (λ a. StepsTo t j (meeting g c a) (In c y ∷ []) v) same at) (subst (λ a. Contains (own s.rest s.store) (partner j g a)) (sym q.chan) there) (early run l2) q.then l l2 w w2 here)))

  -- after an output began
  after : (n k : ℕ) (s t : State) (i c : ℕ) (x : Datum) (ks : List Comm) → Fewer n → k ≤ n → StepsTo s i (action.Offer c) (Out c x ∷ []) t → Long k t ks u → AreExchanges (Out c x ∷ ks) → UsesLawfully s.rest → Within_node inside s.rest → Moves inside s (Out c x ∷ ks) u
  after n k s t i c x ks f h st (rests {n = m} st2 r) z l w =
      let q = swap (after_output (λ a. cc)) st st2 (lawful s.rest l) in
      rest_first n k s (state q.rest q.store) _ (Out c x ∷ ks) f h q.first (makes offers q.after r) z l w
  after n k s t i c x ks f h st (makes {n = m} {t = v} {i = j} (takes {c = d} {m = b} {x = y} e) st2 r) z l w =
      let q = swap (after_output (λ a. cc)) st st2 (lawful s.rest l) in
      by_input n m s t v i j None c x d y b _ f h st st2 (want_own q.first) e (step_waits st2) r z l w
  after n k s t i c x ks f h st (makes {n = m} {t = v} {i = j} (chooses {k = g} {c = d} {m = b} {x = y} e) st2 r) z l w =
      let q = swap (after_output (λ a. cc)) st st2 (lawful s.rest l) in
      by_input n m s t v i j (Some g) c x d y b _ f h st st2 (choose_own q.first) e (step_waits st2) r z l w
  after n k s t i c x ks f h st y z l w = absurd z

  by_moves : (n : ℕ) → Fewer n
  by_moves n k s ks h none z l w = no_more
  by_moves zero k s ks h (rests st r) z l w = absurd (omega arith)
  by_moves zero k s ks h (makes a st r) z l w = absurd (omega arith)
  by_moves (suc n) k s ks h (rests {n = m} {t = t} {i = i} st r) z l w = rest_first n m s t i ks (by_moves n) (omega arith) st r z l w
  by_moves (suc n) k s ks h (makes {n = m} {t = t} {i = i} (stops {c = c}) st r) z l w =
      let within = w.inputs c (stop_on st) in
      one_more (Stops i c) (Stp c ∷ []) (within, lists_other inside s.rest s.store (move.Stopch i c) refl (stop_own st)) (refl, st) (by_moves n m t _ (omega arith) r z (step_uses st l) (kept {s = s} {t = t} st w))
  by_moves (suc n) k s ks h (makes {n = m} {t = t} {i = i} (offers {c = c} {x = x}) st r) z l w = after n m s t i c x _ (by_moves n) (omega arith) st r z l w
  by_moves (suc n) k s ks h x z l w = absurd z

pub exchanges_are_meetings : ExchangesAreMeetings
exchanges_are_meetings inside p e ks x l only z h =
    let m = made h l in
    let r = counted m.run in
    let b = begin_in p in
    let moves = by_moves inside m.last r.0 r.0 (at_first p e) ks (omega arith) r.1 z (begins p l) (record { outputs = λ c o. only.outputs c (b.output c o); inputs = λ c o. only.inputs c (b.input c o) }) in
    record { last = m.last; moves = moves; ends = m.ends }

-- moves are steps, one after another
pub as_steps : {inside : Set} {s t : State} {ks : List Comm} → Moves inside s ks t → Steps s ks t
as_steps no_more = no_steps
as_steps {s = s} {t = t} (one_more {t = u} {ls = ls} (Rests i) ks listed did rest) =
    subst (λ z. Steps s (z ++ ls) t) (sym did.0) (a_step (subst (λ z. StepsTo s i action.Quiet z u) did.0 did.1) (as_steps rest))
as_steps {s = s} {t = t} (one_more {t = u} {ls = ls} (Stops i c) ks listed did rest) =
    subst (λ z. Steps s (z ++ ls) t) (sym did.0) (a_step (subst (λ z. StepsTo s i (action.StopChannel c) z u) did.0 did.1) (as_steps rest))
as_steps {s = s} {t = t} (one_more {ls = ls} (Meets i j k c m) ks listed did rest) = subst (λ z. Steps s (z ++ ls) t) (sym did.5) (a_step did.6 (a_step did.7 (a_step did.8 (as_steps rest))))
as_steps (one_more (Offers i c m) ks listed did rest) = absurd listed
as_steps (one_more (Wants i c m) ks listed did rest) = absurd listed
as_steps (one_more (Chooses i k c m) ks listed did rest) = absurd listed
as_steps (one_more (Finishes c) ks listed did rest) = absurd listed
as_steps (one_more (Receives c m) ks listed did rest) = absurd listed

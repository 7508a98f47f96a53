-- What a process does next where a trace of it goes on: steps without a communication, and then the step that communicates.
use Rattle.std.proofs.Common.{◌≡◌, ℕ, ℤ, true, eq-eqb, refl, sym, subst, List, [], ◌∷◌, Option, Some, None}
use Rattle.std.proofs.lemmas.Bool.{or_left, or_right}
use Rattle.std.specs.List.{Contains}
use Rattle.vc_process.specs.declared.datum.Datum.{Datum}
use Rattle.vc_process.specs.Messages.{message}
use Rattle.vc_process.specs.Lawful.{inputs, inputs_all, inputs_guards}
use Rattle.vc_process.specs.Syntax.{Test, Proc, Procs, no_parts, part, Guards}
use Rattle.vc_process.specs.Usage.{Set, ◌∪◌, just}
use Rattle.vc_process.specs.Values.{Store}
use Rattle.vc_occam.specs.First.{own}
use Rattle.vc_occam.specs.InUse.{inputs_rest, UsesLawfully}
use Rattle.vc_occam.specs.Private.MoveSites.{partner, action_for, action_on}
use Rattle.vc_occam.specs.Remains.{Rest, Done, Getting, Then, Turns, Beside, then_on, turns_on, index_on, beside_on, GuardAt, first, later, Step, does_input, waits_input, gets, does_choose, waits_choose, in_then, in_turns, in_left, in_right}
use Rattle.vc_occam.specs.States.{State, StepsTo, meeting, output, waiting}
use Rattle.vc_occam.specs.Traces.{Comm, Out, Fin, In, Stp}
use Rattle.vc_occam.specs.declared.answer.Answer.TheVariants.{Nothing, Waits as Waiting}
use Rattle.vc_occam.specs.declared.moves.Move.TheVariants as move
use Rattle.vc_occam.proofs.Commutation.{after_output, before_end, swap}
use Rattle.vc_occam.proofs.Determinate.{finishing_one}
use Rattle.vc_occam.proofs.Insertion.{is_inserted}
use Rattle.vc_occam.proofs.Preservation.{lawful, step_uses}
use Rattle.vc_occam.proofs.SiteMoves.{want_own, choose_own}
use Rattle.vc_occam.proofs.GoingOn.{finishes as ends_there}
use Rattle.vc_occam.proofs.Lifting.{then_is, turns_is, index_is, left_is, right_is}
use Rattle.vc_occam.proofs.StepWaits.{step_waits}
use Rattle.vc_occam.proofs.Interleavings.{offers, finishes, takes, chooses, stops, Run, still, quiet, tells}

-- a site makes a step without a communication, begins an output, inputs by itself or by a guard, or stops a channel, or its output is finished
abbrev pub RestsAt : State → ℕ → State → Type 0
RestsAt s i t = StepsTo s i (action_for (move.Quiet i) Nothing) [] t

abbrev pub OffersAt : State → ℕ → ℕ → Datum → State → Type 0
OffersAt s i c x t = StepsTo s i (action_for (move.Offer i c) Nothing) (Out c x ∷ []) t

abbrev pub TakesAt : State → ℕ → Option ℕ → ℕ → List ℕ → Datum → State → Type 0
TakesAt s j g c m y t = StepsTo s j (meeting g c m) (In c y ∷ []) t

abbrev pub StopsAt : State → ℕ → ℕ → State → Type 0
StopsAt s i c t = StepsTo s i (action_for (move.Stopch i c) Nothing) (Stp c ∷ []) t

abbrev pub EndsAt : State → ℕ → ℕ → State → Type 0
EndsAt s i c t = StepsTo s i (action_on None) (Fin c ∷ []) t

-- steps without a communication
pub data Rests : State → State → Type 0 where
  no_rest : {s : State} → Rests s s
  one_rest : {s t u : State} (i : ℕ) → RestsAt s i t → Rests t u → Rests s u

pub rests_only : {s u : State} {ks : List Comm} → Run s ks u → ks ≡ [] → Rests s u
rests_only still e = no_rest
rests_only (quiet {i = i} st r) e = one_rest i st (rests_only r e)
rests_only (tells w st r) e = absurd cc

-- the next step that communicates: an output begins, a message is input, a channel is stopped
pub record NextOut (s : State) (c : ℕ) (x : Datum) (ks : List Comm) (u : State) : Type 0 where
  pub before : State
  pub rests : Rests s before
  pub site : ℕ
  pub after : State
  pub step : OffersAt before site c x after
  pub run : Run after ks u

pub next_out : {s u : State} {c : ℕ} {x : Datum} {ks : List Comm} → Run s (Out c x ∷ ks) u → NextOut s c x ks u
next_out {s} (tells {t = t} {i = i} offers st r) = record { before = s; rests = no_rest; site = i; after = t; step = st; run = r }
next_out (quiet {i = i} st r) = let n = next_out r in record { before = n.before; rests = one_rest i st n.rests; site = n.site; after = n.after; step = n.step; run = n.run }

pub record NextIn (s : State) (c : ℕ) (y : Datum) (ks : List Comm) (u : State) : Type 0 where
  pub before : State
  pub rests : Rests s before
  pub site : ℕ
  pub guard : Option ℕ
  pub after : State
  pub step : TakesAt before site guard c (message y) y after
  pub run : Run after ks u

pub next_in : {s u : State} {c : ℕ} {y : Datum} {ks : List Comm} → Run s (In c y ∷ ks) u → NextIn s c y ks u
next_in {s} {c = c} {y = y} (tells {t = t} {i = i} (takes e) st r) =
    record { before = s; rests = no_rest; site = i; guard = None; after = t; step = subst (λ m. TakesAt s i None c m y t) e st; run = r }
next_in {s} {c = c} {y = y} (tells {t = t} {i = i} (chooses {k = g} e) st r) =
    record { before = s; rests = no_rest; site = i; guard = Some g; after = t; step = subst (λ m. TakesAt s i (Some g) c m y t) e st; run = r }
next_in (quiet {i = i} st r) = let n = next_in r in record { before = n.before; rests = one_rest i st n.rests; site = n.site; guard = n.guard; after = n.after; step = n.step; run = n.run }

pub record NextStop (s : State) (c : ℕ) (ks : List Comm) (u : State) : Type 0 where
  pub before : State
  pub rests : Rests s before
  pub site : ℕ
  pub after : State
  pub step : StopsAt before site c after
  pub run : Run after ks u

pub next_stop : {s u : State} {c : ℕ} {ks : List Comm} → Run s (Stp c ∷ ks) u → NextStop s c ks u
next_stop {s} (tells {t = t} {i = i} stops st r) = record { before = s; rests = no_rest; site = i; after = t; step = st; run = r }
next_stop (quiet {i = i} st r) = let n = next_stop r in record { before = n.before; rests = one_rest i st n.rests; site = n.site; after = n.after; step = n.step; run = n.run }

abbrev state : Rest → Store → State
state r e = record { rest = r; store = e }

-- an output that can be finished after some steps can be finished at once
pub record Early (s : State) (f : ℕ) (ks : List Comm) (u : State) : Type 0 where
  pub site : ℕ
  pub next : State
  pub ends : EndsAt s site f next
  pub run : Run next ks u

pub early : {s u : State} {f : ℕ} {ks : List Comm} → Run s (Fin f ∷ ks) u → UsesLawfully s.rest → Early s f ks u
early (tells {t = t} {i = i} finishes st r) l = record { site = i; next = t; ends = st; run = r }
early {s = s} (quiet st r) l =
    let n = early r (step_uses st l) in
    let x = swap before_end st n.ends (lawful s.rest l) in
    record { site = n.site; next = state x.rest x.store; ends = x.first; run = quiet x.after n.run }

-- an output and the input that it meets, one right after the other
pub record Meeting (s : State) (c : ℕ) (x y : Datum) (ks : List Comm) (u : State) : Type 0 where
  pub before : State
  pub rests : Rests s before
  pub sender : ℕ
  pub receiver : ℕ
  pub guard : Option ℕ
  pub middle : State
  pub after : State
  pub end : State
  pub offer : OffersAt before sender c x middle
  pub take : TakesAt middle receiver guard c (message y) y after
  pub finish : EndsAt after sender c end
  pub there : Contains (own before.rest before.store) (partner receiver guard c)
  pub run : Run end ks u

-- the input, of the site itself or by a guard, that follows an output
meets : {s t v u : State} (i j : ℕ) (g : Option ℕ) (c : ℕ) (x y : Datum) (m : List ℕ) (ks : List Comm) → OffersAt s i c x t → TakesAt t j g c m y v →
    Contains (own s.rest s.store) (partner j g c) → m ≡ message y → waiting v.rest ≡ waiting t.rest → Run v (Fin c ∷ ks) u → UsesLawfully s.rest → Meeting s c x y ks u
meets {s} {t} {v} {u} i j g c x y m ks st st2 there carried waits r l =
    let l2 = step_uses st2 (step_uses st l) in
    let here = subst (λ ws. Contains ws (output i c)) (sym waits) (is_inserted (step_waits st)) in
    let e = early r l2 in
    let o = ends_there v.rest v.store i c here in
    let same : e.site ≡ i = finishing_one e.ends o.2 refl l2 in
    record {
      before = s;
      rests = no_rest;
      sender = i;
      receiver = j;
      guard = g;
      middle = t;
      after = v;
      end = e.next;
      offer = st;
      take = subst (λ a. TakesAt t j g c a y v) carried st2;
      finish = subst (λ q. EndsAt v q c e.next) same e.ends;
      there = there;
      run = e.run;
    }

after_offer : {s t u : State} (i c : ℕ) (x y : Datum) (ks : List Comm) → OffersAt s i c x t → Run t (In c y ∷ Fin c ∷ ks) u → UsesLawfully s.rest → Meeting s c x y ks u
after_offer {s} {t} {u} i c x y ks st (quiet {i = k} st2 r) l =
    let q = swap (after_output (λ a. cc)) st st2 (lawful s.rest l) in
    let m = after_offer {s = state q.rest q.store} i c x y ks q.after r (step_uses q.first l) in
    record {
      before = m.before;
      rests = one_rest k q.first m.rests;
      sender = m.sender;
      receiver = m.receiver;
      guard = m.guard;
      middle = m.middle;
      after = m.after;
      end = m.end;
      offer = m.offer;
      take = m.take;
      finish = m.finish;
      there = m.there;
      run = m.run;
    }
after_offer {s} i c x y ks st (tells {i = j} (takes {m = b} e) st2 r) l =
    let q = swap (after_output (λ a. cc)) st st2 (lawful s.rest l) in
    meets i j None c x y b ks st st2 (want_own q.first) e (step_waits st2) r l
after_offer {s} i c x y ks st (tells {i = j} (chooses {k = g} {m = b} e) st2 r) l =
    let q = swap (after_output (λ a. cc)) st st2 (lawful s.rest l) in
    meets i j (Some g) c x y b ks st st2 (choose_own q.first) e (step_waits st2) r l

pub meeting_of : {s u : State} (c : ℕ) (x y : Datum) (ks : List Comm) → Run s (Out c x ∷ In c y ∷ Fin c ∷ ks) u → UsesLawfully s.rest → Meeting s c x y ks u
meeting_of c x y ks (quiet {i = k} st r) l =
    let m = meeting_of c x y ks r (step_uses st l) in
    record {
      before = m.before;
      rests = one_rest k st m.rests;
      sender = m.sender;
      receiver = m.receiver;
      guard = m.guard;
      middle = m.middle;
      after = m.after;
      end = m.end;
      offer = m.offer;
      take = m.take;
      finish = m.finish;
      there = m.there;
      run = m.run;
    }
meeting_of c x y ks (tells {i = i} offers st r) l = after_offer i c x y ks st r l

-- ---- an input that has its message at once can wait for it

-- it begins to wait, and then gets the message
pub record Waits (r : Rest) (e : Store) (j : ℕ) (first : _) (m : List ℕ) (c : ℕ) (y : Datum) (r' : Rest) (e' : Store) : Type 0 where
  pub middle : Rest
  pub begins : Step r e j first [] middle e
  pub goes : middle ≡ Done → ⊥
  pub gets : Step middle e j (action_on (Some m)) (In c y ∷ []) r' e'

waits_then : {r r' : Rest} {e e' : Store} {j c : ℕ} {a : _} {m : List ℕ} {y : Datum} (ps : Procs) → Waits r e j a m c y r' e' → Waits (Then r ps) e j a m c y (then_on r' ps) e'
waits_then {r = r} {e = e} {j = j} {a = a} ps w = record {
  middle = Then w.middle ps;
  begins = subst (λ z. Step (Then r ps) e j a [] z e) (then_is w.middle ps w.goes) (in_then w.begins);
  goes = λ h. absurd cc;
  gets = in_then w.gets;
}

waits_turns : {r r' : Rest} {e e' : Store} {j c : ℕ} {a : _} {m : List ℕ} {y : Datum} (v : ℕ) (b : ℤ) (n : ℕ) (p : Proc) → Waits r e j a m c y r' e' → Waits (Turns r v b n p) e j a m c y (turns_on r' v b n p) (index_on r' v b n e')
waits_turns {r = r} {e = e} {j = j} {a = a} v b n p w = record {
  middle = Turns w.middle v b n p;
  begins = subst (λ z. Step (Turns r v b n p) e j a [] (Turns w.middle v b n p) z) (index_is w.middle v b n e w.goes) (subst (λ z. Step (Turns r v b n p) e j a [] z (index_on w.middle v b n e)) (turns_is w.middle v b n p w.goes) (in_turns w.begins));
  goes = λ h. absurd cc;
  gets = in_turns w.gets;
}

waits_left : {r r' : Rest} {e e' : Store} {j c : ℕ} {a : _} {m : List ℕ} {y : Datum} (mine : Set) (q : Rest) → Waits r e j a m c y r' e' → Waits (Beside mine r q) e j a m c y (beside_on mine r' q) e'
waits_left {r = r} {e = e} {j = j} {a = a} mine q w = record {
  middle = Beside mine w.middle q;
  begins = subst (λ z. Step (Beside mine r q) e j a [] z e) (left_is mine w.middle q w.goes) (in_left w.begins);
  goes = λ h. absurd cc;
  gets = in_left w.gets;
}

waits_right : {q q' : Rest} {e e' : Store} {j c : ℕ} {a : _} {m : List ℕ} {y : Datum} (mine : Set) (r : Rest) → Waits q e j a m c y q' e' → Waits (Beside mine r q) e j a m c y (beside_on mine r q') e'
waits_right {q = q} {e = e} {j = j} {a = a} mine r w = record {
  middle = Beside mine r w.middle;
  begins = subst (λ z. Step (Beside mine r q) e j a [] z e) (right_is mine r w.middle w.goes) (in_right w.begins);
  goes = λ h. absurd cc;
  gets = in_right w.gets;
}

pub want_waits : {r r' : Rest} {e e' : Store} {j c d : ℕ} {m : List ℕ} {y : Datum} → Step r e j (meeting None c m) (In d y ∷ []) r' e' → Waits r e j (action_for (move.Want j c) Waiting) m d y r' e'
want_waits (does_input {s = i} {c = c} {v = v} x) = record { middle = Getting i c v; begins = waits_input; goes = λ h. absurd cc; gets = gets x }
want_waits (in_then {ps = ps} st) = waits_then ps (want_waits st)
want_waits (in_turns {v = v} {b = b} {n = n} {p = p} st) = waits_turns v b n p (want_waits st)
want_waits (in_left {q = q} {mine = mine} st) = waits_left mine q (want_waits st)
want_waits (in_right {r = r} {mine = mine} st) = waits_right mine r (want_waits st)

pub choose_waits : {r r' : Rest} {e e' : Store} {j k c d : ℕ} {m : List ℕ} {y : Datum} → Step r e j (meeting (Some k) c m) (In d y ∷ []) r' e' → Waits r e j (action_for (move.Choose j k c) Waiting) m d y r' e'
choose_waits (does_choose {s = i} {c = c} {v = v} {p = p} decided at holds x) =
    record { middle = Then (Getting i c v) (part p no_parts); begins = waits_choose decided at holds; goes = λ h. absurd cc; gets = in_then (gets x) }
choose_waits (in_then {ps = ps} st) = waits_then ps (choose_waits st)
choose_waits (in_turns {v = v} {b = b} {n = n} {p = p} st) = waits_turns v b n p (choose_waits st)
choose_waits (in_left {q = q} {mine = mine} st) = waits_left mine q (choose_waits st)
choose_waits (in_right {r = r} {mine = mine} st) = waits_right mine r (choose_waits st)

-- ---- the channel is one on which the process inputs

pub want_on : {r q : Rest} {e f : Store} {i c : ℕ} {m : List ℕ} {ks : List Comm} → Step r e i (meeting None c m) ks q f → inputs_rest r c ≡ true
want_on (does_input {c = c} x) = eq-eqb c c refl
want_on {c = c} (in_then {r = r} {ps = ps} st) = or_left (inputs_rest r c) (inputs_all ps c) (want_on st)
want_on {c = c} (in_turns {r = r} {p = p} st) = or_left (inputs_rest r c) (inputs p c) (want_on st)
want_on {c = c} (in_left {r = r} {q = q} st) = or_left (inputs_rest r c) (inputs_rest q c) (want_on st)
want_on {c = c} (in_right {r = r} {q = q} st) = or_right (inputs_rest r c) (inputs_rest q c) (want_on st)

guard_on : {gs : Guards} {k : ℕ} {b : Test} {c v : ℕ} {p : Proc} → GuardAt gs k b c v p → inputs_guards gs c ≡ true
guard_on (first {c = c} {p = p} {gs = gs}) = or_left ((just c ∪ inputs p) c) (inputs_guards gs c) (or_left (just c c) (inputs p c) (eq-eqb c c refl))
guard_on (later {c = d} {c' = c} {p = p} {gs = gs} at) = or_right ((just d ∪ inputs p) c) (inputs_guards gs c) (guard_on at)

pub choose_on : {r q : Rest} {e f : Store} {i k c : ℕ} {m : List ℕ} {ks : List Comm} → Step r e i (meeting (Some k) c m) ks q f → inputs_rest r c ≡ true
choose_on (does_choose decided at holds x) = guard_on at
choose_on {c = c} (in_then {r = r} {ps = ps} st) = or_left (inputs_rest r c) (inputs_all ps c) (choose_on st)
choose_on {c = c} (in_turns {r = r} {p = p} st) = or_left (inputs_rest r c) (inputs p c) (choose_on st)
choose_on {c = c} (in_left {r = r} {q = q} st) = or_left (inputs_rest r c) (inputs_rest q c) (choose_on st)
choose_on {c = c} (in_right {r = r} {q = q} st) = or_right (inputs_rest r c) (inputs_rest q c) (choose_on st)

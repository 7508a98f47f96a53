-- Each trace of a lawful process is made by steps.
use Rattle.std.proofs.Common.{◌≡◌, ℕ, zero, suc, ℤ, pos, ◌+ℤ◌, true, refl, sym, subst, List, ◌∷◌, ◌++◌, Some, inr}
use Rattle.vc_process.specs.declared.datum.Datum.{Datum}
use Rattle.vc_process.specs.Lawful.{Lawfully, LawfullyAll, LawfullyBranches, LawfullyGuards, SideBySide}
use Rattle.vc_process.specs.Messages.{message}
use Rattle.vc_process.specs.Syntax.{Test, Proc, SEQ, PAR, WHILE, ALT, Procs, no_parts, part, Branches, Guards, guard}
use Rattle.vc_process.specs.Values.{Store, holds}
use Rattle.vc_process.specs.Usage.{changes}
use Rattle.vc_occam.specs.Completeness.{Steps, no_more, one_more, at_first, EndsAs, TracesAreMadeBySteps}
use Rattle.vc_occam.specs.Remains.{Rest, Done, Fresh, Turns, and_then, begin, begin_all, then_on, turns_on, beside_on, branch_on, chosen, GuardAt, first, later, does_skip, does_empty_seq, does_empty_par, does_assign, does_if, does_turn, does_leave, does_count, does_count_none, does_offer, does_finish, does_input, does_stop, does_choose}
use Rattle.vc_occam.specs.States.{State}
use Rattle.vc_occam.specs.Traces.{Comm, In, End, Open, Ended, set, join, both_ended, SameKind, Decided, Trace, cut, skip, assign, begin_out, out, input, stop_chan, seq, par, choose, leave, last_turn, turn, count, select, TraceSeq, seq_end, seq_open, seq_next, TracePar, par_end, par_more, TraceIf, here, further, TraceCount, counted, count_open, count_turn, TraceAlt, this, that}
use Rattle.vc_occam.proofs.Preservation.{begins}
use Rattle.vc_occam.proofs.Receipt.{received_sent}
use Rattle.vc_occam.proofs.Rests.{join_same}
use Rattle.vc_occam.proofs.Lifting.{then_is, turns_is, index_is, left_is}
use Rattle.vc_occam.proofs.Interleavings.{offers, finishes, takes, chooses, stops, Run, still, quiet, tells, thens, then_run, turning, turns_run, append, both, weave}

-- a process at first has not ended
and_then_goes : (r : Rest) (ps : Procs) → (r ≡ Done → ⊥) → and_then r ps ≡ Done → ⊥
and_then_goes r no_parts h e = h e
and_then_goes r (part p ps) h e = absurd cc

pub begin_goes : (p : Proc) → begin p ≡ Done → ⊥
begin_goes (SEQ i (part p ps)) h = and_then_goes (begin p) ps (begin_goes p) h
begin_goes (PAR i no_parts) h = absurd cc
begin_goes p h = absurd cc

-- steps that make a list of communications, to an end
pub record Makes (s : State) (t : List Comm) (x : End) : Type 0 where
  pub last : State
  pub run : Run s t last
  pub ends : EndsAs last x

abbrev from : Rest → Store → State
from r e = record { rest = r; store = e }

ended : (s : State) (f : Store) → EndsAs s (Ended f) → s ≡ from Done f
ended s f h = λ i. record { rest = h.0 i; store = h.1 i }

-- a process, and then others
then_begins : (p : Proc) (ps : Procs) {e : Store} {t : List Comm} → Makes (at_first p e) t Open → Makes (from (and_then (begin p) ps) e) t Open
then_begins p no_parts m = m
then_begins p (part q ps) {e} {t} m = record {
  last = thens (part q ps) m.last;
  run = subst (λ r. Run (from r e) t (thens (part q ps) m.last)) (then_is (begin p) (part q ps) (begin_goes p)) (then_run (part q ps) m.run);
  ends = tt;
}

then_ends : (p : Proc) (ps : Procs) {e f : Store} {t : List Comm} → Makes (at_first p e) t (Ended f) → Run (from (and_then (begin p) ps) e) t (from (then_on Done ps) f)
then_ends p no_parts {e} {f} {t} m = subst (Run (at_first p e) t) (ended m.last f m.ends) m.run
then_ends p (part q ps) {e} {f} {t} m =
    subst (λ s. Run (from (and_then (begin p) (part q ps)) e) t (thens (part q ps) s)) (ended m.last f m.ends)
    (subst (λ r. Run (from r e) t (thens (part q ps) m.last)) (then_is (begin p) (part q ps) (begin_goes p)) (then_run (part q ps) m.run))

-- a turn, and then others
turn_begins : (v : ℕ) (b : ℤ) (n : ℕ) (p : Proc) {e : Store} {t : List Comm} {s : State} → Run (at_first p e) t s → Run (from (Turns (begin p) v b n p) e) t (turning v b n p s)
turn_begins v b n p {e} {t} {s} h =
    subst (λ r. Run (from r e) t (turning v b n p s)) (turns_is (begin p) v b n p (begin_goes p))
    (subst (λ f. Run (from (turns_on (begin p) v b n p) f) t (turning v b n p s)) (index_is (begin p) v b n e (begin_goes p)) (turns_run v b n p h))

turn_ends : (v : ℕ) (b : ℤ) (n : ℕ) (p : Proc) {e f : Store} {t : List Comm} → Makes (at_first p e) t (Ended f) → Run (from (Turns (begin p) v b n p) e) t (turning v b n p (from Done f))
turn_ends v b n p {e} {f} {t} m = subst (λ s. Run (from (Turns (begin p) v b n p) e) t (turning v b n p s)) (ended m.last f m.ends) (turn_begins v b n p m.run)

go_on : {s r : State} {t u : List Comm} {x : End} → Run s t r → Makes r u x → Makes s (t ++ u) x
go_on h m = record { last = m.last; run = append h m.run; ends = m.ends }

-- one guard's input, and then its body
data Choice (gs : Guards) (e : Store) : List Comm → End → Type 0 where
  choice : {k c v : ℕ} {b : Test} {p : Proc} {x : Datum} {t : List Comm} {y : End} → GuardAt gs k b c v p → holds b e ≡ Some true → SameKind x (e v) → Makes (at_first p (set e v x)) t y → Choice gs e (In c x ∷ t) y

both_end : (mine : _) (s t : State) (x y : End) → EndsAs s x → EndsAs t y → EndsAs (both mine s t) (both_ended mine x y)
both_end mine s t Open y h k = tt
both_end mine s t (Ended f) Open h k = tt
both_end mine s t (Ended f) (Ended g) h k = ((λ i. beside_on mine (h.0 i) (k.0 i)), (λ i. join mine (h.1 i) (k.1 i)))

of_others : {b : Test} {c v : ℕ} {p : Proc} {gs : Guards} {e : Store} {t : List Comm} {x : End} → Choice gs e t x → Choice (guard b c v p gs) e t x
of_others (choice at h k m) = choice (later at) h k m

by_choice : (i : ℕ) {gs : Guards} {e : Store} {t : List Comm} {x : End} → Decided gs e → Choice gs e t x → Makes (from (Fresh (ALT i gs)) e) t x
by_choice i {e = e} d (choice {v = v} {x = x} at h k m) = record { last = m.last; run = tells (chooses refl) (does_choose {m = message x} d at h (sym (received_sent x (e v) k))) m.run; ends = m.ends }

mutual
  pub made : {p : Proc} {e : Store} {t : List Comm} {x : End} → Trace p e t x → Lawfully p → Makes (at_first p e) t x
  made {p} {e} cut l = record { last = at_first p e; run = still; ends = tt }
  made {e = e} skip l = record { last = from Done e; run = quiet does_skip still; ends = (refl, refl) }
  made (assign {v = v} {e = e} {x = x} q) l = record { last = from Done (set e v x); run = quiet (does_assign q) still; ends = (refl, refl) }
  made (begin_out q) l = record { last = _; run = tells offers (does_offer q) still; ends = tt }
  made (out {e = e} q) l = record { last = from Done e; run = tells offers (does_offer q) (tells finishes does_finish still); ends = (refl, refl) }
  made (input {v = v} {e = e} {x = x} k) l = record { last = from Done (set e v x); run = tells (takes refl) (does_input {m = message x} (sym (received_sent x (e v) k))) still; ends = (refl, refl) }
  made {e = e} stop_chan l = record { last = from Done e; run = tells stops does_stop still; ends = (refl, refl) }
  made (seq {ps = no_parts} {e = e} seq_end) l = record { last = from Done e; run = quiet does_empty_seq still; ends = (refl, refl) }
  made (seq {ps = part p ps} q) l = made_seq q l
  made (par {ps = no_parts} {e = e} par_end) l = record { last = from Done e; run = quiet does_empty_par still; ends = (refl, refl) }
  made (par {ps = part p ps} q) l = made_par q l.0 l.1
  made (choose {i = i} q) l = let m = made_if i q l in record { last = m.last; run = quiet does_if m.run; ends = m.ends }
  made (leave {e = e} h) l = record { last = from Done e; run = quiet (does_leave h) still; ends = (refl, refl) }
  made (last_turn {i = i} {b = b} {p = p} h q) l = let m = then_begins p (part (WHILE i b p) no_parts) (made q l) in record { last = m.last; run = quiet (does_turn h) m.run; ends = tt }
  made (turn {i = i} {b = b} {p = p} h q r) l =
      let m = go_on (then_ends p (part (WHILE i b p) no_parts) (made q l)) (made r l) in
      record { last = m.last; run = quiet (does_turn h) m.run; ends = m.ends }
  made (count {e = e} {n = zero} h counted) l = record { last = from Done e; run = quiet (does_count_none h) still; ends = (refl, refl) }
  made (count {n = suc n} h q) l = let m = made_count q l.1 in record { last = m.last; run = quiet (does_count h) m.run; ends = m.ends }
  made (select {i = i} h q) l = by_choice i h (made_alt q l)

  made_seq : {ps : Procs} {e : Store} {t : List Comm} {x : End} → TraceSeq ps e t x → LawfullyAll ps → Makes (from (then_on Done ps) e) t x
  made_seq {e = e} seq_end l = record { last = from Done e; run = still; ends = (refl, refl) }
  made_seq (seq_open {p = p} {ps = ps} q) l = then_begins p ps (made q l.0)
  made_seq (seq_next {p = p} {ps = ps} q r) l = go_on (then_ends p ps (made q l.0)) (made_seq r l.1)

  made_par : {ps : Procs} {e : Store} {t : List Comm} {x : End} → TracePar ps e t x → SideBySide ps → LawfullyAll ps → Makes (from (begin_all ps) e) t x
  made_par {e = e} par_end s l = record { last = from Done e; run = still; ends = (refl, refl) }
  made_par (par_more {p = p} {ps = ps} {e = e} {u = u} {x = x} {y = y} q r n) s l =
      let m = made q l.0 in
      let o = made_par r (λ k h. s.0 k (inr h), λ k h. s.1 k (inr h), λ k h. s.2 k (inr h)) l.1 in
      let two = weave (changes p) m.run o.run n (record { apart = (begins (PAR 0 (part p ps)) (s, l)).0.variables; theirs = λ v a b. refl; ours = λ v a b. refl }) in
      record {
        last = both (changes p) m.last o.last;
        run = subst (λ r. Run (from r e) u (both (changes p) m.last o.last)) (left_is (changes p) (begin p) (begin_all ps) (begin_goes p))
            (subst (λ f. Run (from (beside_on (changes p) (begin p) (begin_all ps)) f) u (both (changes p) m.last o.last)) (join_same (changes p) e) two);
        ends = both_end (changes p) m.last o.last x y m.ends o.ends;
      }

  made_if : (i : ℕ) {bs : Branches} {e : Store} {t : List Comm} {x : End} → TraceIf bs e t x → LawfullyBranches bs → Makes (from (chosen i bs e) e) t x
  made_if i (here {b = b} {p = p} {bs = bs} {e = e} {t = t} {x = x} h q) l = subst (λ o. Makes (from (branch_on i o (begin p) (chosen i bs e)) e) t x) (sym h) (made q l.0)
  made_if i (further {b = b} {p = p} {bs = bs} {e = e} {t = t} {x = x} h q) l = subst (λ o. Makes (from (branch_on i o (begin p) (chosen i bs e)) e) t x) (sym h) (made_if i q l.1)

  made_count : {v : ℕ} {b : ℤ} {n : ℕ} {p : Proc} {e : Store} {t : List Comm} {x : End} → TraceCount v b n p e t x → Lawfully p → Makes (turning v b n p (from Done e)) t x
  made_count {e = e} counted l = record { last = from Done e; run = still; ends = (refl, refl) }
  made_count (count_open {v = v} {b = b} {n = n} {p = p} q) l = let m = made q l in record { last = turning v (b +ℤ pos 1) n p m.last; run = turn_begins v (b +ℤ pos 1) n p m.run; ends = tt }
  made_count (count_turn {v = v} {b = b} {n = n} {p = p} q r) l = go_on (turn_ends v (b +ℤ pos 1) n p (made q l)) (made_count r l)

  made_alt : {gs : Guards} {e : Store} {t : List Comm} {x : End} → TraceAlt gs e t x → LawfullyGuards gs → Choice gs e t x
  made_alt (this h k q) l = choice first h k (made q l.0)
  made_alt (that q) l = of_others (made_alt q l.1)

as_steps : {s t : State} {ks : List Comm} → Run s ks t → Steps s ks t
as_steps still = no_more
as_steps (quiet st h) = one_more st (as_steps h)
as_steps (tells w st h) = one_more st (as_steps h)

pub traces_are_made_by_steps : TracesAreMadeBySteps
traces_are_made_by_steps p e ks x l h = let m = made h l in record { last = m.last; steps = as_steps m.run; ends = m.ends }

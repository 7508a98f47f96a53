-- What steps make is a trace, which is cut off where something remains.
use Rattle.std.proofs.Common.{◌≡◌, ℕ, zero, suc, ℤ, Bool, true, false, refl, sym, subst, List, [], Option, Some, None}
use Rattle.vc_occam.specs.SiteActions.{SiteAction}
use Rattle.vc_process.specs.Syntax.{Proc, SEQ, PAR, Procs, no_parts, part, Branches, no_branches, branch}
use Rattle.vc_process.specs.Values.{Store, holds}
use Rattle.vc_process.specs.Usage.{Set}
use Rattle.vc_occam.specs.Completeness.{Steps, no_more, one_more, StepsMakeTraces}
use Rattle.vc_occam.specs.InUse.{UsesLawfully}
use Rattle.vc_occam.specs.NodeTraces.{so_far}
use Rattle.vc_occam.specs.Remains.{Rest, Done, Stopped, Fresh, Finishing, Getting, Then, Turns, Beside, and_then, begin, begin_seq, begin_par, begin_all, then_on, turns_on, beside_on, branch_on, chosen, TraceRest, done, stopped, fresh, finishing_cut, getting_cut, then_open, turns_open, beside, Step, faults_assign, faults_out, does_if, does_turn, faults_while, does_count, faults_count, does_offer, waits_input, does_choose, waits_choose, in_then, in_turns, in_left, in_right}
use Rattle.vc_occam.specs.States.{State}
use Rattle.vc_occam.specs.Traces.{Comm, Open, neither, cut}
use Rattle.vc_occam.proofs.Preservation.{begins, lawful, step_uses}
use Rattle.vc_occam.proofs.Law.{law}
use Rattle.vc_occam.proofs.Rests.{begin_is}
use Rattle.vc_occam.proofs.Lifting.{then_is, turns_is, left_is, right_is}

mutual
  -- something remains, and each part of a PAR has ended or has something left
  data Remains : Rest → Type 0 where
    it_stopped : {i : ℕ} → Remains (Stopped i)
    it_is_fresh : {p : Proc} → Remains (Fresh p)
    it_finishes : {s c : ℕ} → Remains (Finishing s c)
    it_gets : {s c v : ℕ} → Remains (Getting s c v)
    before : {r : Rest} {ps : Procs} → Remains r → Remains (Then r ps)
    in_turn : {r : Rest} {v : ℕ} {b : ℤ} {n : ℕ} {p : Proc} → Remains r → Remains (Turns r v b n p)
    on_left : {mine : Set} {r q : Rest} → Remains r → Stands q → Remains (Beside mine r q)
    on_right : {mine : Set} {r q : Rest} → Stands r → Remains q → Remains (Beside mine r q)

  data Stands : Rest → Type 0 where
    has_ended : Stands Done
    remains : {r : Rest} → Remains r → Stands r

goes : {r : Rest} → Remains r → r ≡ Done → ⊥
goes it_stopped h = cc
goes x h = cc

mutual
  cut_off : {r : Rest} {e : Store} → Remains r → TraceRest r e [] Open
  cut_off it_stopped = stopped
  cut_off it_is_fresh = fresh cut
  cut_off it_finishes = finishing_cut
  cut_off it_gets = getting_cut
  cut_off (before k) = then_open (cut_off k)
  cut_off (in_turn k) = turns_open (cut_off k)
  cut_off (on_left k has_ended) = beside (cut_off k) done neither
  cut_off (on_left k (remains l)) = beside (cut_off k) (cut_off l) neither
  cut_off (on_right has_ended l) = beside done (cut_off l) neither
  cut_off (on_right (remains k) l) = beside (cut_off k) (cut_off l) neither

is_open : (r : Rest) (e : Store) → (r ≡ Done → ⊥) → so_far r e ≡ Open
is_open Done e h = absurd (h refl)
is_open r e h = refl

so_it_stands : (r : Rest) (e : Store) → Stands r → TraceRest r e [] (so_far r e)
so_it_stands Done e has_ended = done
so_it_stands r e (remains k) = subst (TraceRest r e []) (sym (is_open r e (goes k))) (cut_off k)

and_then_remains : (r : Rest) (ps : Procs) → Remains r → Remains (and_then r ps)
and_then_remains r no_parts k = k
and_then_remains r (part p ps) k = before k

mutual
  begin_remains : (p : Proc) → Remains (begin p)
  begin_remains (SEQ i ps) = seq_remains i ps
  begin_remains (PAR i ps) = par_remains i ps
  begin_remains p = it_is_fresh

  seq_remains : (i : ℕ) (ps : Procs) → Remains (begin_seq i ps)
  seq_remains i no_parts = it_is_fresh
  seq_remains i (part p ps) = and_then_remains (begin p) ps (begin_remains p)

  par_remains : (i : ℕ) (ps : Procs) → Remains (begin_par i ps)
  par_remains i no_parts = it_is_fresh
  par_remains i (part p ps) = on_left (begin_remains p) (all_stand ps)

  all_stand : (ps : Procs) → Stands (begin_all ps)
  all_stand no_parts = has_ended
  all_stand (part p ps) = remains (on_left (begin_remains p) (all_stand ps))

branch_remains : (s : ℕ) (o : Option Bool) (r q : Rest) → Remains r → Remains q → Remains (branch_on s o r q)
branch_remains s (Some true) r q h k = h
branch_remains s (Some false) r q h k = k
branch_remains s None r q h k = it_stopped

chosen_remains : (s : ℕ) (bs : Branches) (e : Store) → Remains (chosen s bs e)
chosen_remains s no_branches e = it_stopped
chosen_remains s (branch b p bs) e = branch_remains s (holds b e) (begin p) (chosen s bs e) (begin_remains p) (chosen_remains s bs e)

then_stands : (r : Rest) (ps : Procs) → Stands r → Stands (then_on r ps)
then_stands Done no_parts has_ended = has_ended
then_stands Done (part p ps) has_ended = remains (and_then_remains (begin p) ps (begin_remains p))
then_stands r ps (remains k) = remains (subst Remains (sym (then_is r ps (goes k))) (before k))

turns_stands : (r : Rest) (v : ℕ) (b : ℤ) (n : ℕ) (p : Proc) → Stands r → Stands (turns_on r v b n p)
turns_stands Done v b zero p has_ended = has_ended
turns_stands Done v b (suc n) p has_ended = remains (in_turn (begin_remains p))
turns_stands r v b n p (remains k) = remains (subst Remains (sym (turns_is r v b n p (goes k))) (in_turn k))

beside_stands : (mine : Set) (r q : Rest) → Stands r → Stands q → Stands (beside_on mine r q)
beside_stands mine Done Done has_ended has_ended = has_ended
beside_stands mine Done q has_ended (remains l) = remains (subst Remains (sym (right_is mine Done q (goes l))) (on_right has_ended l))
beside_stands mine r q (remains k) l = remains (subst Remains (sym (left_is mine r q (goes k))) (on_left k l))

-- what stands in a SEQ, in a turn, in a PAR
within_then : {r : Rest} {ps : Procs} → Stands (Then r ps) → Stands r
within_then (remains (before k)) = remains k

within_turns : {r : Rest} {v : ℕ} {b : ℤ} {n : ℕ} {p : Proc} → Stands (Turns r v b n p) → Stands r
within_turns (remains (in_turn k)) = remains k

first_stands : {mine : Set} {r q : Rest} → Stands (Beside mine r q) → Stands r
first_stands (remains (on_left k l)) = remains k
first_stands (remains (on_right k l)) = k

second_stands : {mine : Set} {r q : Rest} → Stands (Beside mine r q) → Stands q
second_stands (remains (on_left k l)) = l
second_stands (remains (on_right k l)) = remains l

step_stands : {r r' : Rest} {e e' : Store} {i : ℕ} {d : SiteAction} {m : List Comm} → Step r e i d m r' e' → Stands r → Stands r'
step_stands (faults_assign h) s = remains it_stopped
step_stands (faults_out h) s = remains it_stopped
step_stands (does_if {s = i} {bs = bs} {e = e}) s = remains (chosen_remains i bs e)
step_stands (does_turn {p = p} h) s = remains (before (begin_remains p))
step_stands (faults_while h) s = remains it_stopped
step_stands (does_count {p = p} h) s = remains (in_turn (begin_remains p))
step_stands (faults_count h) s = remains it_stopped
step_stands (does_offer h) s = remains it_finishes
step_stands waits_input s = remains it_gets
step_stands (does_choose {p = p} dec g h k) s = remains (begin_remains p)
step_stands (waits_choose dec g h) s = remains (before it_gets)
step_stands (in_then {r' = r'} {ps = ps} st) s = then_stands r' ps (step_stands st (within_then s))
step_stands (in_turns {r' = r'} {v = v} {b = b} {n = n} {p = p} st) s = turns_stands r' v b n p (step_stands st (within_turns s))
step_stands (in_left {r' = r'} {q = q} {mine = mine} st) s = beside_stands mine r' q (step_stands st (first_stands s)) (second_stands s)
step_stands (in_right {r = r} {q' = q'} {mine = mine} st) s = beside_stands mine r q' (first_stands s) (step_stands st (second_stands s))
step_stands st s = has_ended

steps_traced : {s t : State} {ks : List Comm} → Steps s ks t → UsesLawfully s.rest → Stands s.rest → TraceRest s.rest s.store ks (so_far t.rest t.store)
steps_traced {s} no_more l h = so_it_stands s.rest s.store h
steps_traced {s} (one_more st k) l h = law st (lawful s.rest l) (steps_traced k (step_uses st l) (step_stands st h))

pub steps_make_traces : StepsMakeTraces
steps_make_traces p e ks s l h = begin_is p (steps_traced h (begins p l) (remains (begin_remains p)))

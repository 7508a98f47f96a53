-- What waits after a step.
use Rattle.std.proofs.Common.{◌≡◌, ℕ, zero, suc, ℤ, Bool, true, false, refl, sym, ap, ◌∙◌, subst, List, [], ◌∷◌, ◌++◌, Option, Some, None, inl, inr}
use Rattle.std.specs.List.{Contains}
use Rattle.vc_process.specs.declared.datum.Datum.{Datum}
use Rattle.vc_occam.specs.SiteActions.{SiteAction}
use Rattle.vc_occam.specs.SiteActions as action
use Rattle.vc_process.specs.Syntax.{Proc, SEQ, PAR, Procs, no_parts, part, Branches, no_branches, branch}
use Rattle.vc_process.specs.Values.{Store, holds}
use Rattle.vc_process.specs.Usage.{Set}
use Rattle.vc_occam.specs.Traces.{Comm, Fin, In}
use Rattle.vc_occam.specs.Remains.{and_then, Rest, Done, begin, begin_seq, begin_par, begin_all, then_on, turns_on, beside_on, branch_on, chosen, Step, does_if, does_turn, does_count, does_offer, does_finish, waits_input, gets, does_choose, waits_choose, in_then, in_turns, in_left, in_right}
use Rattle.vc_occam.specs.States.{State, Does, meeting, Waiting, output, input, waiting}
use Rattle.vc_process.specs.ProcessStep.{ProcessStep, Offers, Wants, Chooses, Stops, Meets, Rests, Finishes, Receives}
use Rattle.vc_occam.specs.Laws.{IsAdded, IsKept, Inserted, inserted_here, WaitsAfter}
use Rattle.vc_occam.proofs.Insertion.{inserted_left, inserted_right, is_inserted, inserted_keeps, inserted_or, same_without}

both_wait : {xs ys : List Waiting} → xs ≡ [] → ys ≡ [] → xs ++ ys ≡ []
both_wait {xs} {ys} h k = ap (λ zs. zs ++ ys) h ∙ k

and_then_waits : (r : Rest) (ps : Procs) → waiting (and_then r ps) ≡ waiting r
and_then_waits r no_parts = refl
and_then_waits r (part p ps) = refl

mutual
  -- a process that begins waits for nothing
  pub begin_waits : (p : Proc) → waiting (begin p) ≡ []
  begin_waits (SEQ i ps) = begin_seq_waits i ps
  begin_waits (PAR i ps) = begin_par_waits i ps
  begin_waits p = refl

  begin_seq_waits : (i : ℕ) (ps : Procs) → waiting (begin_seq i ps) ≡ []
  begin_seq_waits i no_parts = refl
  begin_seq_waits i (part p ps) = and_then_waits (begin p) ps ∙ begin_waits p

  begin_par_waits : (i : ℕ) (ps : Procs) → waiting (begin_par i ps) ≡ []
  begin_par_waits i no_parts = refl
  begin_par_waits i (part p ps) = both_wait (begin_waits p) (begin_all_waits ps)

  begin_all_waits : (ps : Procs) → waiting (begin_all ps) ≡ []
  begin_all_waits no_parts = refl
  begin_all_waits (part p ps) = both_wait (begin_waits p) (begin_all_waits ps)

pub then_waits : (r : Rest) (ps : Procs) → waiting (then_on r ps) ≡ waiting r
then_waits Done no_parts = refl
then_waits Done (part p ps) = and_then_waits (begin p) ps ∙ begin_waits p
then_waits r ps = refl

pub turns_waits : (r : Rest) (v : ℕ) (b : ℤ) (n : ℕ) (p : Proc) → waiting (turns_on r v b n p) ≡ waiting r
turns_waits Done v b zero p = refl
turns_waits Done v b (suc n) p = begin_waits p
turns_waits r v b n p = refl

beside_waits : (mine : Set) (r q : Rest) → waiting (beside_on mine r q) ≡ waiting r ++ waiting q
beside_waits mine Done Done = refl
beside_waits mine r q = refl

branch_waits : (s : ℕ) (o : Option Bool) (r q : Rest) → waiting r ≡ [] → waiting q ≡ [] → waiting (branch_on s o r q) ≡ []
branch_waits s (Some true) r q h k = h
branch_waits s (Some false) r q h k = k
branch_waits s None r q h k = refl

chosen_waits : (s : ℕ) (bs : Branches) (e : Store) → waiting (chosen s bs e) ≡ []
chosen_waits s no_branches e = refl
chosen_waits s (branch b p bs) e = branch_waits s (holds b e) (begin p) (chosen s bs e) (begin_waits p) (chosen_waits s bs e)

-- what the action of a site changes of what waits
abbrev pub Changed : ℕ → SiteAction → List Comm → List Waiting → List Waiting → Type 0
Changed i (action.Offer c) m old new = Inserted (output i c) old new
Changed i (action.Want c None) m old new = Inserted (input i c) old new
Changed i (action.Choose k c None) m old new = Inserted (input i c) old new
Changed i action.Finish m old new = (c : ℕ) × (m ≡ Fin c ∷ []) × Inserted (output i c) new old
Changed i (action.Message x) m old new = (c : ℕ) × (d : Datum) × (m ≡ In c d ∷ []) × Inserted (input i c) new old
Changed i d m old new = new ≡ old

changed_left : (i : ℕ) (d : SiteAction) (m : List Comm) (old new : List Waiting) (ws : List Waiting) → Changed i d m old new → Changed i d m (old ++ ws) (new ++ ws)
changed_left i (action.Offer c) m old new ws h = inserted_left ws h
changed_left i (action.Want c None) m old new ws h = inserted_left ws h
changed_left i (action.Choose k c None) m old new ws h = inserted_left ws h
changed_left i action.Finish m old new ws h = (h.0, h.1, inserted_left ws h.2)
changed_left i (action.Message x) m old new ws h = (h.0, h.1, h.2, inserted_left ws h.3)
changed_left i d m old new ws h = ap (λ xs. xs ++ ws) h

changed_right : (i : ℕ) (d : SiteAction) (m : List Comm) (old new : List Waiting) (ws : List Waiting) → Changed i d m old new → Changed i d m (ws ++ old) (ws ++ new)
changed_right i (action.Offer c) m old new ws h = inserted_right ws h
changed_right i (action.Want c None) m old new ws h = inserted_right ws h
changed_right i (action.Choose k c None) m old new ws h = inserted_right ws h
changed_right i action.Finish m old new ws h = (h.0, h.1, inserted_right ws h.2)
changed_right i (action.Message x) m old new ws h = (h.0, h.1, h.2, inserted_right ws h.3)
changed_right i d m old new ws h = ap (λ xs. ws ++ xs) h

pub step_waits : {r r' : Rest} {e e' : Store} {i : ℕ} {d : SiteAction} {m : List Comm} → Step r e i d m r' e' → Changed i d m (waiting r) (waiting r')
step_waits (does_if {s = s} {bs = bs} {e = e}) = chosen_waits s bs e
step_waits (does_turn {p = p} h) = begin_waits p
step_waits (does_count {p = p} h) = begin_waits p
step_waits (does_offer h) = inserted_here
step_waits (does_finish {c = c}) = (c, refl, inserted_here)
step_waits waits_input = inserted_here
step_waits (gets {c = c} {x = x} h) = (c, x, refl, inserted_here)
step_waits (does_choose {p = p} dec g h k) = begin_waits p
step_waits (waits_choose dec g h) = inserted_here
step_waits (in_then {i = i} {d = d} {m = m} {r = r} {r' = r'} {ps = ps} st) = subst (Changed i d m (waiting r)) (sym (then_waits r' ps)) (step_waits st)
step_waits (in_turns {i = i} {d = d} {m = m} {r = r} {r' = r'} {v = v} {b = b} {n = n} {p = p} st) = subst (Changed i d m (waiting r)) (sym (turns_waits r' v b n p)) (step_waits st)
step_waits (in_left {i = i} {d = d} {m = m} {r = r} {r' = r'} {q = q} {mine = mine} st) =
    subst (Changed i d m (waiting r ++ waiting q)) (sym (beside_waits mine r' q)) (changed_left i d m (waiting r) (waiting r') (waiting q) (step_waits st))
step_waits (in_right {i = i} {d = d} {m = m} {r = r} {q = q} {q' = q'} {mine = mine} st) =
    subst (Changed i d m (waiting r ++ waiting q)) (sym (beside_waits mine r q')) (changed_right i d m (waiting q) (waiting q') (waiting r) (step_waits st))
step_waits st = refl

pub added : {x : Waiting} {old new : List Waiting} → Inserted x old new → IsAdded x old new
added {x} {old} {new} h w =
    (λ k. inserted_or h w k, λ k. elim k [ inl e ↦ subst (λ z. Contains new z) (sym e) (is_inserted h) | inr o ↦ inserted_keeps h w o ])

kept : {old new : List Waiting} → new ≡ old → IsKept old new
kept {old} {new} h w = (λ k. subst (λ xs. Contains xs w) h k, λ k. subst (λ xs. Contains xs w) (sym h) k)

fin_chan : (c d : ℕ) → Fin c ∷ [] ≡ Fin d ∷ [] → d ≡ c
fin_chan c d h = cc

in_chan : (c d : ℕ) (x y : Datum) → In c x ∷ [] ≡ In d y ∷ [] → d ≡ c
in_chan c d x y h = cc

taken_back : {x y : Waiting} {old between after new : List Waiting} → Inserted x old between → after ≡ between → Inserted y new after → y ≡ x → IsKept old new
taken_back {x} {y} {old} {between} {after} {new} h e k same w =
    let i : Inserted y new between = subst (Inserted y new) e k in
    (λ m. same_without i h same w m, λ m. same_without h i (sym same) w m)

-- an output that begins and is finished at once leaves nothing that waits
meets_keep : {s t u s' : Rest} {e f g e' : Store} {ks ls : List Comm} (i j : ℕ) (k : Option ℕ) (c : ℕ) (m : List ℕ) → Step s e i (action.Offer c) ks t f → Step t f j (meeting k c m) ls u g → Step u g i action.Finish (Fin c ∷ []) s' e' → IsKept (waiting s) (waiting s')
meets_keep i j None c m a b z =
    let n = step_waits z in
    taken_back (step_waits a) (step_waits b) n.2 (ap (output i) (fin_chan c n.0 n.1))
meets_keep i j (Some k) c m a b z =
    let n = step_waits z in
    taken_back (step_waits a) (step_waits b) n.2 (ap (output i) (fin_chan c n.0 n.1))

pub waits_after : (s s' : State) (d : ProcessStep) (ks : List Comm) → Does s d ks s' → WaitsAfter d (waiting s.rest) (waiting s'.rest)
waits_after s s' (Offers i c m) ks h = added (step_waits h.3)
waits_after s s' (Wants i c None) ks h = added (step_waits h.1)
waits_after s s' (Wants i c (Some m)) ks h = kept (step_waits h.2)
waits_after s s' (Chooses i k c None) ks h = added (step_waits h.1)
waits_after s s' (Chooses i k c (Some m)) ks h = kept (step_waits h.2)
waits_after s s' (Stops i c) ks h = kept (step_waits h.1)
waits_after s s' (Meets i j k c m) ks h = meets_keep i j k c m h.6 h.7 h.8
waits_after s s' (Rests i) ks h = kept (step_waits h.1)
waits_after s s' (Finishes c) ks h =
    let n = step_waits h.2 in
    (output h.0 n.0, fin_chan c n.0 (sym h.1 ∙ n.1), n.2)
waits_after s s' (Receives c m) ks h =
    let n = step_waits h.3 in
    (input h.0 n.0, in_chan c n.0 h.1 n.1 (sym h.2 ∙ n.2), n.3)

-- Parts side by side keep sites of their own.
use Rattle.std.proofs.Common.{◌≡◌, ℕ, zero, suc, ℤ, Bool, true, false, refl, sym, ◌∙◌, List, Option, Some, None, ◌⊎◌, inl, inr, ◌||◌}
use Rattle.vc_occam.specs.SiteActions.{SiteAction}
use Rattle.vc_process.specs.Syntax.{Test, Proc, SKIP, Assign, Output, Input, StopChan, SEQ, PAR, IF, WHILE, COUNT, ALT, Procs, no_parts, part, Branches, no_branches, branch, Guards}
use Rattle.vc_process.specs.Values.{Store, holds}
use Rattle.vc_process.specs.Usage.{Set, nothing, just, ◌∪◌}
use Rattle.vc_occam.specs.Traces.{Comm}
use Rattle.vc_occam.specs.Remains.{Rest, Done, Stopped, Fresh, Finishing, Getting, Then, Turns, Beside, and_then, begin, begin_seq, begin_par, begin_all, then_on, turns_on, beside_on, branch_on, chosen, GuardAt, first, later, Step, does_skip, does_empty_seq, does_empty_par, does_assign, faults_assign, faults_out, does_if, does_turn, does_leave, faults_while, does_count, does_count_none, faults_count, does_offer, does_finish, does_input, waits_input, gets, does_stop, does_choose, waits_choose, in_then, in_turns, in_left, in_right}
use Rattle.vc_occam.specs.Sites.{sites, sites_all, sites_branches, sites_guards, Disjoint, HasOwnSites, AllHaveOwnSites, PartsHaveOwnSites, BranchesHaveOwnSites, GuardsHaveOwnSites, sites_rest, OwnSites}
use Rattle.vc_occam.specs.States.{State, StepsTo, Does}
use Rattle.vc_process.specs.ProcessStep.{ProcessStep, Offers, Wants, Chooses, Meets, Finishes, Receives}
use Rattle.vc_occam.proofs.Stores.{or_left, or_right}

-- the first set is a part of the second
abbrev pub Within : Set → Set → Type 0
Within a b = (k : ℕ) → a k ≡ true → b k ≡ true

pub either : (a b : Bool) → (a || b) ≡ true → (a ≡ true) ⊎ (b ≡ true)
either true b h = inl refl
either false b h = inr h

pub within_none : (a : Set) → Within nothing a
within_none a k h = absurd (let e : false ≡ true = h in cc)

pub within_left : (a b : Set) → Within a (a ∪ b)
within_left a b k h = or_left (a k) (b k) h

pub within_right : (a b : Set) → Within b (a ∪ b)
within_right a b k h = or_right (a k) (b k) h

within_both : {a b c : Set} → Within a c → Within b c → Within (a ∪ b) c
within_both {a} {b} {c} h j k e = elim (either (a k) (b k) e) [ inl l ↦ h k l | inr r ↦ j k r ]

through : {a b c : Set} → Within a b → Within b c → Within a c
through h j k e = j k (h k e)

joined : {a b c d : Set} → Within a c → Within b d → Within (a ∪ b) (c ∪ d)
joined {a} {b} {c} {d} h j = within_both {a = a} {b = b} (through {b = c} h (within_left c d)) (through {b = d} j (within_right c d))

pub not_true : (b : Bool) → (b ≡ true → ⊥) → b ≡ false
not_true true h = absurd (h refl)
not_true false h = refl

pub clash : {b : Bool} → b ≡ true → b ≡ false → ⊥
clash {b} h k = let e : true ≡ false = sym h ∙ k in cc

apart_within : {a b c d : Set} → Within a c → Within b d → Disjoint c d → Disjoint a b
apart_within {b = b} h j x k e = not_true (b k) (λ f. clash (j k f) (x k (h k e)))

and_then_sites : (r : Rest) (a : Set) (ps : Procs) → Within (sites_rest r) a → Within (sites_rest (and_then r ps)) (a ∪ sites_all ps)
and_then_sites r a no_parts h = through {b = a} h (within_left a nothing)
and_then_sites r a (part p ps) h = joined {a = sites_rest r} {b = sites_all (part p ps)} {c = a} {d = sites_all (part p ps)} h (λ k e. e)

and_then_own : (r : Rest) (ps : Procs) → OwnSites r → AllHaveOwnSites ps → OwnSites (and_then r ps)
and_then_own r no_parts h k = h
and_then_own r (part p ps) h k = (h, k)

-- a process begins with its own sites
mutual
  pub begin_sites : (p : Proc) → Within (sites_rest (begin p)) (sites p)
  begin_sites (SEQ i ps) = begin_seq_sites i ps
  begin_sites (PAR i ps) = begin_par_sites i ps
  begin_sites p = λ k h. h

  begin_seq_sites : (i : ℕ) (ps : Procs) → Within (sites_rest (begin_seq i ps)) (just i ∪ sites_all ps)
  begin_seq_sites i no_parts = λ k h. h
  begin_seq_sites i (part p ps) = through {b = sites_all (part p ps)} (and_then_sites (begin p) (sites p) ps (begin_sites p)) (within_right (just i) (sites_all (part p ps)))

  begin_par_sites : (i : ℕ) (ps : Procs) → Within (sites_rest (begin_par i ps)) (just i ∪ sites_all ps)
  begin_par_sites i no_parts = λ k h. h
  begin_par_sites i (part p ps) = through {b = sites_all (part p ps)} (joined {a = sites_rest (begin p)} {b = sites_rest (begin_all ps)} {c = sites p} {d = sites_all ps} (begin_sites p) (begin_all_sites ps)) (within_right (just i) (sites_all (part p ps)))

  begin_all_sites : (ps : Procs) → Within (sites_rest (begin_all ps)) (sites_all ps)
  begin_all_sites no_parts = within_none nothing
  begin_all_sites (part p ps) = joined {a = sites_rest (begin p)} {b = sites_rest (begin_all ps)} {c = sites p} {d = sites_all ps} (begin_sites p) (begin_all_sites ps)

mutual
  pub begin_own : (p : Proc) → HasOwnSites p → OwnSites (begin p)
  begin_own (SEQ i ps) h = begin_seq_own i ps h
  begin_own (PAR i ps) h = begin_par_own i ps h
  begin_own (IF i bs) h = h
  begin_own (WHILE i b p) h = h
  begin_own (COUNT i v a n p) h = h
  begin_own (ALT i gs) h = h
  begin_own p h = tt

  begin_seq_own : (i : ℕ) (ps : Procs) → AllHaveOwnSites ps → OwnSites (begin_seq i ps)
  begin_seq_own i no_parts h = tt
  begin_seq_own i (part p ps) h = and_then_own (begin p) ps (begin_own p h.0) h.1

  begin_par_own : (i : ℕ) (ps : Procs) → PartsHaveOwnSites ps → OwnSites (begin_par i ps)
  begin_par_own i no_parts h = tt
  begin_par_own i (part p ps) h =
      (apart_within {a = sites_rest (begin p)} {b = sites_rest (begin_all ps)} {c = sites p} {d = sites_all ps} (begin_sites p) (begin_all_sites ps) h.0, begin_own p h.1, begin_all_own ps h.2)

  begin_all_own : (ps : Procs) → PartsHaveOwnSites ps → OwnSites (begin_all ps)
  begin_all_own no_parts h = tt
  begin_all_own (part p ps) h =
      (apart_within {a = sites_rest (begin p)} {b = sites_rest (begin_all ps)} {c = sites p} {d = sites_all ps} (begin_sites p) (begin_all_sites ps) h.0, begin_own p h.1, begin_all_own ps h.2)

-- what remains has the sites of its own, and no others than it had
abbrev Keeps : Rest → Rest → Type 0
Keeps r r' = Within (sites_rest r') (sites_rest r) × OwnSites r'

keeps_begin : (p : Proc) (r : Rest) → Within (sites p) (sites_rest r) → HasOwnSites p → Keeps r (begin p)
keeps_begin p r h k = (through {b = sites p} (begin_sites p) h, begin_own p k)

ends : (r : Rest) → Keeps r Done
ends r = (within_none (sites_rest r), tt)

stops : (r : Rest) (i : ℕ) → Keeps r (Stopped i)
stops r i = (within_none (sites_rest r), tt)

then_keeps : (r r' : Rest) (ps : Procs) → Keeps r r' → AllHaveOwnSites ps → Keeps (Then r ps) (then_on r' ps)
then_keeps r Done no_parts k h = ends (Then r no_parts)
then_keeps r Done (part p ps) k h = (
  through {b = sites_all (part p ps)} (and_then_sites (begin p) (sites p) ps (begin_sites p)) (within_right (sites_rest r) (sites_all (part p ps))),
  and_then_own (begin p) ps (begin_own p h.0) h.1,
)
then_keeps r r' ps k h = (joined {a = sites_rest r'} {b = sites_all ps} {c = sites_rest r} {d = sites_all ps} k.0 (λ k h. h), (k.1, h))

turns_keeps : (r r' : Rest) (v : ℕ) (b : ℤ) (n : ℕ) (p : Proc) → Keeps r r' → HasOwnSites p → Keeps (Turns r v b n p) (turns_on r' v b n p)
turns_keeps r Done v b zero p k h = ends (Turns r v b zero p)
turns_keeps r Done v b (suc n) p k h =
    (within_both {a = sites_rest (begin p)} {b = sites p} {c = sites_rest r ∪ sites p} (through {b = sites p} (begin_sites p) (within_right (sites_rest r) (sites p))) (within_right (sites_rest r) (sites p)), (begin_own p h, h))
turns_keeps r r' v b n p k h = (joined {a = sites_rest r'} {b = sites p} {c = sites_rest r} {d = sites p} k.0 (λ k h. h), (k.1, h))

beside_keeps : (mine : Set) (s r q : Rest) → Within (sites_rest r ∪ sites_rest q) (sites_rest s) → OwnSites (Beside mine r q) → Keeps s (beside_on mine r q)
beside_keeps mine s Done Done k h = ends s
beside_keeps mine s r q k h = (k, h)

chosen_keeps : (s : ℕ) (r : Rest) (bs : Branches) (e : Store) → Within (sites_branches bs) (sites_rest r) → BranchesHaveOwnSites bs → Keeps r (chosen s bs e)
chosen_keeps s r no_branches e h k = stops r s
chosen_keeps s r (branch b p bs) e h k = pick (holds b e) (begin p) (chosen s bs e)
    (keeps_begin p r (through {b = sites_branches (branch b p bs)} (within_left (sites p) (sites_branches bs)) h) k.0)
    (chosen_keeps s r bs e (through {b = sites_branches (branch b p bs)} (within_right (sites p) (sites_branches bs)) h) k.1)
  where
    pick : (o : Option Bool) (x y : Rest) → Keeps r x → Keeps r y → Keeps r (branch_on s o x y)
    pick (Some true) x y h k = h
    pick (Some false) x y h k = k
    pick None x y h k = stops r s

guard_keeps : {gs : Guards} {n c v : ℕ} {b : Test} {p : Proc} → GuardAt gs n b c v p → GuardsHaveOwnSites gs → Within (sites p) (sites_guards gs) × HasOwnSites p
guard_keeps (first {p = p} {gs = gs}) h = (within_left (sites p) (sites_guards gs), h.0)
guard_keeps (later {p = p} {p' = q} {gs = gs} g) h =
    let n = guard_keeps g h.1 in
    (through {b = sites_guards gs} n.0 (within_right (sites p) (sites_guards gs)), n.1)

pub step_keeps : {r r' : Rest} {e e' : Store} {i : ℕ} {d : SiteAction} {m : List Comm} → Step r e i d m r' e' → OwnSites r → Keeps r r'
step_keeps (does_skip {s = s}) o = ends (Fresh (SKIP s))
step_keeps (does_empty_seq {s = s}) o = ends (Fresh (SEQ s no_parts))
step_keeps (does_empty_par {s = s}) o = ends (Fresh (PAR s no_parts))
step_keeps (does_assign {s = s} {v = v} {a = a} h) o = ends (Fresh (Assign s v a))
step_keeps (faults_assign {s = s} {v = v} {a = a} h) o = stops (Fresh (Assign s v a)) s
step_keeps (faults_out {s = s} {c = c} {a = a} h) o = stops (Fresh (Output s c a)) s
step_keeps (does_if {s = s} {bs = bs} {e = e}) o = chosen_keeps s (Fresh (IF s bs)) bs e (within_right (just s) (sites_branches bs)) o
step_keeps (does_turn {s = s} {b = b} {p = p} h) o =
    let w = within_right (just s) (sites p) in (
      within_both {a = sites_rest (begin p)} {b = sites_all (part (WHILE s b p) no_parts)} {c = just s ∪ sites p} (through {b = sites p} (begin_sites p) w)
          (within_both {a = just s ∪ sites p} {b = nothing} {c = just s ∪ sites p} (λ k h. h) (within_none (just s ∪ sites p))),
      (begin_own p o, (o, tt)),
    )
step_keeps (does_leave {s = s} {b = b} {p = p} h) o = ends (Fresh (WHILE s b p))
step_keeps (faults_while {s = s} {b = b} {p = p} h) o = stops (Fresh (WHILE s b p)) s
step_keeps (does_count {s = s} {v = v} {a = a} {k = k} {p = p} h) o =
    let w = within_right (just s) (sites p) in
    (within_both {a = sites_rest (begin p)} {b = sites p} {c = just s ∪ sites p} (through {b = sites p} (begin_sites p) w) w, (begin_own p o, o))
step_keeps (does_count_none {s = s} {v = v} {a = a} {k = k} {p = p} h) o = ends (Fresh (COUNT s v a k p))
step_keeps (faults_count {s = s} {v = v} {a = a} {k = k} {p = p} h) o = stops (Fresh (COUNT s v a k p)) s
step_keeps (does_offer h) o = (λ k e. e, tt)
step_keeps (does_finish {s = s} {c = c}) o = ends (Finishing s c)
step_keeps (does_input {s = s} {c = c} {v = v} h) o = ends (Fresh (Input s c v))
step_keeps waits_input o = (λ k e. e, tt)
step_keeps (gets {s = s} {c = c} {v = v} h) o = ends (Getting s c v)
step_keeps (does_stop {s = s} {c = c}) o = ends (Fresh (StopChan s c))
step_keeps (does_choose {s = s} {p = p} {gs = gs} dec g h k) o =
    let n = guard_keeps g o in
    keeps_begin p (Fresh (ALT s gs)) (through {b = sites_guards gs} n.0 (within_right (just s) (sites_guards gs))) n.1
step_keeps (waits_choose {s = s} {p = p} {gs = gs} dec g h) o =
    let n = guard_keeps g o in (
      joined {a = just s} {b = sites_all (part p no_parts)} {c = just s} {d = sites_guards gs} (λ k e. e)
          (within_both {a = sites p} {b = nothing} {c = sites_guards gs} n.0 (within_none (sites_guards gs))),
      (tt, (n.1, tt)),
    )
step_keeps (in_then {r = r} {r' = r'} {ps = ps} st) o = then_keeps r r' ps (step_keeps st o.0) o.1
step_keeps (in_turns {r = r} {r' = r'} {v = v} {b = b} {n = n} {p = p} st) o = turns_keeps r r' v b n p (step_keeps st o.0) o.1
step_keeps (in_left {r = r} {r' = r'} {q = q} {mine = mine} st) o =
    let n = step_keeps st o.1 in
    beside_keeps mine (Beside mine r q) r' q (joined {a = sites_rest r'} {b = sites_rest q} {c = sites_rest r} {d = sites_rest q} n.0 (λ k e. e))
    (apart_within {a = sites_rest r'} {b = sites_rest q} {c = sites_rest r} {d = sites_rest q} n.0 (λ k e. e) o.0, n.1, o.2)
step_keeps (in_right {r = r} {q = q} {q' = q'} {mine = mine} st) o =
    let n = step_keeps st o.2 in
    beside_keeps mine (Beside mine r q) r q' (joined {a = sites_rest r} {b = sites_rest q'} {c = sites_rest r} {d = sites_rest q} (λ k e. e) n.0)
    (apart_within {a = sites_rest r} {b = sites_rest q'} {c = sites_rest r} {d = sites_rest q} (λ k e. e) n.0 o.0, o.1, n.1)

pub steps_keep : (s s' : State) (i : ℕ) (d : SiteAction) (ks : List Comm) → StepsTo s i d ks s' → OwnSites s.rest → OwnSites s'.rest
steps_keep s s' i d ks h o = (step_keeps h o).1

meets_keeps : {s t u s' : Rest} {e f g e' : Store} {ks ls ms : List Comm} {i j n : ℕ} {a b c : SiteAction} → Step s e i a ks t f → Step t f j b ls u g → Step u g n c ms s' e' → OwnSites s → OwnSites s'
meets_keeps a b c o = (step_keeps c (step_keeps b (step_keeps a o).1).1).1

pub doing_keeps : (s s' : State) (d : ProcessStep) (ks : List Comm) → Does s d ks s' → OwnSites s.rest → OwnSites s'.rest
doing_keeps s s' (Offers i c m) ks h o = (step_keeps h.3 o).1
doing_keeps s s' (Wants i c (Some m)) ks h o = (step_keeps h.2 o).1
doing_keeps s s' (Chooses i k c (Some m)) ks h o = (step_keeps h.2 o).1
doing_keeps s s' (Meets i j k c m) ks h o = meets_keeps h.6 h.7 h.8 o
doing_keeps s s' (Finishes c) ks h o = (step_keeps h.2 o).1
doing_keeps s s' (Receives c m) ks h o = (step_keeps h.3 o).1
doing_keeps s s' d ks h o = (step_keeps h.1 o).1

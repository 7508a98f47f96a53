-- No step loses lawful use.
use Rattle.std.proofs.Common.{◌≡◌, ℕ, zero, suc, ℤ, Bool, true, false, sym, subst, List, ◌∷◌, ◌++◌, Option, Some, None, ◌⊎◌, inl, inr, ◌||◌, ◌&&◌}
use Rattle.vc_occam.specs.SiteActions.{SiteAction}
use Rattle.vc_process.specs.Syntax.{Test, Proc, Assign, Output, SEQ, PAR, IF, WHILE, COUNT, ALT, Procs, no_parts, part, Branches, no_branches, branch, Guards, no_guards, guard}
use Rattle.vc_process.specs.Values.{Store, holds}
use Rattle.vc_process.specs.Usage.{Set, just, ◌∪◌, in_exp, in_test, in_given, changes, changes_all, changes_branches, changes_guards, uses, uses_all, uses_branches, uses_guards}
use Rattle.vc_process.specs.Lawful.{outputs, outputs_all, inputs, inputs_all, With, SideBySide, Lawfully, LawfullyAll, LawfullyBranches, LawfullyGuards}
use Rattle.vc_occam.specs.Traces.{Comm, Fin, In, End}
use Rattle.vc_occam.specs.Remains.{Rest, Done, Then, Turns, Beside, and_then, begin, begin_seq, begin_par, begin_all, then_on, turns_on, beside_on, branch_on, chosen, GuardAt, first, later, Step, does_if, does_turn, does_count, does_choose, waits_choose, in_then, in_turns, in_left, in_right, changes_rest, uses_rest, Apart, KeepsVariablesApart, TraceRest}
use Rattle.vc_occam.specs.Sites.{Disjoint}
use Rattle.vc_occam.specs.States.{State, StepsTo, Does, IsTraced}
use Rattle.vc_process.specs.ProcessStep.{ProcessStep, Offers, Wants, Chooses, Meets, Finishes, Receives}
use Rattle.vc_occam.proofs.Sites.{Within, either, not_true, clash}
use Rattle.vc_occam.proofs.Law.{law}
use Rattle.vc_occam.proofs.Stores.{or_left, or_right}
use Rattle.vc_occam.specs.InUse.{outputs_rest, inputs_rest, UseApart, UsesLawfully}
use Rattle.vc_occam.proofs.UseBounds.{IsPart, of_rest, begin_in, begin_all_in, step_in}

or_both : (a b c d : Bool) → (a ≡ true → c ≡ true) → (b ≡ true → d ≡ true) → (a || b) ≡ true → (c || d) ≡ true
or_both a b c d h j e = elim (either a b e) [ inl l ↦ or_left c d (h l) | inr r ↦ or_right c d (j r) ]

-- what a process changes it uses
mutual
  used : (p : Proc) → Within (changes p) (uses p)
  used (Assign i v a) = λ k h. or_left (just v k) (in_given a k) h
  used (Output i c a) = λ k h. absurd (let e : false ≡ true = h in cc)
  used (SEQ i ps) = all_used ps
  used (PAR i ps) = all_used ps
  used (IF i bs) = branches_used bs
  used (WHILE i b p) = λ k h. or_right (in_test b k) (uses p k) (used p k h)
  used (COUNT i v a n p) = λ k h. or_both (just v k) (changes p k) ((just v ∪ (in_exp a ∪ in_exp n)) k) (uses p k) (or_left (just v k) ((in_exp a ∪ in_exp n) k)) (used p k) h
  used (ALT i gs) = guards_used gs
  used p = λ k h. h

  all_used : (ps : Procs) → Within (changes_all ps) (uses_all ps)
  all_used no_parts = λ k h. h
  all_used (part p ps) = λ k h. or_both (changes p k) (changes_all ps k) (uses p k) (uses_all ps k) (used p k) (all_used ps k) h

  branches_used : (bs : Branches) → Within (changes_branches bs) (uses_branches bs)
  branches_used no_branches = λ k h. h
  branches_used (branch b p bs) = λ k h. or_both (changes p k) (changes_branches bs k) ((in_test b ∪ uses p) k) (uses_branches bs k) (λ e. or_right (in_test b k) (uses p k) (used p k e)) (branches_used bs k) h

  guards_used : (gs : Guards) → Within (changes_guards gs) (uses_guards gs)
  guards_used no_guards = λ k h. h
  guards_used (guard b c v p gs) = λ k h. or_both ((just v ∪ changes p) k) (changes_guards gs k) ((just v ∪ in_test b ∪ uses p) k) (uses_guards gs k)
      (λ e. or_both (just v k) (changes p k) ((just v ∪ in_test b) k) (uses p k) (or_left (just v k) (in_test b k)) (used p k) e) (guards_used gs k) h

and_true : (a b : Bool) → a ≡ true → b ≡ true → (a && b) ≡ true
and_true true b h k = k
and_true false b h k = absurd (let e : false ≡ true = h in cc)

-- k is in the set f of this part, and in the set g of one of the others; or the other way round
module _ (f g : Proc → Set) (k : ℕ) (p : Proc) where
  with_one : (all : Procs → Set) → (all no_parts k ≡ true → ⊥) → ((q : Proc) (ps : Procs) → all (part q ps) k ≡ true → (g q k ≡ true) ⊎ (all ps k ≡ true)) →
      (ps : Procs) → f p k ≡ true → all ps k ≡ true → With f g k p ps
  with_one all none or no_parts h i = absurd (none i)
  with_one all none or (part q ps) h i = elim (or q ps i) [
    | inl l ↦ inl (or_left (f p k && g q k) (g p k && f q k) (and_true (f p k) (g q k) h l))
    | inr r ↦ inr (with_one all none or ps h r)
  ]

  with_other : (all : Procs → Set) → (all no_parts k ≡ true → ⊥) → ((q : Proc) (ps : Procs) → all (part q ps) k ≡ true → (f q k ≡ true) ⊎ (all ps k ≡ true)) →
      (ps : Procs) → g p k ≡ true → all ps k ≡ true → With f g k p ps
  with_other all none or no_parts h i = absurd (none i)
  with_other all none or (part q ps) h i = elim (or q ps i) [
    | inl l ↦ inl (or_right (f p k && g q k) (g p k && f q k) (and_true (g p k) (f q k) h l))
    | inr r ↦ inr (with_other all none or ps h r)
  ]

nothing_in : false ≡ true → ⊥
nothing_in h = cc

changed_here : (p : Proc) (ps : Procs) (v : ℕ) → changes p v ≡ true → uses_all ps v ≡ true → With changes uses v p ps
changed_here p ps v h k = with_one changes uses v p uses_all nothing_in (λ q qs e. either (uses q v) (uses_all qs v) e) ps h k

changed_there : (p : Proc) (ps : Procs) (v : ℕ) → uses p v ≡ true → changes_all ps v ≡ true → With changes uses v p ps
changed_there p ps v h k = with_other changes uses v p changes_all nothing_in (λ q qs e. either (changes q v) (changes_all qs v) e) ps h k

output_twice : (p : Proc) (ps : Procs) (c : ℕ) → outputs p c ≡ true → outputs_all ps c ≡ true → With outputs outputs c p ps
output_twice p ps c h k = with_one outputs outputs c p outputs_all nothing_in (λ q qs e. either (outputs q c) (outputs_all qs c) e) ps h k

input_twice : (p : Proc) (ps : Procs) (c : ℕ) → inputs p c ≡ true → inputs_all ps c ≡ true → With inputs inputs c p ps
input_twice p ps c h k = with_one inputs inputs c p inputs_all nothing_in (λ q qs e. either (inputs q c) (inputs_all qs c) e) ps h k

variables_apart : (p : Proc) (ps : Procs) → SideBySide (part p ps) → Apart (changes p) (begin p) (begin_all ps)
variables_apart p ps s = record {
  left = λ v h.
      (let own = (begin_in p).changed v h in
      (own, not_true (uses_rest (begin_all ps) v) (λ u. s.2 v (inl (changed_here p ps v own ((begin_all_in ps).used v u))))));
  right = λ v h.
      (let own = (begin_all_in ps).changed v h in (
        not_true (changes p v) (λ c. s.2 v (inl (changed_there p ps v (used p v c) own))),
        not_true (uses_rest (begin p) v) (λ u. s.2 v (inl (changed_there p ps v ((begin_in p).used v u) own))),
      ));
}

begins_apart : (p : Proc) (ps : Procs) → SideBySide (part p ps) → UseApart (changes p) (begin p) (begin_all ps)
begins_apart p ps s = record {
  outputs = λ c h. not_true (outputs_rest (begin_all ps) c) (λ o. s.0 c (inl (output_twice p ps c ((begin_in p).output c h) ((begin_all_in ps).output c o))));
  inputs = λ c h. not_true (inputs_rest (begin_all ps) c) (λ o. s.1 c (inl (input_twice p ps c ((begin_in p).input c h) ((begin_all_in ps).input c o))));
  variables = variables_apart p ps s;
}

-- the others may run side by side too
others : (p : Proc) (ps : Procs) → SideBySide (part p ps) → SideBySide ps
others p ps s = (λ k e. s.0 k (inr e), λ k e. s.1 k (inr e), λ k e. s.2 k (inr e))

unused : (a b : Bool) → (a ≡ true → b ≡ true) → b ≡ false → a ≡ false
unused a b h k = not_true a (λ e. clash (h e) k)

and_then_uses : (r : Rest) (ps : Procs) → UsesLawfully r → LawfullyAll ps → UsesLawfully (and_then r ps)
and_then_uses r no_parts h k = h
and_then_uses r (part p ps) h k = (h, k)

mutual
  pub begins : (p : Proc) → Lawfully p → UsesLawfully (begin p)
  begins (SEQ i ps) h = begins_seq i ps h
  begins (PAR i ps) h = begins_par i ps h.0 h.1
  begins (IF i bs) h = h
  begins (WHILE i b p) h = h
  begins (COUNT i v a n p) h = h
  begins (ALT i gs) h = h
  begins p h = tt

  begins_seq : (i : ℕ) (ps : Procs) → LawfullyAll ps → UsesLawfully (begin_seq i ps)
  begins_seq i no_parts h = tt
  begins_seq i (part p ps) h = and_then_uses (begin p) ps (begins p h.0) h.1

  begins_par : (i : ℕ) (ps : Procs) → SideBySide ps → LawfullyAll ps → UsesLawfully (begin_par i ps)
  begins_par i no_parts s h = ((λ k e. absurd e, λ k e. absurd e, λ k e. absurd e), tt)
  begins_par i (part p ps) s h = (begins_apart p ps s, begins p h.0, begins_all ps (others p ps s) h.1)

  begins_all : (ps : Procs) → SideBySide ps → LawfullyAll ps → UsesLawfully (begin_all ps)
  begins_all no_parts s h = tt
  begins_all (part p ps) s h = (begins_apart p ps s, begins p h.0, begins_all ps (others p ps s) h.1)

pub apart_left : (mine : Set) (r r' q : Rest) → IsPart (of_rest r') (of_rest r) → Apart mine r q → Apart mine r' q
apart_left mine r r' q n a = record {
  left = λ v h. a.left v (n.changed v h);
  right = λ v h. ((a.right v h).0, unused (uses_rest r' v) (uses_rest r v) (n.used v) (a.right v h).1);
}

pub apart_right : (mine : Set) (r q q' : Rest) → IsPart (of_rest q') (of_rest q) → Apart mine r q → Apart mine r q'
apart_right mine r q q' n a = record {
  left = λ v h. ((a.left v h).0, unused (uses_rest q' v) (uses_rest q v) (n.used v) (a.left v h).1);
  right = λ v h. a.right v (n.changed v h);
}

disjoint_left : (a b c : Set) → Within b a → Disjoint a c → Disjoint b c
disjoint_left a b c w d k h = d k (w k h)

disjoint_right : (a b c : Set) → Within c b → Disjoint a b → Disjoint a c
disjoint_right a b c w d k h = unused (c k) (b k) (w k) (d k h)

use_left : (mine : Set) (r r' q : Rest) → IsPart (of_rest r') (of_rest r) → UseApart mine r q → UseApart mine r' q
use_left mine r r' q n a = record {
  outputs = disjoint_left (outputs_rest r) (outputs_rest r') (outputs_rest q) n.output a.outputs;
  inputs = disjoint_left (inputs_rest r) (inputs_rest r') (inputs_rest q) n.input a.inputs;
  variables = apart_left mine r r' q n a.variables;
}

use_right : (mine : Set) (r q q' : Rest) → IsPart (of_rest q') (of_rest q) → UseApart mine r q → UseApart mine r q'
use_right mine r q q' n a = record {
  outputs = disjoint_right (outputs_rest r) (outputs_rest q) (outputs_rest q') n.output a.outputs;
  inputs = disjoint_right (inputs_rest r) (inputs_rest q) (inputs_rest q') n.input a.inputs;
  variables = apart_right mine r q q' n a.variables;
}

then_uses : (r : Rest) (ps : Procs) → UsesLawfully r → LawfullyAll ps → UsesLawfully (then_on r ps)
then_uses Done no_parts h k = tt
then_uses Done (part p ps) h k = and_then_uses (begin p) ps (begins p k.0) k.1
then_uses r ps h k = (h, k)

-- a body that begins keeps the index that it doesn't change
begin_keeps : (p : Proc) (v : ℕ) → changes p v ≡ false → changes_rest (begin p) v ≡ false
begin_keeps p v h = unused (changes_rest (begin p) v) (changes p v) ((begin_in p).changed v) h

turns_uses : (r : Rest) (v : ℕ) (b : ℤ) (n : ℕ) (p : Proc) → UsesLawfully r → changes_rest r v ≡ false → (changes p v ≡ false) × Lawfully p → UsesLawfully (turns_on r v b n p)
turns_uses Done v b zero p h i k = tt
turns_uses Done v b (suc n) p h i k = (begins p k.1, begin_keeps p v k.0, k.0, k.1)
turns_uses r v b n p h i k = (h, i, k.0, k.1)

beside_uses : (mine : Set) (r q : Rest) → UsesLawfully (Beside mine r q) → UsesLawfully (beside_on mine r q)
beside_uses mine Done Done h = tt
beside_uses mine r q h = h

chosen_uses : (s : ℕ) (bs : Branches) (e : Store) → LawfullyBranches bs → UsesLawfully (chosen s bs e)
chosen_uses s no_branches e h = tt
chosen_uses s (branch b p bs) e h = pick (holds b e) (begin p) (chosen s bs e) (begins p h.0) (chosen_uses s bs e h.1)
  where
    pick : (o : Option Bool) (x y : Rest) → UsesLawfully x → UsesLawfully y → UsesLawfully (branch_on s o x y)
    pick (Some true) x y h k = h
    pick (Some false) x y h k = k
    pick None x y h k = tt

guard_uses : {gs : Guards} {n c v : ℕ} {b : Test} {p : Proc} → GuardAt gs n b c v p → LawfullyGuards gs → Lawfully p
guard_uses first h = h.0
guard_uses (later g) h = guard_uses g h.1

pub step_uses : {r r' : Rest} {e e' : Store} {i : ℕ} {d : SiteAction} {m : List Comm} → Step r e i d m r' e' → UsesLawfully r → UsesLawfully r'
step_uses (does_if {s = s} {bs = bs} {e = e}) o = chosen_uses s bs e o
step_uses (does_turn {p = p} h) o = (begins p o, (o, tt))
step_uses (does_count {v = v} {p = p} h) o = (begins p o.1, begin_keeps p v o.0, o.0, o.1)
step_uses (does_choose {p = p} dec g h k) o = begins p (guard_uses g o)
step_uses (waits_choose dec g h) o = (tt, (guard_uses g o, tt))
step_uses (in_then {r' = r'} {ps = ps} st) o = then_uses r' ps (step_uses st o.0) o.1
step_uses (in_turns {r = r} {r' = r'} {v = v} {b = b} {n = n} {p = p} st) o = turns_uses r' v b n p (step_uses st o.0) (unused (changes_rest r' v) (changes_rest r v) ((step_in st).changed v) o.1) (o.2, o.3)
step_uses (in_left {r = r} {r' = r'} {q = q} {mine = mine} st) o = beside_uses mine r' q (use_left mine r r' q (step_in st) o.0, step_uses st o.1, o.2)
step_uses (in_right {r = r} {q = q} {q' = q'} {mine = mine} st) o = beside_uses mine r q' (use_right mine r q q' (step_in st) o.0, o.1, step_uses st o.2)
step_uses st o = tt

-- parts side by side are apart
pub lawful : (r : Rest) → UsesLawfully r → KeepsVariablesApart r
lawful (Then r ps) h = lawful r h.0
lawful (Turns r v b n p) h = lawful r h.0
lawful (Beside mine r q) h = (h.0.variables, lawful r h.1, lawful q h.2)
lawful r h = tt

pub steps_keep_use : (s s' : State) (i : ℕ) (d : SiteAction) (ks : List Comm) → StepsTo s i d ks s' → UsesLawfully s.rest → UsesLawfully s'.rest
steps_keep_use s s' i d ks h o = step_uses h o

pub doing_keeps_use : (s s' : State) (d : ProcessStep) (ks : List Comm) → Does s d ks s' → UsesLawfully s.rest → UsesLawfully s'.rest
doing_keeps_use s s' (Offers i c m) ks h o = step_uses h.3 o
doing_keeps_use s s' (Wants i c (Some m)) ks h o = step_uses h.2 o
doing_keeps_use s s' (Chooses i k c (Some m)) ks h o = step_uses h.2 o
doing_keeps_use s s' (Meets i j k c m) ks h o = step_uses h.8 (step_uses h.7 (step_uses h.6 o))
doing_keeps_use s s' (Finishes c) ks h o = step_uses h.2 o
doing_keeps_use s s' (Receives c m) ks h o = step_uses h.3 o
doing_keeps_use s s' d ks h o = step_uses h.1 o

step_traced : {r r' : Rest} {e e' : Store} {i : ℕ} {d : SiteAction} {m : List Comm} → Step r e i d m r' e' → UsesLawfully r → (t : List Comm) (x : End) → TraceRest r' e' t x → TraceRest r e (m ++ t) x
step_traced {r} st o t x h = law st (lawful r o) h

pub doing_is_traced : (s s' : State) (d : ProcessStep) (ks : List Comm) → Does s d ks s' → UsesLawfully s.rest → IsTraced s ks s'
doing_is_traced s s' (Offers i c m) ks h o = step_traced h.3 o
doing_is_traced s s' (Wants i c (Some m)) ks h o = step_traced h.2 o
doing_is_traced s s' (Chooses i k c (Some m)) ks h o = step_traced h.2 o
doing_is_traced s s' (Meets i j k c m) ks h o = λ t x q.
    (let a = step_uses h.6 o in
    subst (λ u. TraceRest s.rest s.store (u ++ t) x) (sym h.5)
    (step_traced h.6 o (In c h.1 ∷ Fin c ∷ t) x (step_traced h.7 a (Fin c ∷ t) x (step_traced h.8 (step_uses h.7 a) t x q))))
doing_is_traced s s' (Finishes c) ks h o = step_traced h.2 o
doing_is_traced s s' (Receives c m) ks h o = step_traced h.3 o
doing_is_traced s s' d ks h o = step_traced h.1 o

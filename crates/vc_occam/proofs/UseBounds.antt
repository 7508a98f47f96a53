-- What remains after a step changes and uses no more variables, and outputs and inputs on no more channels, than what remained before.
use Rattle.std.proofs.Common.{◌≡◌, ℕ, zero, suc, ℤ, Bool, true, false, List, Option, Some, None, inl, inr}
use Rattle.vc_occam.specs.SiteActions.{SiteAction}
use Rattle.vc_process.specs.Syntax.{Test, Proc, SKIP, Assign, Output, Input, StopChan, SEQ, PAR, IF, WHILE, COUNT, ALT, Procs, no_parts, part, Branches, no_branches, branch, Guards, guard}
use Rattle.vc_process.specs.Values.{Store, holds}
use Rattle.vc_process.specs.Usage.{Set, nothing, just, ◌∪◌, in_exp, in_test, changes, changes_all, changes_branches, changes_guards, uses, uses_all, uses_branches, uses_guards}
use Rattle.vc_occam.specs.Traces.{Comm}
use Rattle.vc_occam.specs.Remains.{Rest, Done, Finishing, Getting, Then, Turns, and_then, begin, begin_seq, begin_par, begin_all, then_on, turns_on, beside_on, branch_on, chosen, GuardAt, first, later, Step, does_skip, does_empty_seq, does_empty_par, does_assign, faults_assign, faults_out, does_if, does_turn, does_leave, faults_while, does_count, does_count_none, faults_count, does_offer, does_finish, does_input, waits_input, gets, does_stop, does_choose, waits_choose, in_then, in_turns, in_left, in_right, changes_rest, uses_rest}
use Rattle.vc_occam.specs.InUse.{outputs_rest, inputs_rest}
use Rattle.vc_process.specs.Lawful.{outputs, outputs_all, outputs_branches, outputs_guards, inputs, inputs_all, inputs_branches, inputs_guards}
use Rattle.vc_occam.proofs.Sites.{Within, either, within_left, within_right}

-- the variables that are changed and those that are used, the channels that are output on and those that are input on
pub record Use : Type 0 where
  pub changed : Set
  pub used : Set
  pub output : Set
  pub input : Set

abbrev pub of : Proc → Use
of p = record { changed = changes p; used = uses p; output = outputs p; input = inputs p }

abbrev pub of_all : Procs → Use
of_all ps = record { changed = changes_all ps; used = uses_all ps; output = outputs_all ps; input = inputs_all ps }

abbrev of_branches : Branches → Use
of_branches bs = record { changed = changes_branches bs; used = uses_branches bs; output = outputs_branches bs; input = inputs_branches bs }

abbrev of_guards : Guards → Use
of_guards gs = record { changed = changes_guards gs; used = uses_guards gs; output = outputs_guards gs; input = inputs_guards gs }

abbrev pub of_rest : Rest → Use
of_rest r = record { changed = changes_rest r; used = uses_rest r; output = outputs_rest r; input = inputs_rest r }

abbrev none : Use
none = record { changed = nothing; used = nothing; output = nothing; input = nothing }

-- an input on channel c to variable v; that before a body; and turns of a body with the index v
abbrev getting : ℕ → ℕ → Use
getting c v = record { changed = just v; used = just v; output = nothing; input = just c }

abbrev guarded : ℕ → ℕ → Proc → Use
guarded c v p = record { changed = just v ∪ changes p; used = just v ∪ uses p; output = outputs p; input = just c ∪ inputs p }

abbrev turning : ℕ → Proc → Use
turning v p = record { changed = just v ∪ changes p; used = just v ∪ uses p; output = outputs p; input = inputs p }

abbrev two : Use → Use → Use
two a b = record { changed = a.changed ∪ b.changed; used = a.used ∪ b.used; output = a.output ∪ b.output; input = a.input ∪ b.input }

-- the first is a part of the second
pub record IsPart (a b : Use) : Type 0 where
  pub changed : Within a.changed b.changed
  pub used : Within a.used b.used
  pub output : Within a.output b.output
  pub input : Within a.input b.input

itself : (a : Set) → Within a a
itself a k h = h

none_of : (a : Set) → Within nothing a
none_of a k h = absurd (let e : false ≡ true = h in cc)

either_of : (a b c : Set) → Within a c → Within b c → Within (a ∪ b) c
either_of a b c h j k e = elim (either (a k) (b k) e) [ inl l ↦ h k l | inr r ↦ j k r ]

then_of : (a b c : Set) → Within a b → Within b c → Within a c
then_of a b c h j k e = j k (h k e)

same : (a : Use) → IsPart a a
same a = record { changed = itself a.changed; used = itself a.used; output = itself a.output; input = itself a.input }

none_in : (a : Use) → IsPart none a
none_in a = record { changed = none_of a.changed; used = none_of a.used; output = none_of a.output; input = none_of a.input }

pub through : (a b c : Use) → IsPart a b → IsPart b c → IsPart a c
through a b c h j = record {
  changed = then_of a.changed b.changed c.changed h.changed j.changed;
  used = then_of a.used b.used c.used h.used j.used;
  output = then_of a.output b.output c.output h.output j.output;
  input = then_of a.input b.input c.input h.input j.input;
}

left : (a b : Use) → IsPart a (two a b)
left a b = record { changed = within_left a.changed b.changed; used = within_left a.used b.used; output = within_left a.output b.output; input = within_left a.input b.input }

right : (a b : Use) → IsPart b (two a b)
right a b = record { changed = within_right a.changed b.changed; used = within_right a.used b.used; output = within_right a.output b.output; input = within_right a.input b.input }

each : (a b c : Use) → IsPart a c → IsPart b c → IsPart (two a b) c
each a b c h j = record {
  changed = either_of a.changed b.changed c.changed h.changed j.changed;
  used = either_of a.used b.used c.used h.used j.used;
  output = either_of a.output b.output c.output h.output j.output;
  input = either_of a.input b.input c.input h.input j.input;
}

joined : (a b c d : Use) → IsPart a c → IsPart b d → IsPart (two a b) (two c d)
joined a b c d h j = each a b (two c d) (through a c (two c d) h (left c d)) (through b d (two c d) j (right c d))

and_then_in : (r : Rest) (a : Use) (ps : Procs) → IsPart (of_rest r) a → IsPart (of_rest (and_then r ps)) (two a (of_all ps))
and_then_in r a no_parts h = through (of_rest r) a (two a none) h (left a none)
and_then_in r a (part p ps) h = joined (of_rest r) (of_all (part p ps)) a (of_all (part p ps)) h (same (of_all (part p ps)))

-- a process begins with its own variables and channels
mutual
  pub begin_in : (p : Proc) → IsPart (of_rest (begin p)) (of p)
  begin_in (SEQ i ps) = begin_seq_in i ps
  begin_in (PAR i ps) = begin_par_in i ps
  begin_in (IF i bs) = same (of_branches bs)
  begin_in (ALT i gs) = same (of_guards gs)
  begin_in p = same (of p)

  begin_seq_in : (i : ℕ) (ps : Procs) → IsPart (of_rest (begin_seq i ps)) (of_all ps)
  begin_seq_in i no_parts = same none
  begin_seq_in i (part p ps) = and_then_in (begin p) (of p) ps (begin_in p)

  begin_par_in : (i : ℕ) (ps : Procs) → IsPart (of_rest (begin_par i ps)) (of_all ps)
  begin_par_in i no_parts = same none
  begin_par_in i (part p ps) = joined (of_rest (begin p)) (of_rest (begin_all ps)) (of p) (of_all ps) (begin_in p) (begin_all_in ps)

  pub begin_all_in : (ps : Procs) → IsPart (of_rest (begin_all ps)) (of_all ps)
  begin_all_in no_parts = same none
  begin_all_in (part p ps) = joined (of_rest (begin p)) (of_rest (begin_all ps)) (of p) (of_all ps) (begin_in p) (begin_all_in ps)

in_while : (s : ℕ) (b : Test) (p : Proc) → IsPart (of p) (of (WHILE s b p))
in_while s b p = record { changed = itself (changes p); used = within_right (in_test b) (uses p); output = itself (outputs p); input = itself (inputs p) }

in_turning : (v : ℕ) (p : Proc) → IsPart (of p) (turning v p)
in_turning v p = record { changed = within_right (just v) (changes p); used = within_right (just v) (uses p); output = itself (outputs p); input = itself (inputs p) }

in_count : (s v : ℕ) (a n : _) (p : Proc) → IsPart (turning v p) (of (COUNT s v a n p))
in_count s v a n p =
    let terms = in_exp a ∪ in_exp n in
    record {
      changed = itself (just v ∪ changes p);
      used = either_of (just v) (uses p) (just v ∪ terms ∪ uses p) (then_of (just v) (just v ∪ terms) (just v ∪ terms ∪ uses p) (within_left (just v) terms) (within_left (just v ∪ terms) (uses p)))
          (within_right (just v ∪ terms) (uses p));
      output = itself (outputs p);
      input = itself (inputs p);
    }

in_guarded : (c v : ℕ) (p : Proc) → IsPart (of p) (guarded c v p)
in_guarded c v p = record { changed = within_right (just v) (changes p); used = within_right (just v) (uses p); output = itself (outputs p); input = within_right (just c) (inputs p) }

guard_gets : (c v : ℕ) (p : Proc) → IsPart (getting c v) (guarded c v p)
guard_gets c v p = record { changed = within_left (just v) (changes p); used = within_left (just v) (uses p); output = none_of (outputs p); input = within_left (just c) (inputs p) }

guard_in : {gs : Guards} {n c v : ℕ} {b : Test} {p : Proc} → GuardAt gs n b c v p → IsPart (guarded c v p) (of_guards gs)
guard_in (first {b = b} {c = c} {v = v} {p = p} {gs = gs}) =
    let one = just v ∪ in_test b ∪ uses p in
    record {
      changed = within_left (just v ∪ changes p) (changes_guards gs);
      used = then_of (just v ∪ uses p) one (one ∪ uses_guards gs)
          (either_of (just v) (uses p) one (then_of (just v) (just v ∪ in_test b) one (within_left (just v) (in_test b)) (within_left (just v ∪ in_test b) (uses p))) (within_right (just v ∪ in_test b) (uses p)))
          (within_left one (uses_guards gs));
      output = within_left (outputs p) (outputs_guards gs);
      input = within_left (just c ∪ inputs p) (inputs_guards gs);
    }
guard_in (later {b = b} {c = c} {c' = c'} {v = v} {v' = w} {p = p} {p' = q} {gs = gs} g) =
    through (guarded c' w q) (of_guards gs) (of_guards (guard b c v p gs)) (guard_in g) (record {
      changed = within_right (just v ∪ changes p) (changes_guards gs);
      used = within_right (just v ∪ in_test b ∪ uses p) (uses_guards gs);
      output = within_right (outputs p) (outputs_guards gs);
      input = within_right (just c ∪ inputs p) (inputs_guards gs);
    })

chosen_in : (s : ℕ) (bs : Branches) (e : Store) → IsPart (of_rest (chosen s bs e)) (of_branches bs)
chosen_in s no_branches e = same none
chosen_in s (branch b p bs) e = pick (holds b e) (begin p) (chosen s bs e)
    (through (of_rest (begin p)) (of p) (of_branches (branch b p bs)) (begin_in p) (record {
      changed = within_left (changes p) (changes_branches bs);
      used = then_of (uses p) (in_test b ∪ uses p) (in_test b ∪ uses p ∪ uses_branches bs) (within_right (in_test b) (uses p)) (within_left (in_test b ∪ uses p) (uses_branches bs));
      output = within_left (outputs p) (outputs_branches bs);
      input = within_left (inputs p) (inputs_branches bs);
    }))
    (through (of_rest (chosen s bs e)) (of_branches bs) (of_branches (branch b p bs)) (chosen_in s bs e) (record {
      changed = within_right (changes p) (changes_branches bs);
      used = within_right (in_test b ∪ uses p) (uses_branches bs);
      output = within_right (outputs p) (outputs_branches bs);
      input = within_right (inputs p) (inputs_branches bs);
    }))
  where
    pick : (o : Option Bool) (x y : Rest) → IsPart (of_rest x) (of_branches (branch b p bs)) → IsPart (of_rest y) (of_branches (branch b p bs)) → IsPart (of_rest (branch_on s o x y)) (of_branches (branch b p bs))
    pick (Some true) x y h k = h
    pick (Some false) x y h k = k
    pick None x y h k = none_in (of_branches (branch b p bs))

then_in : (r r' : Rest) (ps : Procs) → IsPart (of_rest r') (of_rest r) → IsPart (of_rest (then_on r' ps)) (of_rest (Then r ps))
then_in r Done no_parts h = none_in (of_rest (Then r no_parts))
then_in r Done (part p ps) h = through (of_rest (and_then (begin p) ps)) (of_all (part p ps)) (of_rest (Then r (part p ps))) (and_then_in (begin p) (of p) ps (begin_in p)) (right (of_rest r) (of_all (part p ps)))
then_in r r' ps h = joined (of_rest r') (of_all ps) (of_rest r) (of_all ps) h (same (of_all ps))

turns_in : (r r' : Rest) (v : ℕ) (b : ℤ) (n : ℕ) (p : Proc) → IsPart (of_rest r') (of_rest r) → IsPart (of_rest (turns_on r' v b n p)) (of_rest (Turns r v b n p))
turns_in r Done v b zero p h = none_in (of_rest (Turns r v b zero p))
turns_in r Done v b (suc n) p h =
    let more = turning v p in
    let whole = two (of_rest r) more in
    each (of_rest (begin p)) more whole (through (of_rest (begin p)) (of p) whole (begin_in p) (through (of p) more whole (in_turning v p) (right (of_rest r) more))) (right (of_rest r) more)
turns_in r r' v b n p h = joined (of_rest r') (turning v p) (of_rest r) (turning v p) h (same (turning v p))

beside_in : (mine : Set) (r q : Rest) (a : Use) → IsPart (two (of_rest r) (of_rest q)) a → IsPart (of_rest (beside_on mine r q)) a
beside_in mine Done Done a h = none_in a
beside_in mine r q a h = h

in_output : (s c : ℕ) (a : _) → IsPart (of_rest (Finishing s c)) (of (Output s c a))
in_output s c a = record { changed = itself nothing; used = none_of (uses (Output s c a)); output = itself (just c); input = itself nothing }

pub step_in : {r r' : Rest} {e e' : Store} {i : ℕ} {d : SiteAction} {m : List Comm} → Step r e i d m r' e' → IsPart (of_rest r') (of_rest r)
step_in (does_skip {s = s}) = none_in (of (SKIP s))
step_in (does_empty_seq {s = s}) = none_in (of (SEQ s no_parts))
step_in (does_empty_par {s = s}) = none_in (of (PAR s no_parts))
step_in (does_assign {s = s} {v = v} {a = a} h) = none_in (of (Assign s v a))
step_in (faults_assign {s = s} {v = v} {a = a} h) = none_in (of (Assign s v a))
step_in (faults_out {s = s} {c = c} {a = a} h) = none_in (of (Output s c a))
step_in (does_if {s = s} {bs = bs} {e = e}) = chosen_in s bs e
step_in (does_turn {s = s} {b = b} {p = p} h) =
    let whole = of (WHILE s b p) in
    each (of_rest (begin p)) (two whole none) whole (through (of_rest (begin p)) (of p) whole (begin_in p) (in_while s b p)) (each whole none whole (same whole) (none_in whole))
step_in (does_leave {s = s} {b = b} {p = p} h) = none_in (of (WHILE s b p))
step_in (faults_while {s = s} {b = b} {p = p} h) = none_in (of (WHILE s b p))
step_in (does_count {s = s} {v = v} {a = a} {k = k} {p = p} h) =
    let more = turning v p in
    let whole = of (COUNT s v a k p) in
    let rest = in_count s v a k p in
    each (of_rest (begin p)) more whole (through (of_rest (begin p)) (of p) whole (begin_in p) (through (of p) more whole (in_turning v p) rest)) rest
step_in (does_count_none {s = s} {v = v} {a = a} {k = k} {p = p} h) = none_in (of (COUNT s v a k p))
step_in (faults_count {s = s} {v = v} {a = a} {k = k} {p = p} h) = none_in (of (COUNT s v a k p))
step_in (does_offer {s = s} {c = c} {a = a} h) = in_output s c a
step_in (does_finish {s = s} {c = c}) = none_in (of_rest (Finishing s c))
step_in (does_input {s = s} {c = c} {v = v} h) = none_in (of (Input s c v))
step_in (waits_input {s = s} {c = c} {v = v}) = same (of (Input s c v))
step_in (gets {s = s} {c = c} {v = v} h) = none_in (of_rest (Getting s c v))
step_in (does_stop {s = s} {c = c}) = none_in (of (StopChan s c))
step_in (does_choose {c = c} {v = v} {p = p} {gs = gs} dec g h k) =
    through (of_rest (begin p)) (of p) (of_guards gs) (begin_in p) (through (of p) (guarded c v p) (of_guards gs) (in_guarded c v p) (guard_in g))
step_in (waits_choose {c = c} {v = v} {p = p} {gs = gs} dec g h) =
    let whole = guarded c v p in
    through (two (getting c v) (two (of p) none)) whole (of_guards gs) (each (getting c v) (two (of p) none) whole (guard_gets c v p) (each (of p) none whole (in_guarded c v p) (none_in whole))) (guard_in g)
step_in (in_then {r = r} {r' = r'} {ps = ps} st) = then_in r r' ps (step_in st)
step_in (in_turns {r = r} {r' = r'} {v = v} {b = b} {n = n} {p = p} st) = turns_in r r' v b n p (step_in st)
step_in (in_left {r = r} {r' = r'} {q = q} {mine = mine} st) =
    beside_in mine r' q (two (of_rest r) (of_rest q)) (joined (of_rest r') (of_rest q) (of_rest r) (of_rest q) (step_in st) (same (of_rest q)))
step_in (in_right {r = r} {q = q} {q' = q'} {mine = mine} st) =
    beside_in mine r q' (two (of_rest r) (of_rest q)) (joined (of_rest r) (of_rest q') (of_rest r) (of_rest q) (same (of_rest r)) (step_in st))

-- A process uses what it changes.
use Rattle.std.proofs.Common.{◌≡◌, ℕ, Bool, true, false, ◌||◌, refl}
use Rattle.vc_process.specs.Syntax.{Proc, Assign, Input, SEQ, PAR, IF, WHILE, COUNT, ALT, Procs, no_parts, part, Branches, no_branches, branch, Guards, no_guards, guard}
use Rattle.vc_process.specs.Usage.{◌∪◌, just, in_exp, in_test, in_given, changes, changes_all, changes_branches, changes_guards, uses, uses_all, uses_branches, uses_guards}
use Rattle.vc_occam.proofs.Stores.{or_left, or_right}

or_both : (a b c d : Bool) → (a ≡ true → c ≡ true) → (b ≡ true → d ≡ true) → (a || b) ≡ true → (c || d) ≡ true
or_both true b c d f g h = or_left c d (f refl)
or_both false b c d f g h = or_right c d (g h)

mutual
  pub changed_used : (p : Proc) (v : ℕ) → changes p v ≡ true → uses p v ≡ true
  changed_used (Assign i w a) v h = or_left (just w v) (in_given a v) h
  changed_used (Input i c w) v h = h
  changed_used (SEQ i ps) v h = all_changed_used ps v h
  changed_used (PAR i ps) v h = all_changed_used ps v h
  changed_used (IF i bs) v h = branches_changed_used bs v h
  changed_used (WHILE i t p) v h = or_right (in_test t v) (uses p v) (changed_used p v h)
  changed_used (COUNT i w a n p) v h = or_both (just w v) (changes p v) ((just w ∪ (in_exp a ∪ in_exp n)) v) (uses p v) (or_left (just w v) ((in_exp a ∪ in_exp n) v)) (changed_used p v) h
  changed_used (ALT i gs) v h = guards_changed_used gs v h
  changed_used p v h = absurd (cc)

  all_changed_used : (ps : Procs) (v : ℕ) → changes_all ps v ≡ true → uses_all ps v ≡ true
  all_changed_used no_parts v h = absurd (cc)
  all_changed_used (part p ps) v h = or_both (changes p v) (changes_all ps v) (uses p v) (uses_all ps v) (changed_used p v) (all_changed_used ps v) h

  branches_changed_used : (bs : Branches) (v : ℕ) → changes_branches bs v ≡ true → uses_branches bs v ≡ true
  branches_changed_used no_branches v h = absurd (cc)
  branches_changed_used (branch t p bs) v h = or_both (changes p v) (changes_branches bs v) ((in_test t ∪ uses p) v) (uses_branches bs v) (λ g. or_right (in_test t v) (uses p v) (changed_used p v g)) (branches_changed_used bs v) h

  guards_changed_used : (gs : Guards) (v : ℕ) → changes_guards gs v ≡ true → uses_guards gs v ≡ true
  guards_changed_used no_guards v h = absurd (cc)
  guards_changed_used (guard t c w p gs) v h =
      or_both ((just w ∪ changes p) v) (changes_guards gs v) ((just w ∪ in_test t ∪ uses p) v) (uses_guards gs v)
      (or_both (just w v) (changes p v) ((just w ∪ in_test t) v) (uses p v) (or_left (just w v) (in_test t v)) (changed_used p v)) (guards_changed_used gs v) h

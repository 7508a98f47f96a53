-- A step reads only the variables that what remains uses: over variables that hold the same there, the same step is made.
use Rattle.std.proofs.Common.{◌≡◌, ℕ, zero, suc, ℤ, pos, true, false, not, refl, sym, ap, ap₂, subst, ◌∙◌, List, [], ◌∷◌, ◌++◌, length, Some, option_and_then, if◌then◌else◌, eq-eqb}
use Rattle.vc_process.specs.declared.datum.Datum.{Datum}
use Rattle.vc_process.specs.declared.datum.Datum.TheVariants as datum
use Rattle.vc_occam.specs.SiteActions.{SiteAction, Quiet}
use Rattle.vc_process.specs.Messages.{received}
use Rattle.vc_process.specs.Syntax.{Exp, Number, Variable, Binary, SizeOf, Test, Constant, Compare, Both, Either, Negate, Literal, Contents, Filled, Given, Whole, Bytes, Proc, IF, Branches, no_branches, branch, Guards, no_guards, guard}
use Rattle.vc_process.specs.Values.{Store, whole_of, bytes_of, with_both, result, compares, within, value_of, holds, datum_of}
use Rattle.vc_process.specs.Usage.{Set, ◌∪◌, just, in_exp, in_test, in_given, changes, changes_all, changes_guards, uses, uses_all, uses_branches, uses_guards}
use Rattle.vc_occam.specs.Traces.{Comm, set, Counts, Decided}
use Rattle.vc_occam.specs.Remains.{Rest, Done, Fresh, Turns, begin, turns_on, index_on, branch_on, chosen, GuardAt, first, later, Step, does_skip, does_empty_seq, does_empty_par, does_assign, faults_assign, faults_out, does_if, does_turn, does_leave, faults_while, does_count, does_count_none, faults_count, does_offer, does_finish, does_input, waits_input, gets, does_stop, does_choose, waits_choose, in_then, in_turns, in_left, in_right, changes_rest, uses_rest}
use Rattle.vc_occam.proofs.Stores.{or_left, or_right}

-- these variables hold the same in both
abbrev pub Alike : Set → Store → Store → Type 0
Alike s e h = (v : ℕ) → s v ≡ true → h v ≡ e v

pub first_alike : (a b : Set) (e h : Store) → Alike (a ∪ b) e h → Alike a e h
first_alike a b e h g v t = g v (or_left (a v) (b v) t)

pub second_alike : (a b : Set) (e h : Store) → Alike (a ∪ b) e h → Alike b e h
second_alike a b e h g v t = g v (or_right (a v) (b v) t)

one_alike : (v : ℕ) (e h : Store) → Alike (just v) e h → h v ≡ e v
one_alike v e h g = g v (eq-eqb v v refl)

module _ (e h : Store) where
  value_alike : (a : Exp) → Alike (in_exp a) e h → value_of a h ≡ value_of a e
  value_alike (Number z) g = refl
  value_alike (Variable v) g = ap (λ x. Some (whole_of x)) (one_alike v e h g)
  value_alike (Binary op a b) g = ap₂ (λ x y. with_both x y (result op)) (value_alike a (first_alike (in_exp a) (in_exp b) e h g)) (value_alike b (second_alike (in_exp a) (in_exp b) e h g))
  value_alike (SizeOf v) g = ap (λ x. within (pos (length (bytes_of x)))) (one_alike v e h g)

  holds_alike : (a : Test) → Alike (in_test a) e h → holds a h ≡ holds a e
  holds_alike (Constant b) g = refl
  holds_alike (Compare rel a b) g = ap₂ (λ x y. with_both x y (λ i j. Some (compares rel i j))) (value_alike a (first_alike (in_exp a) (in_exp b) e h g)) (value_alike b (second_alike (in_exp a) (in_exp b) e h g))
  holds_alike (Both a b) g = ap₂ (λ x y. option_and_then (λ z. if z then y else Some false) x) (holds_alike a (first_alike (in_test a) (in_test b) e h g)) (holds_alike b (second_alike (in_test a) (in_test b) e h g))
  holds_alike (Either a b) g = ap₂ (λ x y. option_and_then (λ z. if z then Some true else y) x) (holds_alike a (first_alike (in_test a) (in_test b) e h g)) (holds_alike b (second_alike (in_test a) (in_test b) e h g))
  holds_alike (Negate a) g = ap (option_and_then (λ x. Some (not x))) (holds_alike a g)

  datum_alike : (a : Given) → Alike (in_given a) e h → datum_of a h ≡ datum_of a e
  datum_alike (Whole a) g = ap (option_and_then (λ z. Some (datum.Int z))) (value_alike a g)
  datum_alike (Bytes (Literal xs)) g = refl
  datum_alike (Bytes (Contents v)) g = ap (λ x. Some (datum.Bytes (bytes_of x))) (one_alike v e h g)
  datum_alike (Bytes (Filled b n)) g = refl

  counts_alike : (a k : Exp) (b : ℤ) (n : ℕ) → Alike (in_exp a ∪ in_exp k) e h → Counts (value_of a e) (value_of k e) b n → Counts (value_of a h) (value_of k h) b n
  counts_alike a k b n g c = (value_alike a (first_alike (in_exp a) (in_exp k) e h g) ∙ c.0, value_alike k (second_alike (in_exp a) (in_exp k) e h g) ∙ c.1, c.2)

  counts_back : (a k : Exp) (b : ℤ) (n : ℕ) → Alike (in_exp a ∪ in_exp k) e h → Counts (value_of a h) (value_of k h) b n → Counts (value_of a e) (value_of k e) b n
  counts_back a k b n g c = (sym (value_alike a (first_alike (in_exp a) (in_exp k) e h g)) ∙ c.0, sym (value_alike k (second_alike (in_exp a) (in_exp k) e h g)) ∙ c.1, c.2)

  decided_alike : (gs : Guards) → Alike (uses_guards gs) e h → Decided gs e → Decided gs h
  decided_alike no_guards g d = tt
  decided_alike (guard b c v p gs) g d =
      let one = first_alike (just v ∪ in_test b ∪ uses p) (uses_guards gs) e h g in
      let head = first_alike (just v ∪ in_test b) (uses p) e h one in
      (λ f. d.0 (sym (holds_alike b (second_alike (just v) (in_test b) e h head)) ∙ f), decided_alike gs (second_alike (just v ∪ in_test b ∪ uses p) (uses_guards gs) e h g) d.1)

  chosen_alike : (s : ℕ) (bs : Branches) → Alike (uses_branches bs) e h → chosen s bs e ≡ chosen s bs h
  chosen_alike s no_branches g = refl
  chosen_alike s (branch b p bs) g =
      let one = first_alike (in_test b ∪ uses p) (uses_branches bs) e h g in
      ap₂ (λ o r. branch_on s o (begin p) r) (sym (holds_alike b (first_alike (in_test b) (uses p) e h one))) (chosen_alike s bs (second_alike (in_test b ∪ uses p) (uses_branches bs) e h g))

  -- the condition and the variable of a guard
  guard_alike : {gs : Guards} {k c v : ℕ} {b : Test} {p : Proc} → GuardAt gs k b c v p → Alike (uses_guards gs) e h → (holds b h ≡ holds b e) × (h v ≡ e v)
  guard_alike (first {b = b} {v = v} {p = p} {gs = gs}) g =
      let head = first_alike (just v ∪ in_test b) (uses p) e h (first_alike (just v ∪ in_test b ∪ uses p) (uses_guards gs) e h g) in
      (holds_alike b (second_alike (just v) (in_test b) e h head), one_alike v e h (first_alike (just v) (in_test b) e h head))
  guard_alike (later {b = b} {v = v} {p = p} {gs = gs} at) g = guard_alike at (second_alike (just v ∪ in_test b ∪ uses p) (uses_guards gs) e h g)

-- what a step writes, in turn
abbrev pub Written : Type 0
Written = List (ℕ × Datum)

abbrev pub write : Written → Store → Store
write [] e = e
write (w ∷ ws) e = write ws (set e w.0 w.1)

abbrev pub AllIn : Set → Written → Type 0
AllIn s [] = Unit {0}
AllIn s (w ∷ ws) = (s w.0 ≡ true) × AllIn s ws

pub all_wider : (a b : Set) (ws : Written) → ((v : ℕ) → a v ≡ true → b v ≡ true) → AllIn a ws → AllIn b ws
all_wider a b [] w h = tt
all_wider a b (x ∷ ws) w h = (w x.0 h.0, all_wider a b ws w h.1)

-- over the variables h the same step is made, which writes the same
pub record IsLike (r : Rest) (e : Store) (i : ℕ) (d : SiteAction) (m : List Comm) (r' : Rest) (e' h : Store) : Type 0 where
  pub written : Written
  pub changed : AllIn (changes_rest r) written
  pub there : e' ≡ write written e
  pub step : Step r h i d m r' (write written h)

like_none : {r : Rest} {e : Store} {i : ℕ} {d : SiteAction} {m : List Comm} {r' : Rest} {h : Store} → Step r h i d m r' h → IsLike r e i d m r' e h
like_none st = record { written = []; changed = tt; there = refl; step = st }

like_one : {r : Rest} {e : Store} {i : ℕ} {d : SiteAction} {m : List Comm} {r' : Rest} {h : Store} (v : ℕ) (x : Datum) → changes_rest r v ≡ true → Step r h i d m r' (set h v x) → IsLike r e i d m r' (set e v x) h
like_one v x c st = record { written = (v, x) ∷ []; changed = (c, tt); there = refl; step = st }

index_written : (r : Rest) (v : ℕ) (b : ℤ) (n : ℕ) (s : Set) (ws : Written) (e h : Store) → s v ≡ true → AllIn s ws → (us : Written) × AllIn s us × (index_on r v b n (write ws e) ≡ write us e) × (index_on r v b n (write ws h) ≡ write us h)
index_written Done v b (suc n) s ws e h c a = (ws ++ (v, datum.Int b) ∷ [], all_more ws a, sym (written_last ws e), sym (written_last ws h))
  where
    all_more : (ws : Written) → AllIn s ws → AllIn s (ws ++ (v, datum.Int b) ∷ [])
    all_more [] a = (c, tt)
    all_more (w ∷ ws) a = (a.0, all_more ws a.1)

    written_last : (ws : Written) (e : Store) → write (ws ++ (v, datum.Int b) ∷ []) e ≡ set (write ws e) v (datum.Int b)
    written_last [] e = refl
    written_last (w ∷ ws) e = written_last ws (set e w.0 w.1)
index_written Done v b zero s ws e h c a = (ws, a, refl, refl)
index_written r v b n s ws e h c a = (ws, a, refl, refl)

guard_changes : {gs : Guards} {k c v : ℕ} {b : Test} {p : Proc} → GuardAt gs k b c v p → changes_guards gs v ≡ true
guard_changes (first {v = v} {p = p} {gs = gs}) = or_left ((just v ∪ changes p) v) (changes_guards gs v) (or_left (just v v) (changes p v) (eq-eqb v v refl))
guard_changes (later {v = v} {v' = w} {p = p} {gs = gs} g) = or_right ((just v ∪ changes p) w) (changes_guards gs w) (guard_changes g)

-- the base and the count of a replicated SEQ
terms : (v : ℕ) (a k : Exp) (p : Proc) (e h : Store) → Alike (just v ∪ (in_exp a ∪ in_exp k) ∪ uses p) e h → Alike (in_exp a ∪ in_exp k) e h
terms v a k p e h g = second_alike (just v) (in_exp a ∪ in_exp k) e h (first_alike (just v ∪ (in_exp a ∪ in_exp k)) (uses p) e h g)

pub like : {r r' : Rest} {e e' : Store} {i : ℕ} {d : SiteAction} {m : List Comm} → Step r e i d m r' e' → (h : Store) → Alike (uses_rest r) e h → IsLike r e i d m r' e' h
like does_skip h g = like_none does_skip
like does_empty_seq h g = like_none does_empty_seq
like does_empty_par h g = like_none does_empty_par
like (does_assign {v = v} {a = a} {e = e} {x = x} q) h g =
    like_one v x (eq-eqb v v refl) (does_assign (datum_alike e h a (second_alike (just v) (in_given a) e h g) ∙ q))
like (faults_assign {v = v} {a = a} {e = e} q) h g = like_none (faults_assign (datum_alike e h a (second_alike (just v) (in_given a) e h g) ∙ q))
like (faults_out {a = a} {e = e} q) h g = like_none (faults_out (datum_alike e h a g ∙ q))
like (does_if {s = s} {bs = bs} {e = e}) h g =
    like_none (subst (λ r. Step (Fresh (IF s bs)) h s Quiet [] r h) (sym (chosen_alike e h s bs g)) does_if)
like (does_turn {b = b} {p = p} {e = e} q) h g = like_none (does_turn (holds_alike e h b (first_alike (in_test b) (uses p) e h g) ∙ q))
like (does_leave {b = b} {p = p} {e = e} q) h g = like_none (does_leave (holds_alike e h b (first_alike (in_test b) (uses p) e h g) ∙ q))
like (faults_while {b = b} {p = p} {e = e} q) h g = like_none (faults_while (holds_alike e h b (first_alike (in_test b) (uses p) e h g) ∙ q))
like (does_count {v = v} {a = a} {k = k} {p = p} {e = e} {b = b} {n = n} q) h g =
    like_one v (datum.Int b) (or_left (just v v) (changes p v) (eq-eqb v v refl)) (does_count (counts_alike e h a k b (suc n) (terms v a k p e h g) q))
like (does_count_none {v = v} {a = a} {k = k} {p = p} {e = e} {b = b} q) h g = like_none (does_count_none (counts_alike e h a k b 0 (terms v a k p e h g) q))
like (faults_count {v = v} {a = a} {k = k} {p = p} {e = e} q) h g = like_none (faults_count (λ b n c. q b n (counts_back e h a k b n (terms v a k p e h g) c)))
like (does_offer {a = a} {e = e} q) h g = like_none (does_offer (datum_alike e h a g ∙ q))
like does_finish h g = like_none does_finish
like (does_input {v = v} {e = e} {m = m} {x = x} k) h g = like_one v x (eq-eqb v v refl) (does_input (k ∙ ap (λ y. received y m) (sym (one_alike v e h g))))
like waits_input h g = like_none waits_input
like (gets {v = v} {e = e} {m = m} {x = x} k) h g = like_one v x (eq-eqb v v refl) (gets (k ∙ ap (λ y. received y m) (sym (one_alike v e h g))))
like does_stop h g = like_none does_stop
like (does_choose {v = v} {gs = gs} {e = e} {m = m} {x = x} dec at t k) h g =
    let same = guard_alike e h at g in
    like_one v x (guard_changes at) (does_choose (decided_alike e h gs g dec) at (same.0 ∙ t) (k ∙ ap (λ y. received y m) (sym same.1)))
like (waits_choose {gs = gs} {e = e} dec at t) h g = like_none (waits_choose (decided_alike e h gs g dec) at ((guard_alike e h at g).0 ∙ t))
like (in_then {r = r} {r' = r'} {e = e} {ps = ps} st) h g =
    let l = like st h (first_alike (uses_rest r) (uses_all ps) e h g) in
    record { written = l.written; changed = all_wider (changes_rest r) (changes_rest r ∪ changes_all ps) l.written (λ v. or_left (changes_rest r v) (changes_all ps v)) l.changed; there = l.there; step = in_then l.step }
like (in_turns {i = i} {d = d} {m = m} {r = r} {r' = r'} {e = e} {e' = e'} {v = w} {b = b} {n = n} {p = p} st) h g =
    let l = like st h (first_alike (uses_rest r) (just w ∪ uses p) e h g) in
    let s = changes_rest r ∪ (just w ∪ changes p) in
    let x = index_written r' w b n s l.written e h (or_right (changes_rest r w) ((just w ∪ changes p) w) (or_left (just w w) (changes p w) (eq-eqb w w refl)))
    (all_wider (changes_rest r) s l.written (λ v. or_left (changes_rest r v) ((just w ∪ changes p) v)) l.changed) in
    record {
      written = x.0;
      changed = x.1;
      there = ap (index_on r' w b n) l.there ∙ x.2;
      step = subst (λ f. Step (Turns r w b n p) h i d m (turns_on r' w b n p) f) x.3 (in_turns l.step);
    }
like (in_left {r = r} {q = q} {e = e} st) h g =
    let l = like st h (first_alike (uses_rest r) (uses_rest q) e h g) in
    record { written = l.written; changed = all_wider (changes_rest r) (changes_rest r ∪ changes_rest q) l.written (λ v. or_left (changes_rest r v) (changes_rest q v)) l.changed; there = l.there; step = in_left l.step }
like (in_right {r = r} {q = q} {e = e} st) h g =
    let l = like st h (second_alike (uses_rest r) (uses_rest q) e h g) in
    record { written = l.written; changed = all_wider (changes_rest q) (changes_rest r ∪ changes_rest q) l.written (λ v. or_right (changes_rest r v) (changes_rest q v)) l.changed; there = l.there; step = in_right l.step }

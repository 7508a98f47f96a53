-- A step, followed by any trace of what remains, is a trace of what remained before.
use Rattle.std.proofs.Common.{◌≡◌, ℕ, suc, ℤ, Bool, true, false, eqb, refl, sym, ap, ◌∙◌, subst, List, [], ◌∷◌, ◌++◌, append_assoc, Option, Some, None, pos, ◌+ℤ◌}
use Rattle.std.proofs.lemmas.List.{append-nil}
use Rattle.std.proofs.lemmas.Bool.{eqb-true}
use Rattle.std.specs.Prelude.{if◌then◌else◌}
use Rattle.vc_process.specs.declared.datum.Datum.{Datum}
use Rattle.vc_process.specs.declared.datum.Datum.TheVariants as datum
use Rattle.vc_process.proofs.Bytes.{number_within}
use Rattle.vc_occam.specs.SiteActions.{SiteAction}
use Rattle.vc_process.specs.Syntax.{Exp, Test, Proc, IF, WHILE, COUNT, Procs, no_parts, part, Branches, no_branches, branch, Guards}
use Rattle.vc_process.specs.Values.{Store, value_of, holds}
use Rattle.vc_process.specs.Messages.{received}
use Rattle.vc_process.specs.Usage.{Set}
use Rattle.vc_occam.specs.Traces.{Comm, In, End, Open, Ended, set, SameKind, both_ended, Counts, Trace, cut, skip, assign, begin_out, out, input, stop_chan, seq, par, choose, leave, last_turn, turn, count, select, TraceSeq, seq_end, seq_open, seq_next, par_end, here, further, counted, count_open, count_turn, TraceAlt, this, that}
use Rattle.vc_occam.specs.Remains.{Rest, Then, Turns, Beside, begin, TraceRest, done, stopped, fresh, finishing_cut, finishing, getting_cut, getting, then_open, then_next, turns_open, turns_next, beside, branch_on, chosen, GuardAt, first, later, Step, does_skip, does_empty_seq, does_empty_par, does_assign, does_if, does_turn, does_leave, does_count, does_count_none, does_offer, does_finish, does_input, waits_input, gets, does_stop, does_choose, waits_choose, in_then, in_turns, in_left, in_right, changes_rest, uses_rest, Apart, KeepsVariablesApart, StepsAreTraces}
use Rattle.vc_occam.proofs.Agreement.{AllIn, Written, like, write}
use Rattle.vc_occam.proofs.Stores.{same_store, set_end}
use Rattle.vc_occam.proofs.Rests.{begin_is, then_back, turns_back, beside_back, merge_left, merge_right, frame_rest}

back_at : (v k : ℕ) (b : Bool) (e : Store) (x : Datum) → (b ≡ true → v ≡ k) → (if b then e v else (if b then x else e k)) ≡ e k
back_at v k true e x h = ap e (h refl)
back_at v k false e x h = refl

-- a variable set, and set back
set_back : (e : Store) (v : ℕ) (x : Datum) → set (set e v x) v (e v) ≡ e
set_back e v x = same_store _ _ (λ k. back_at v k (eqb v k) e x (eqb-true v k))

true_false : (b : Bool) → b ≡ true → b ≡ false → ⊥
true_false b h k = let e : true ≡ false = sym h ∙ k in cc

mine_at : (m : Bool) (b : Bool) (x y z : Datum) → (b ≡ true → m ≡ true) → (if m then x else (if b then z else y)) ≡ (if m then x else y)
mine_at true b x y z h = refl
mine_at false true x y z h = absurd (true_false false (h refl) refl)
mine_at false false x y z h = refl

theirs_at : (m : Bool) (b : Bool) (x y z : Datum) → (b ≡ true → m ≡ false) → (if m then (if b then z else x) else y) ≡ (if m then x else y)
theirs_at false b x y z h = refl
theirs_at true true x y z h = absurd (true_false true refl (h refl))
theirs_at true false x y z h = refl

-- at the end of a PAR the others' setting of one of mine doesn't count, nor mine of one of theirs
right_end : (mine : Set) (v : ℕ) (d : Datum) (x y : End) → mine v ≡ true → both_ended mine x (set_end v d y) ≡ both_ended mine x y
right_end mine v d Open y h = refl
right_end mine v d (Ended f) Open h = refl
right_end mine v d (Ended f) (Ended g) h =
    ap Ended (same_store _ _ (λ k. mine_at (mine k) (eqb v k) (f k) (g k) d (λ e. sym (ap mine (eqb-true v k e)) ∙ h)))

left_end : (mine : Set) (v : ℕ) (d : Datum) (x y : End) → mine v ≡ false → both_ended mine (set_end v d x) y ≡ both_ended mine x y
left_end mine v d Open y h = refl
left_end mine v d (Ended f) Open h = refl
left_end mine v d (Ended f) (Ended g) h =
    ap Ended (same_store _ _ (λ k. theirs_at (mine k) (eqb v k) (f k) (g k) d (λ e. sym (ap mine (eqb-true v k e)) ∙ h)))

unset : {q : Rest} {e : Store} (v : ℕ) (x : Datum) {t : List Comm} {y : End} → uses_rest q v ≡ false → TraceRest q (set e v x) t y → TraceRest q e t (set_end v (e v) y)
unset {q} {e} v x {t} {y} u h =
    subst (λ f. TraceRest q f t (set_end v (e v) y)) (set_back e v x) (frame_rest v (e v) h u)

-- what a step writes, it writes in what remains may change
abbrev Writes : Rest → Store → Store → Type 0
Writes r e f = (ws : Written) × AllIn (changes_rest r) ws × (f ≡ write ws e)

writes : {r r' : Rest} {e e' : Store} {i : ℕ} {d : SiteAction} {m : List Comm} → Step r e i d m r' e' → Writes r e e'
writes {e = e} st = let l = like st e (λ v u. refl) in (l.written, l.changed, l.there)

-- the traces of the others before one part's step, from those after it
others_before : {q : Rest} {t : List Comm} {y : End} {may mine : Set} (ws : Written) (e : Store) → ((v : ℕ) → may v ≡ true → (mine v ≡ true) × (uses_rest q v ≡ false)) → AllIn may ws → TraceRest q (write ws e) t y → (z : End) × TraceRest q e t z × ((x : End) → both_ended mine x z ≡ both_ended mine x y)
others_before {y = y} [] e a m h = (y, h, λ x. refl)
others_before {mine = mine} (w ∷ ws) e a m h =
    let n = others_before {mine = mine} ws (set e w.0 w.1) a m.1 h in
    (set_end w.0 (e w.0) n.0, unset w.0 w.1 (a w.0 m.0).1 n.1, λ x. right_end mine w.0 (e w.0) x n.0 (a w.0 m.0).0 ∙ n.2 x)

part_before : {q : Rest} {t : List Comm} {y : End} {may mine : Set} (ws : Written) (e : Store) → ((v : ℕ) → may v ≡ true → (mine v ≡ false) × (uses_rest q v ≡ false)) → AllIn may ws → TraceRest q (write ws e) t y → (z : End) × TraceRest q e t z × ((x : End) → both_ended mine z x ≡ both_ended mine y x)
part_before {y = y} [] e a m h = (y, h, λ x. refl)
part_before {mine = mine} (w ∷ ws) e a m h =
    let n = part_before {mine = mine} ws (set e w.0 w.1) a m.1 h in
    (set_end w.0 (e w.0) n.0, unset w.0 w.1 (a w.0 m.0).1 n.1, λ x. left_end mine w.0 (e w.0) n.0 x (a w.0 m.0).0 ∙ n.2 x)

guard_trace : {gs : Guards} {k c v : ℕ} {b : Test} {p : Proc} {e : Store} {x : Datum} {t : List Comm} {y : End} → GuardAt gs k b c v p → holds b e ≡ Some true → SameKind x (e v) → Trace p (set e v x) t y → TraceAlt gs e (In c x ∷ t) y
guard_trace first h k r = this h k r
guard_trace (later g) h k r = that (guard_trace g h k r)

one_part : {p : Proc} {e : Store} {t : List Comm} {x : End} → TraceSeq (part p no_parts) e t x → Trace p e t x
one_part (seq_open q) = q
one_part {p} {e} (seq_next {t = t} {x = x} q seq_end) = subst (λ u. Trace p e u x) (sym (append-nil t)) q

turn_is : {i : ℕ} {b : Test} {p : Proc} {e : Store} {t : List Comm} {x : End} → holds b e ≡ Some true → TraceRest (Then (begin p) (part (WHILE i b p) no_parts)) e t x → Trace (WHILE i b p) e t x
turn_is {p = p} h (then_open q) = last_turn h (begin_is p q)
turn_is {p = p} h (then_next q r) = turn h (begin_is p q) (one_part r)

count_is : {i v : ℕ} {a k : Exp} {p : Proc} {e : Store} {b : ℤ} {n : ℕ} {t : List Comm} {x : End} → Counts (value_of a e) (value_of k e) b (suc n) → TraceRest (Turns (begin p) v (b +ℤ pos 1) n p) (set e v (datum.Int b)) t x → Trace (COUNT i v a k p) e t x
count_is {p = p} h (turns_open q) = count h (count_open (begin_is p q))
count_is {p = p} h (turns_next q r) = count h (count_turn (begin_is p q) r)

further_is : {i : ℕ} {b : Test} {p : Proc} {bs : Branches} {e : Store} {t : List Comm} {x : End} → holds b e ≡ Some false → Trace (IF i bs) e t x → Trace (IF i (branch b p bs)) e t x
further_is h cut = cut
further_is h (choose q) = choose (further h q)

chosen_at : {i : ℕ} {b : Test} {p : Proc} {bs : Branches} {r q : Rest} {e : Store} {t : List Comm} {x : End} (o : Option Bool) → holds b e ≡ o → (TraceRest r e t x → Trace p e t x) → (TraceRest q e t x → Trace (IF i bs) e t x) → TraceRest (branch_on i o r q) e t x → Trace (IF i (branch b p bs)) e t x
chosen_at (Some true) h f g k = choose (here h (f k))
chosen_at (Some false) h f g k = further_is h (g k)
chosen_at None h f g stopped = cut

chosen_is : (i : ℕ) (bs : Branches) (e : Store) {t : List Comm} {x : End} → TraceRest (chosen i bs e) e t x → Trace (IF i bs) e t x
chosen_is i no_branches e stopped = cut
chosen_is i (branch b p bs) e h = chosen_at (holds b e) refl (begin_is p) (chosen_is i bs e) h

then_law : {r r' : Rest} {e e' : Store} {ps : Procs} (m : List Comm) → ((t : List Comm) (x : End) → TraceRest r' e' t x → TraceRest r e (m ++ t) x) → {t : List Comm} {x : End} → TraceRest (Then r' ps) e' t x → TraceRest (Then r ps) e (m ++ t) x
then_law m f (then_open {t = t} q) = then_open (f t Open q)
then_law {r} {r'} {e} {e'} {ps} m f (then_next {f = f'} {t = t} {u = u} {x = x} q k) =
    subst (λ w. TraceRest (Then r ps) e w x) (append_assoc m t u) (then_next (f t (Ended f') q) k)

turns_law : {r r' : Rest} {e e' : Store} {v : ℕ} {b : ℤ} {n : ℕ} {p : Proc} (m : List Comm) → ((t : List Comm) (x : End) → TraceRest r' e' t x → TraceRest r e (m ++ t) x) → {t : List Comm} {x : End} → TraceRest (Turns r' v b n p) e' t x → TraceRest (Turns r v b n p) e (m ++ t) x
turns_law m f (turns_open {t = t} q) = turns_open (f t Open q)
turns_law {r} {r'} {e} {e'} {v} {b} {n} {p} m f (turns_next {f = f'} {t = t} {u = u} {x = x} q k) =
    subst (λ w. TraceRest (Turns r v b n p) e w x) (append_assoc m t u) (turns_next (f t (Ended f') q) k)

left_law : {r r' q : Rest} {e e' : Store} {mine : Set} (m : List Comm) → ((t : List Comm) (x : End) → TraceRest r' e' t x → TraceRest r e (m ++ t) x) → Apart mine r q → Writes r e e' → {t : List Comm} {x : End} → TraceRest (Beside mine r' q) e' t x → TraceRest (Beside mine r q) e (m ++ t) x
left_law {r} {q = q} {e = e} {mine = mine} m f a w (beside {s = s} {t = t} {u = u} {x = x} {y = y} h k mg) =
    let n = others_before {mine = mine} w.0 e a.left w.1 (subst (λ g. TraceRest q g t y) w.2 k) in
    subst (TraceRest (Beside mine r q) e (m ++ u)) (n.2 x) (beside (f s x h) n.1 (merge_left m mg))

right_law : {r q q' : Rest} {e e' : Store} {mine : Set} (m : List Comm) → ((t : List Comm) (x : End) → TraceRest q' e' t x → TraceRest q e (m ++ t) x) → Apart mine r q → Writes q e e' → {t : List Comm} {x : End} → TraceRest (Beside mine r q') e' t x → TraceRest (Beside mine r q) e (m ++ t) x
right_law {r} {q} {e = e} {mine = mine} m f a w (beside {s = s} {t = t} {u = u} {x = x} {y = y} h k mg) =
    let n = part_before {mine = mine} w.0 e a.right w.1 (subst (λ g. TraceRest r g s x) w.2 h) in
    subst (TraceRest (Beside mine r q) e (m ++ u)) (n.2 y) (beside n.1 (f t y k) (merge_right m mg))

-- what a message is worth for a variable is of the variable's kind
received_kind : (d : Datum) (m : List ℕ) (x : Datum) → x ≡ received d m → SameKind x d
received_kind (datum.Int z) m x h = subst (λ y. SameKind y (datum.Int z)) (sym h) (number_within m)
received_kind (datum.Bytes xs) m x h = subst (λ y. SameKind y (datum.Bytes xs)) (sym h) tt

pub law : {r r' : Rest} {e e' : Store} {i : ℕ} {d : SiteAction} {m : List Comm} → Step r e i d m r' e' → KeepsVariablesApart r → {t : List Comm} {x : End} → TraceRest r' e' t x → TraceRest r e (m ++ t) x
law does_skip l done = fresh skip
law does_empty_seq l done = fresh (seq seq_end)
law does_empty_par l done = fresh (par par_end)
law (does_assign q) l done = fresh (assign q)
law (does_if {s = s} {bs = bs} {e = e}) l h = fresh (chosen_is s bs e h)
law (does_turn q) l h = fresh (turn_is q h)
law (does_leave q) l done = fresh (leave q)
law (does_count q) l h = fresh (count_is q h)
law (does_count_none q) l done = fresh (count q counted)
law (does_offer q) l finishing_cut = fresh (begin_out q)
law (does_offer q) l finishing = fresh (out q)
law does_finish l done = finishing
law (does_input {v = v} {e = e} {m = m} k) l done = fresh (input (received_kind (e v) m _ k))
law waits_input l getting_cut = fresh cut
law waits_input l (getting k) = fresh (input k)
law (gets {v = v} {e = e} {m = m} k) l done = getting (received_kind (e v) m _ k)
law does_stop l done = fresh stop_chan
law (does_choose {v = v} {p = p} {e = e} {m = m} dec g h k) l r = fresh (select dec (guard_trace g h (received_kind (e v) m _ k) (begin_is p r)))
law (waits_choose dec g h) l (then_open getting_cut) = fresh cut
law (waits_choose dec g h) l (then_next (getting k) r) = fresh (select dec (guard_trace g h k (one_part r)))
law (in_then {m = m} {r' = r'} {ps = ps} st) l h = then_law m (λ t x q. law st l q) (then_back r' ps h)
law (in_turns {m = m} {r' = r'} {v = v} {b = b} {n = n} {p = p} st) l h = turns_law m (λ t x q. law st l q) (turns_back r' v b n p h)
law (in_left {m = m} {r' = r'} {q = q} {mine = mine} st) l h = left_law m (λ t x q. law st l.1 q) l.0 (writes st) (beside_back mine r' q h)
law (in_right {m = m} {r = r} {q' = q'} {mine = mine} st) l h = right_law m (λ t x q. law st l.2 q) l.0 (writes st) (beside_back mine r q' h)
law st l stopped = fresh cut

pub steps_are_traces : StepsAreTraces
steps_are_traces r e i d m r' e' st l t x h = law st l h

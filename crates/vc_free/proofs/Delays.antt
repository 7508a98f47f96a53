-- Of two neighbouring steps that are apart the second may be made first.
use Rattle.std.proofs.Common.{◌≡◌, ℕ, ℤ, true, false, eqb, refl, sym, ap, subst, ◌∙◌, List, [], ◌∷◌, Some, None, ◌⊎◌, inl, inr}
use Rattle.std.proofs.lemmas.Bool.{eqb-true}
use Rattle.std.specs.List.{Contains}
use Rattle.vc_process.specs.declared.datum.Datum.{Datum}
use Rattle.vc_process.proofs.Lists.{none}
use Rattle.vc_process.specs.Syntax.{Proc, Procs}
use Rattle.vc_process.specs.Usage.{Set}
use Rattle.vc_process.specs.Values.{Store}
use Rattle.vc_occam.specs.SiteActions.{SiteAction, Want, Choose, Message}
use Rattle.vc_occam.specs.Remains.{Rest, Done, Then, Turns, Beside, then_on, turns_on, index_on, beside_on, Step, does_offer, does_finish, does_input, waits_input, gets, does_choose, waits_choose, in_then, in_turns, in_left, in_right, changes_rest, uses_rest, Apart, KeepsVariablesApart}
use Rattle.vc_occam.specs.States.{output, input, waiting}
use Rattle.vc_occam.specs.Traces.{Comm, set}
use Rattle.vc_free.specs.Private.Delays.{plain_quiet, plain_finish, plain_want, plain_choose, plain_stop, MayDelay, after_output, after_input, after_guard, before_end, Swapped, StepsCanBeDelayed}
use Rattle.vc_occam.proofs.Agreement.{Written, write, AllIn, like}
use Rattle.vc_occam.proofs.Insertion.{is_inserted}
use Rattle.vc_occam.proofs.Sites.{clash, not_true}
use Rattle.vc_occam.proofs.Stores.{set_swap}
use Rattle.vc_occam.proofs.StepWaits.{step_waits, then_waits, turns_waits}
use Rattle.vc_occam.proofs.Interleavings.{beside_is, kept}
use Rattle.vc_occam.proofs.Lifting.{goes, index_is, left_steps, right_steps, then_is, then_steps, turns_is, turns_steps}

-- what is written in sets that have nothing in common is written in either order
one_swap : (b : Set) (v : ℕ) (x : Datum) (ws : Written) (e : Store) → b v ≡ false → AllIn b ws → set (write ws e) v x ≡ write ws (set e v x)
one_swap b v x [] e h a = refl
one_swap b v x (w ∷ ws) e h a =
    one_swap b v x ws (set e w.0 w.1) h a.1 ∙ ap (write ws) (set_swap e w.0 w.1 v x (not_true (eqb w.0 v) (λ q. clash (subst (λ z. b z ≡ true) (eqb-true w.0 v q) a.0) h)))

write_swap : (a b : Set) (us ws : Written) (e : Store) → ((v : ℕ) → a v ≡ true → b v ≡ false) → AllIn a us → AllIn b ws → write us (write ws e) ≡ write ws (write us e)
write_swap a b [] ws e d h k = refl
write_swap a b (u ∷ us) ws e d h k = ap (write us) (one_swap b u.0 u.1 ws e (d u.0 h.0) k) ∙ write_swap a b us ws (set e u.0 u.1) d h.1 k

-- two that keep apart: neither changes what the other uses or changes
record KeepApart (r q : Rest) : Type 0 where
  changed : (v : ℕ) → changes_rest r v ≡ true → changes_rest q v ≡ false
  first : (v : ℕ) → changes_rest r v ≡ true → uses_rest q v ≡ false
  second : (v : ℕ) → changes_rest q v ≡ true → uses_rest r v ≡ false

left_apart : (mine : Set) (r q : Rest) → Apart mine r q → KeepApart r q
left_apart mine r q a = record {
  changed = λ v c. not_true (changes_rest q v) (λ k. clash (a.left v c).0 (a.right v k).0);
  first = λ v c. (a.left v c).1;
  second = λ v c. (a.right v c).1;
}

right_apart : (mine : Set) (r q : Rest) → Apart mine r q → KeepApart q r
right_apart mine r q a = record {
  changed = λ v c. not_true (changes_rest r v) (λ k. clash (a.left v k).0 (a.right v c).0);
  first = λ v c. (a.right v c).1;
  second = λ v c. (a.left v c).1;
}

-- steps of two that keep apart
across : {r r1 q q2 : Rest} {e e1 e2 : Store} {i j : ℕ} {d f : SiteAction} {m n : List Comm} → Step r e i d m r1 e1 → Step q e1 j f n q2 e2 → KeepApart r q → (g : Store) × Step q e j f n q2 g × Step r g i d m r1 e2
across {r} {r1} {q} {q2} {e} {e1} {e2} {i} {j} {d} {f} {m} {n} st st2 a =
    let one = like st e (λ v u. refl) in
    let two = like st2 e (λ v u. sym (ap (λ (z : Store). z v) one.there ∙ kept (changes_rest r) one.written e v (not_true (changes_rest r v) (λ c. clash u (a.first v c))) one.changed)) in
    let g = write two.written e in
    let three = like st g (λ v u. kept (changes_rest q) two.written e v (not_true (changes_rest q v) (λ c. clash u (a.second v c))) two.changed) in
    let same : write three.written g ≡ e2 =
    write_swap (changes_rest r) (changes_rest q) three.written two.written e a.changed three.changed two.changed ∙ ap (write two.written) (sym three.there) ∙ sym two.there in
    (g, two.step, subst (Step r g i d m r1) same three.step)

by_then : {r r1 r2 : Rest} {ps : Procs} {e e1 e2 : Store} {i j : ℕ} {d f : SiteAction} {m n : List Comm} → ((r3 : Rest) → Step r1 e1 j f n r3 e2 → Swapped r e i d m j f n r3 e2) → Step (Then r1 ps) e1 j f n r2 e2 → Swapped (Then r ps) e i d m j f n r2 e2
by_then {e2 = e2} h (in_then {r' = r3} {ps = ps} st) =
    let s = h r3 st in
    record { rest = then_on s.rest ps; store = s.store; first = in_then s.first; after = then_steps s.after ps }

by_turns : {r r1 r2 : Rest} {v : ℕ} {b : ℤ} {k : ℕ} {p : Proc} {e e1 e2 : Store} {i j : ℕ} {d f : SiteAction} {m n : List Comm} → ((r3 : Rest) (e3 : Store) → Step r1 e1 j f n r3 e3 → Swapped r e i d m j f n r3 e3) → Step (Turns r1 v b k p) e1 j f n r2 e2 → Swapped (Turns r v b k p) e i d m j f n r2 e2
by_turns h (in_turns {r' = r3} {e' = e3} {v = v} {b = b} {n = k} {p = p} st) =
    let s = h r3 e3 st in
    record {
      rest = turns_on s.rest v b k p;
      store = index_on s.rest v b k s.store;
      first = in_turns s.first;
      after = turns_steps s.after v b k p;
    }

by_left : {mine : Set} {r r1 q r2 : Rest} {e e1 e2 : Store} {i j : ℕ} {d f : SiteAction} {m n : List Comm} → Step r e i d m r1 e1 → KeepApart r q → ((r3 : Rest) → Step r1 e1 j f n r3 e2 → Swapped r e i d m j f n r3 e2) → Step (Beside mine r1 q) e1 j f n r2 e2 → Swapped (Beside mine r q) e i d m j f n r2 e2
by_left {mine} {q = q} st a h (in_left {r' = r3} st2) = let s = h r3 st2 in record { rest = beside_on mine s.rest q; store = s.store; first = in_left s.first; after = left_steps s.after mine q }
by_left {mine} {r = r} st a h (in_right {q' = q3} st2) = let s = across st st2 a in record { rest = beside_on mine r q3; store = s.0; first = in_right s.1; after = left_steps s.2 mine q3 }

by_right : {mine : Set} {r q q1 r2 : Rest} {e e1 e2 : Store} {i j : ℕ} {d f : SiteAction} {m n : List Comm} → Step q e i d m q1 e1 → KeepApart q r → ((q3 : Rest) → Step q1 e1 j f n q3 e2 → Swapped q e i d m j f n q3 e2) → Step (Beside mine r q1) e1 j f n r2 e2 → Swapped (Beside mine r q) e i d m j f n r2 e2
by_right {mine} {r = r} st a h (in_right {q' = q3} st2) = let s = h q3 st2 in record { rest = beside_on mine r s.rest; store = s.store; first = in_right s.first; after = right_steps s.after mine r }
by_right {mine} {q = q} st a h (in_left {r' = r3} st2) = let s = across st st2 a in record { rest = beside_on mine r3 q; store = s.0; first = in_left s.1; after = right_steps s.2 mine r3 }

-- the first step ends nothing from which the second is made
goes_on : {r r1 z r2 : Rest} {e e1 g e2 : Store} {i j : ℕ} {d f : SiteAction} {m n : List Comm} → MayDelay d f n → Step r e i d m r1 e1 → waiting z ≡ waiting r1 → Step z g j f n r2 e2 → r1 ≡ Done → ⊥
goes_on {i = i} (after_output {c = c} other) st w st2 = λ h. none (output i c) (subst (λ r. Contains (waiting r) (output i c)) h (is_inserted (step_waits st)))
goes_on {i = i} (after_input {c = c} other) st w st2 = λ h. none (input i c) (subst (λ r. Contains (waiting r) (input i c)) h (is_inserted (step_waits st)))
goes_on {i = i} (after_guard {c = c} other) st w st2 = λ h. none (input i c) (subst (λ r. Contains (waiting r) (input i c)) h (is_inserted (step_waits st)))
goes_on {j = j} (before_end p) st w st2 = λ h.
    let n = step_waits st2 in
    none (output j n.0) (subst (λ ws. Contains ws (output j n.0)) (w ∙ ap waiting h) (is_inserted n.2))

pub delay : {r r1 r2 : Rest} {e e1 e2 : Store} {i j : ℕ} {d f : SiteAction} {m n : List Comm} → MayDelay d f n → Step r e i d m r1 e1 → Step r1 e1 j f n r2 e2 → KeepsVariablesApart r → Swapped r e i d m j f n r2 e2
delay {r2 = r2} {e1 = e1} {e2 = e2} {j = j} {f = f} {n = n} o (in_then {r' = r1} {ps = ps} st) st2 k =
    by_then (λ r3 st3. delay o st st3 k) (subst (λ z. Step z e1 j f n r2 e2) (then_is r1 ps (goes_on o st (then_waits r1 ps) st2)) st2)
delay {r2 = r2} {e2 = e2} {j = j} {f = f} {n = n} o (in_turns {r' = r1} {e' = e1} {v = v} {b = b} {n = l} {p = p} st) st2 k =
    let g = goes_on o st (turns_waits r1 v b l p) st2 in
    by_turns (λ r3 e3 st3. delay o st st3 k)
    (subst (λ y. Step (Turns r1 v b l p) y j f n r2 e2) (index_is r1 v b l e1 g) (subst (λ z. Step z (index_on r1 v b l e1) j f n r2 e2) (turns_is r1 v b l p g) st2))
delay {r2 = r2} {e1 = e1} {e2 = e2} {j = j} {f = f} {n = n} o (in_left {r = r} {r' = r1} {q = q} {mine = mine} st) st2 k =
    by_left st (left_apart mine r q k.0) (λ r3 st3. delay o st st3 k.1) (subst (λ z. Step z e1 j f n r2 e2) (sym (beside_is mine r1 q (goes st2))) st2)
delay {r2 = r2} {e1 = e1} {e2 = e2} {j = j} {f = f} {n = n} o (in_right {r = r} {q = q} {q' = q1} {mine = mine} st) st2 k =
    by_right st (right_apart mine r q k.0) (λ q3 st3. delay o st st3 k.2) (subst (λ z. Step z e1 j f n r2 e2) (sym (beside_is mine r q1 (goes st2))) st2)
delay (after_output other) (does_offer q) does_finish k = absurd (other refl)
delay (after_input other) waits_input (gets {m = a} x) k = absurd (other a refl)
delay (after_guard other) (waits_choose dec g h) (in_then (gets {m = a} x)) k = absurd (other a refl)
delay (before_end plain_finish) does_finish st2 k = elim st2 [ ]
delay {j = j} (before_end plain_quiet) st st2 k =
    let n = step_waits st2 in
    absurd (none (output j n.0) (subst (λ ws. Contains ws (output j n.0)) (step_waits st) (is_inserted n.2)))
delay {j = j} (before_end plain_want) st st2 k =
    let n = step_waits st2 in
    absurd (none (output j n.0) (subst (λ ws. Contains ws (output j n.0)) (step_waits st) (is_inserted n.2)))
delay {j = j} (before_end plain_choose) st st2 k =
    let n = step_waits st2 in
    absurd (none (output j n.0) (subst (λ ws. Contains ws (output j n.0)) (step_waits st) (is_inserted n.2)))
delay {j = j} (before_end plain_stop) st st2 k =
    let n = step_waits st2 in
    absurd (none (output j n.0) (subst (λ ws. Contains ws (output j n.0)) (step_waits st) (is_inserted n.2)))

-- an input or guard that begins to wait, and then a message that comes: it has the message at once, or the message is another's, which
-- may come first
pub data Waiter : SiteAction → Type 0 where
  an_input : {c : ℕ} → Waiter (Want c None)
  a_guard : {k c : ℕ} → Waiter (Choose k c None)

abbrev pub answered : SiteAction → List ℕ → SiteAction
answered (Want c o) a = Want c (Some a)
answered (Choose k c o) a = Choose k c (Some a)
answered d a = d

waits_on : {r r1 : Rest} {e e1 : Store} {i : ℕ} {d : SiteAction} {m : List Comm} → Waiter d → Step r e i d m r1 e1 → r1 ≡ Done → ⊥
waits_on {i = i} (an_input {c = c}) st h = none (input i c) (subst (λ r. Contains (waiting r) (input i c)) h (is_inserted (step_waits st)))
waits_on {i = i} (a_guard {c = c}) st h = none (input i c) (subst (λ r. Contains (waiting r) (input i c)) h (is_inserted (step_waits st)))

meld_then : {r r1 r2 : Rest} {ps : Procs} {e e1 e2 : Store} {i j : ℕ} {d f g : SiteAction} {m n : List Comm} → ((r3 : Rest) → Step r1 e1 j f n r3 e2 → Step r e i g n r3 e2 ⊎ Swapped r e i d m j f n r3 e2) →
    Step (Then r1 ps) e1 j f n r2 e2 → Step (Then r ps) e i g n r2 e2 ⊎ Swapped (Then r ps) e i d m j f n r2 e2
meld_then h (in_then {r' = r3} {ps = ps} st) = elim (h r3 st) [
  | inl s ↦ inl (in_then s)
  | inr s ↦ inr (record { rest = then_on s.rest ps; store = s.store; first = in_then s.first; after = then_steps s.after ps })
]

meld_turns : {r r1 r2 : Rest} {v : ℕ} {b : ℤ} {k : ℕ} {p : Proc} {e e1 e2 : Store} {i j : ℕ} {d f g : SiteAction} {m n : List Comm} → ((r3 : Rest) (e3 : Store) → Step r1 e1 j f n r3 e3 → Step r e i g n r3 e3 ⊎ Swapped r e i d m j f n r3 e3) →
    Step (Turns r1 v b k p) e1 j f n r2 e2 → Step (Turns r v b k p) e i g n r2 e2 ⊎ Swapped (Turns r v b k p) e i d m j f n r2 e2
meld_turns h (in_turns {r' = r3} {e' = e3} {v = v} {b = b} {n = k} {p = p} st) = elim (h r3 e3 st) [
  | inl s ↦ inl (in_turns s)
  | inr s ↦ inr (record { rest = turns_on s.rest v b k p; store = index_on s.rest v b k s.store; first = in_turns s.first; after = turns_steps s.after v b k p })
]

meld_left : {mine : Set} {r r1 q r2 : Rest} {e e1 e2 : Store} {i j : ℕ} {d f g : SiteAction} {m n : List Comm} → Step r e i d m r1 e1 → KeepApart r q → ((r3 : Rest) → Step r1 e1 j f n r3 e2 → Step r e i g n r3 e2 ⊎ Swapped r e i d m j f n r3 e2) →
    Step (Beside mine r1 q) e1 j f n r2 e2 → Step (Beside mine r q) e i g n r2 e2 ⊎ Swapped (Beside mine r q) e i d m j f n r2 e2
meld_left {mine} {q = q} st a h (in_left {r' = r3} st2) = elim (h r3 st2) [
  | inl s ↦ inl (in_left s)
  | inr s ↦ inr (record { rest = beside_on mine s.rest q; store = s.store; first = in_left s.first; after = left_steps s.after mine q })
]
meld_left {mine} {r = r} st a h (in_right {q' = q3} st2) = let s = across st st2 a in inr (record { rest = beside_on mine r q3; store = s.0; first = in_right s.1; after = left_steps s.2 mine q3 })

meld_right : {mine : Set} {r q q1 r2 : Rest} {e e1 e2 : Store} {i j : ℕ} {d f g : SiteAction} {m n : List Comm} → Step q e i d m q1 e1 → KeepApart q r → ((q3 : Rest) → Step q1 e1 j f n q3 e2 → Step q e i g n q3 e2 ⊎ Swapped q e i d m j f n q3 e2) →
    Step (Beside mine r q1) e1 j f n r2 e2 → Step (Beside mine r q) e i g n r2 e2 ⊎ Swapped (Beside mine r q) e i d m j f n r2 e2
meld_right {mine} {r = r} st a h (in_right {q' = q3} st2) = elim (h q3 st2) [
  | inl s ↦ inl (in_right s)
  | inr s ↦ inr (record { rest = beside_on mine r s.rest; store = s.store; first = in_right s.first; after = right_steps s.after mine r })
]
meld_right {mine} {q = q} st a h (in_left {r' = r3} st2) = let s = across st st2 a in inr (record { rest = beside_on mine r3 q; store = s.0; first = in_left s.1; after = right_steps s.2 mine r3 })

pub meld : {r r1 r2 : Rest} {e e1 e2 : Store} {i j : ℕ} {d : SiteAction} {a : List ℕ} {m n : List Comm} → Waiter d → Step r e i d m r1 e1 → Step r1 e1 j (Message a) n r2 e2 → KeepsVariablesApart r → Step r e i (answered d a) n r2 e2 ⊎ Swapped r e i d m j (Message a) n r2 e2
meld {r2 = r2} {e1 = e1} {e2 = e2} {j = j} {a = a} {n = n} o (in_then {r' = r1} {ps = ps} st) st2 k =
    meld_then (λ r3 st3. meld o st st3 k) (subst (λ z. Step z e1 j (Message a) n r2 e2) (then_is r1 ps (waits_on o st)) st2)
meld {r2 = r2} {e2 = e2} {j = j} {a = a} {n = n} o (in_turns {r' = r1} {e' = e1} {v = v} {b = b} {n = l} {p = p} st) st2 k =
    let g = waits_on o st in
    meld_turns (λ r3 e3 st3. meld o st st3 k)
    (subst (λ y. Step (Turns r1 v b l p) y j (Message a) n r2 e2) (index_is r1 v b l e1 g) (subst (λ z. Step z (index_on r1 v b l e1) j (Message a) n r2 e2) (turns_is r1 v b l p g) st2))
meld {r2 = r2} {e1 = e1} {e2 = e2} {j = j} {a = a} {n = n} o (in_left {r = r} {r' = r1} {q = q} {mine = mine} st) st2 k =
    meld_left st (left_apart mine r q k.0) (λ r3 st3. meld o st st3 k.1) (subst (λ z. Step z e1 j (Message a) n r2 e2) (sym (beside_is mine r1 q (goes st2))) st2)
meld {r2 = r2} {e1 = e1} {e2 = e2} {j = j} {a = a} {n = n} o (in_right {r = r} {q = q} {q' = q1} {mine = mine} st) st2 k =
    meld_right st (right_apart mine r q k.0) (λ q3 st3. meld o st st3 k.2) (subst (λ z. Step z e1 j (Message a) n r2 e2) (sym (beside_is mine r q1 (goes st2))) st2)
meld an_input waits_input (gets x) k = inl (does_input x)
meld a_guard (waits_choose dec g h) (in_then (gets x)) k = inl (does_choose dec g h x)
meld o st st2 k = elim o [ ]

pub steps_delay : StepsCanBeDelayed
steps_delay r r1 r2 e e1 e2 i j d f m n a st st2 k = delay a st st2 k

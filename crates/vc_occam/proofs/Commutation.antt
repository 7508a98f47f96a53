-- Of two steps, one right after the other, the second may be made first where it could be: after an output began, and before one is
-- finished.
use Rattle.std.proofs.Common.{◌≡◌, ℕ, ℤ, true, false, eqb, refl, sym, ap, subst, ◌∙◌, List, [], ◌∷◌}
use Rattle.std.proofs.lemmas.Bool.{eqb-true}
use Rattle.std.specs.List.{Contains}
use Rattle.vc_process.specs.declared.datum.Datum.{Datum}
use Rattle.vc_process.proofs.Lists.{none}
use Rattle.vc_process.specs.Syntax.{Proc, Procs}
use Rattle.vc_process.specs.Usage.{Set}
use Rattle.vc_process.specs.Values.{Store}
use Rattle.vc_occam.specs.SiteActions.{SiteAction, Quiet, Offer, Finish}
use Rattle.vc_occam.specs.Remains.{Rest, Done, Then, Turns, Beside, then_on, turns_on, index_on, beside_on, Step, does_offer, does_finish, in_then, in_turns, in_left, in_right, changes_rest, uses_rest, Apart, KeepsVariablesApart}
use Rattle.vc_occam.specs.States.{output, waiting}
use Rattle.vc_occam.specs.Traces.{Comm, set}
use Rattle.vc_occam.proofs.Agreement.{Written, write, AllIn, like}
use Rattle.vc_occam.proofs.Insertion.{is_inserted}
use Rattle.vc_occam.proofs.Made.{began}
use Rattle.vc_occam.proofs.Sites.{clash, not_true}
use Rattle.vc_occam.proofs.Stores.{set_swap}
use Rattle.vc_occam.proofs.StepWaits.{step_waits, then_waits, turns_waits}
use Rattle.vc_occam.proofs.Interleavings.{beside_is, kept}
use Rattle.vc_occam.proofs.Lifting.{goes, index_is, left_steps, right_steps, then_is, then_steps, turns_is, turns_steps}

-- what is written in sets that have nothing in common is written in either order
one_swap : (b : Set) (v : ℕ) (x : Datum) (ws : Written) (e : Store) → b v ≡ false → AllIn b ws → set (write ws e) v x ≡ write ws (set e v x)
one_swap b v x [] e h a = refl
one_swap b v x (w ∷ ws) e h a =
    one_swap b v x ws (set e w.0 w.1) h a.1 ∙ ap (write ws) (set_swap e w.0 w.1 v x (not_true (eqb w.0 v) (λ q. clash (subst (λ z. b z ≡ true) (eqb-true w.0 v q) a.0) h)))

write_swap : (a b : Set) (us ws : Written) (e : Store) → ((v : ℕ) → a v ≡ true → b v ≡ false) → AllIn a us → AllIn b ws → write us (write ws e) ≡ write ws (write us e)
write_swap a b [] ws e d h k = refl
write_swap a b (u ∷ us) ws e d h k = ap (write us) (one_swap b u.0 u.1 ws e (d u.0 h.0) k) ∙ write_swap a b us ws (set e u.0 u.1) d h.1 k

-- two that keep apart: neither changes what the other uses or changes
record KeepApart (r q : Rest) : Type 0 where
  changed : (v : ℕ) → changes_rest r v ≡ true → changes_rest q v ≡ false
  first : (v : ℕ) → changes_rest r v ≡ true → uses_rest q v ≡ false
  second : (v : ℕ) → changes_rest q v ≡ true → uses_rest r v ≡ false

left_apart : (mine : Set) (r q : Rest) → Apart mine r q → KeepApart r q
left_apart mine r q a = record {
  changed = λ v c. not_true (changes_rest q v) (λ k. clash (a.left v c).0 (a.right v k).0);
  first = λ v c. (a.left v c).1;
  second = λ v c. (a.right v c).1;
}

right_apart : (mine : Set) (r q : Rest) → Apart mine r q → KeepApart q r
right_apart mine r q a = record {
  changed = λ v c. not_true (changes_rest r v) (λ k. clash (a.left v k).0 (a.right v c).0);
  first = λ v c. (a.right v c).1;
  second = λ v c. (a.left v c).1;
}

-- steps of two that keep apart
across : {r r1 q q2 : Rest} {e e1 e2 : Store} {i j : ℕ} {d f : SiteAction} {m n : List Comm} → Step r e i d m r1 e1 → Step q e1 j f n q2 e2 → KeepApart r q → (g : Store) × Step q e j f n q2 g × Step r g i d m r1 e2
across {r} {r1} {q} {q2} {e} {e1} {e2} {i} {j} {d} {f} {m} {n} st st2 a =
    let one = like st e (λ v u. refl) in
    let two = like st2 e (λ v u. sym (ap (λ (z : Store). z v) one.there ∙ kept (changes_rest r) one.written e v (not_true (changes_rest r v) (λ c. clash u (a.first v c))) one.changed)) in
    let g = write two.written e in
    let three = like st g (λ v u. kept (changes_rest q) two.written e v (not_true (changes_rest q v) (λ c. clash u (a.second v c))) two.changed) in
    let same : write three.written g ≡ e2 =
    write_swap (changes_rest r) (changes_rest q) three.written two.written e a.changed three.changed two.changed ∙ ap (write two.written) (sym three.there) ∙ sym two.there in
    (g, two.step, subst (Step r g i d m r1) same three.step)

-- the second step made first
pub record Swapped (r : Rest) (e : Store) (i : ℕ) (d : SiteAction) (m : List Comm) (j : ℕ) (f : SiteAction) (n : List Comm) (r2 : Rest) (e2 : Store) : Type 0 where
  pub rest : Rest
  pub store : Store
  pub first : Step r e j f n rest store
  pub after : Step rest store i d m r2 e2

-- an output began, and the next step is no end of one; or an output is finished after a step without a communication
pub data Independent : SiteAction → SiteAction → Type 0 where
  after_output : {c : ℕ} {f : SiteAction} → (f ≡ Finish → ⊥) → Independent (Offer c) f
  before_end : Independent Quiet Finish

-- the first step ends nothing from which the second is made
goes_on : {r r1 z r2 : Rest} {e e1 g e2 : Store} {i j : ℕ} {d f : SiteAction} {m n : List Comm} → Independent d f → Step r e i d m r1 e1 → waiting z ≡ waiting r1 → Step z g j f n r2 e2 → r1 ≡ Done → ⊥
goes_on (after_output other) st w st2 = (began st).goes
goes_on {j = j} before_end st w st2 = λ h.
    let n = step_waits st2 in
    none (output j n.0) (subst (λ ws. Contains ws (output j n.0)) (w ∙ ap waiting h) (is_inserted n.2))

by_then : {r r1 r2 : Rest} {ps : Procs} {e e1 e2 : Store} {i j : ℕ} {d f : SiteAction} {m n : List Comm} → ((r3 : Rest) → Step r1 e1 j f n r3 e2 → Swapped r e i d m j f n r3 e2) → Step (Then r1 ps) e1 j f n r2 e2 → Swapped (Then r ps) e i d m j f n r2 e2
by_then {e2 = e2} h (in_then {r' = r3} {ps = ps} st) =
    let s = h r3 st in
    record { rest = then_on s.rest ps; store = s.store; first = in_then s.first; after = then_steps s.after ps }

by_turns : {r r1 r2 : Rest} {v : ℕ} {b : ℤ} {k : ℕ} {p : Proc} {e e1 e2 : Store} {i j : ℕ} {d f : SiteAction} {m n : List Comm} → ((r3 : Rest) (e3 : Store) → Step r1 e1 j f n r3 e3 → Swapped r e i d m j f n r3 e3) → Step (Turns r1 v b k p) e1 j f n r2 e2 → Swapped (Turns r v b k p) e i d m j f n r2 e2
by_turns h (in_turns {r' = r3} {e' = e3} {v = v} {b = b} {n = k} {p = p} st) =
    let s = h r3 e3 st in
    record {
      rest = turns_on s.rest v b k p;
      store = index_on s.rest v b k s.store;
      first = in_turns s.first;
      after = turns_steps s.after v b k p;
    }

by_left : {mine : Set} {r r1 q r2 : Rest} {e e1 e2 : Store} {i j : ℕ} {d f : SiteAction} {m n : List Comm} → Step r e i d m r1 e1 → KeepApart r q → ((r3 : Rest) → Step r1 e1 j f n r3 e2 → Swapped r e i d m j f n r3 e2) → Step (Beside mine r1 q) e1 j f n r2 e2 → Swapped (Beside mine r q) e i d m j f n r2 e2
by_left {mine} {q = q} st a h (in_left {r' = r3} st2) = let s = h r3 st2 in record { rest = beside_on mine s.rest q; store = s.store; first = in_left s.first; after = left_steps s.after mine q }
by_left {mine} {r = r} st a h (in_right {q' = q3} st2) = let s = across st st2 a in record { rest = beside_on mine r q3; store = s.0; first = in_right s.1; after = left_steps s.2 mine q3 }

by_right : {mine : Set} {r q q1 r2 : Rest} {e e1 e2 : Store} {i j : ℕ} {d f : SiteAction} {m n : List Comm} → Step q e i d m q1 e1 → KeepApart q r → ((q3 : Rest) → Step q1 e1 j f n q3 e2 → Swapped q e i d m j f n q3 e2) → Step (Beside mine r q1) e1 j f n r2 e2 → Swapped (Beside mine r q) e i d m j f n r2 e2
by_right {mine} {r = r} st a h (in_right {q' = q3} st2) = let s = h q3 st2 in record { rest = beside_on mine r s.rest; store = s.store; first = in_right s.first; after = right_steps s.after mine r }
by_right {mine} {q = q} st a h (in_left {r' = r3} st2) = let s = across st st2 a in record { rest = beside_on mine r3 q; store = s.0; first = in_left s.1; after = right_steps s.2 mine r3 }

pub swap : {r r1 r2 : Rest} {e e1 e2 : Store} {i j : ℕ} {d f : SiteAction} {m n : List Comm} → Independent d f → Step r e i d m r1 e1 → Step r1 e1 j f n r2 e2 → KeepsVariablesApart r → Swapped r e i d m j f n r2 e2
swap {r2 = r2} {e1 = e1} {e2 = e2} {j = j} {f = f} {n = n} o (in_then {r' = r1} {ps = ps} st) st2 k =
    by_then (λ r3 st3. swap o st st3 k) (subst (λ z. Step z e1 j f n r2 e2) (then_is r1 ps (goes_on o st (then_waits r1 ps) st2)) st2)
swap {r2 = r2} {e2 = e2} {j = j} {f = f} {n = n} o (in_turns {r' = r1} {e' = e1} {v = v} {b = b} {n = l} {p = p} st) st2 k =
    let g = goes_on o st (turns_waits r1 v b l p) st2 in
    by_turns (λ r3 e3 st3. swap o st st3 k)
    (subst (λ y. Step (Turns r1 v b l p) y j f n r2 e2) (index_is r1 v b l e1 g) (subst (λ z. Step z (index_on r1 v b l e1) j f n r2 e2) (turns_is r1 v b l p g) st2))
swap {r2 = r2} {e1 = e1} {e2 = e2} {j = j} {f = f} {n = n} o (in_left {r = r} {r' = r1} {q = q} {mine = mine} st) st2 k =
    by_left st (left_apart mine r q k.0) (λ r3 st3. swap o st st3 k.1) (subst (λ z. Step z e1 j f n r2 e2) (sym (beside_is mine r1 q (goes st2))) st2)
swap {r2 = r2} {e1 = e1} {e2 = e2} {j = j} {f = f} {n = n} o (in_right {r = r} {q = q} {q' = q1} {mine = mine} st) st2 k =
    by_right st (right_apart mine r q k.0) (λ q3 st3. swap o st st3 k.2) (subst (λ z. Step z e1 j f n r2 e2) (sym (beside_is mine r q1 (goes st2))) st2)
swap (after_output other) (does_offer q) does_finish k = absurd (other refl)
swap {j = j} before_end st st2 k =
    let n = step_waits st2 in
    absurd (none (output j n.0) (subst (λ ws. Contains ws (output j n.0)) (step_waits st) (is_inserted n.2)))

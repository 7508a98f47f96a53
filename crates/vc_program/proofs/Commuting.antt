-- Steps of two sites join.
use Rattle.std.proofs.Common.{◌≡◌, ◌≢◌, ℕ, true, false, eqb, refl, sym, ap, subst, ◌∙◌, List, [], ◌∷◌}
use Rattle.std.proofs.lemmas.Bool.{eqb-true}
use Rattle.vc_process.specs.declared.datum.Datum.{Datum}
use Rattle.vc_process.specs.Usage.{Set}
use Rattle.vc_process.specs.Values.{Store}
use Rattle.vc_occam.specs.SiteActions.{SiteAction}
use Rattle.vc_occam.specs.Remains.{Rest, Done, Stopped, Fresh, Finishing, Getting, Then, Turns, Beside, then_on, turns_on, index_on, beside_on, Step, does_skip, does_empty_seq, does_empty_par, does_assign, faults_assign, faults_out, does_if, does_turn, does_leave, faults_while, does_count, does_count_none, faults_count, does_offer, does_finish, does_input, waits_input, gets, does_stop, does_choose, waits_choose, in_then, in_turns, in_left, in_right, changes_rest, Apart, KeepsVariablesApart}
use Rattle.vc_occam.specs.Sites.{site}
use Rattle.vc_occam.specs.Traces.{Comm, set}
use Rattle.vc_occam.proofs.Agreement.{Written, write, AllIn, like}
use Rattle.vc_occam.proofs.Sites.{clash, not_true}
use Rattle.vc_occam.proofs.Stores.{set_swap}
use Rattle.vc_occam.proofs.Interleavings.{kept}
use Rattle.vc_occam.proofs.Lifting.{left_steps, right_steps, then_steps, turns_steps}
use Rattle.vc_program.specs.SiteSteps.{StepsCommute}

one_swap : (b : Set) (v : ℕ) (x : Datum) (ws : Written) (e : Store) → b v ≡ false → AllIn b ws → set (write ws e) v x ≡ write ws (set e v x)
one_swap b v x [] e h a = refl
one_swap b v x (w ∷ ws) e h a =
    one_swap b v x ws (set e w.0 w.1) h a.1 ∙ ap (write ws) (set_swap e w.0 w.1 v x (not_true (eqb w.0 v) (λ q. clash (subst (λ z. b z ≡ true) (eqb-true w.0 v q) a.0) h)))

write_swap : (a b : Set) (us ws : Written) (e : Store) → ((v : ℕ) → a v ≡ true → b v ≡ false) → AllIn a us → AllIn b ws → write us (write ws e) ≡ write ws (write us e)
write_swap a b [] ws e d h k = refl
write_swap a b (u ∷ us) ws e d h k = ap (write us) (one_swap b u.0 u.1 ws e (d u.0 h.0) k) ∙ write_swap a b us ws (set e u.0 u.1) d h.1 k

-- the two steps, each after the other
record Both (i : ℕ) (d : SiteAction) (m : List Comm) (j : ℕ) (f : SiteAction) (n : List Comm) (r1 : Rest) (e1 : Store) (r2 : Rest) (e2 : Store) : Type 0 where
  rest : Rest
  store : Store
  first : Step r1 e1 j f n rest store
  second : Step r2 e2 i d m rest store

-- steps of two that keep their variables apart
record Across (r q r1 q2 : Rest) (i : ℕ) (d : SiteAction) (m : List Comm) (j : ℕ) (f : SiteAction) (n : List Comm) (e1 e2 : Store) : Type 0 where
  store : Store
  second_on : Step q e1 j f n q2 store
  first_on : Step r e2 i d m r1 store

across : {mine : Set} {r r1 q q2 : Rest} {e e1 e2 : Store} {i j : ℕ} {d f : SiteAction} {m n : List Comm} → Step r e i d m r1 e1 → Step q e j f n q2 e2 → Apart mine r q → Across r q r1 q2 i d m j f n e1 e2
across {r = r} {r1 = r1} {q = q} {e = e} {e1 = e1} {e2 = e2} {i = i} {d = d} {m = m} st st2 a =
    let us = like st e (λ v u. refl) in
    let ws = like st2 e (λ v u. refl) in
    let two = like st2 e1 (λ v u. ap (λ (z : Store). z v) us.there ∙ kept (changes_rest r) us.written e v (not_true (changes_rest r v) (λ c. clash u (a.left v c).1)) us.changed) in
    let one = like st e2 (λ v u. ap (λ (z : Store). z v) ws.there ∙ kept (changes_rest q) ws.written e v (not_true (changes_rest q v) (λ c. clash u (a.right v c).1)) ws.changed) in
    let same : write one.written e2 ≡ write two.written e1 =
    ap (write one.written) two.there ∙ write_swap (changes_rest r) (changes_rest q) one.written two.written e (λ v c. not_true (changes_rest q v) (λ k. clash (a.left v c).0 (a.right v k).0)) one.changed two.changed ∙ ap (write two.written) (sym one.there) in
    record { store = write two.written e1; second_on = two.step; first_on = subst (Step r e2 i d m r1) same one.step }

-- what makes a step by itself makes it at its own site
abbrev own_site : Rest → ℕ
own_site (Fresh p) = site p
own_site (Finishing s c) = s
own_site (Getting s c v) = s
own_site r = 0

abbrev IsAlone : Rest → Type 0
IsAlone (Then r ps) = ⊥
IsAlone (Turns r v b n p) = ⊥
IsAlone (Beside mine r q) = ⊥
IsAlone r = Unit {0}

at_own : {r r1 : Rest} {e e1 : Store} {i : ℕ} {d : SiteAction} {m : List Comm} → Step r e i d m r1 e1 → IsAlone r → i ≡ own_site r
at_own does_skip a = refl
at_own does_empty_seq a = refl
at_own does_empty_par a = refl
at_own (does_assign q) a = refl
at_own (faults_assign q) a = refl
at_own (faults_out q) a = refl
at_own does_if a = refl
at_own (does_turn q) a = refl
at_own (does_leave q) a = refl
at_own (faults_while q) a = refl
at_own (does_count q) a = refl
at_own (does_count_none q) a = refl
at_own (faults_count q) a = refl
at_own (does_offer q) a = refl
at_own does_finish a = refl
at_own (does_input q) a = refl
at_own waits_input a = refl
at_own (gets q) a = refl
at_own does_stop a = refl
at_own (does_choose q g h x) a = refl
at_own (waits_choose q g h) a = refl
at_own (in_then st) a = absurd a
at_own (in_turns st) a = absurd a
at_own (in_left st) a = absurd a
at_own (in_right st) a = absurd a

alone : {r r1 r2 : Rest} {e e1 e2 : Store} {i j : ℕ} {d f : SiteAction} {m n : List Comm} → IsAlone r → i ≢ j → Step r e i d m r1 e1 → Step r e j f n r2 e2 → Both i d m j f n r1 e1 r2 e2
alone a ne st st2 = absurd (ne (at_own st a ∙ sym (at_own st2 a)))

both : (r : Rest) {r1 r2 : Rest} {e e1 e2 : Store} {i j : ℕ} {d f : SiteAction} {m n : List Comm} → KeepsVariablesApart r → i ≢ j → Step r e i d m r1 e1 → Step r e j f n r2 e2 → Both i d m j f n r1 e1 r2 e2
both (Then r ps) k ne (in_then st) (in_then st2) = let b = both r k ne st st2 in record { rest = then_on b.rest ps; store = b.store; first = then_steps b.first ps; second = then_steps b.second ps }
both (Turns r v b n p) k ne (in_turns st) (in_turns st2) = let z = both r k ne st st2 in record { rest = turns_on z.rest v b n p; store = index_on z.rest v b n z.store; first = turns_steps z.first v b n p; second = turns_steps z.second v b n p }
both (Beside mine r q) k ne (in_left st) (in_left st2) = let b = both r k.1 ne st st2 in record { rest = beside_on mine b.rest q; store = b.store; first = left_steps b.first mine q; second = left_steps b.second mine q }
both (Beside mine r q) k ne (in_right st) (in_right st2) = let b = both q k.2 ne st st2 in record { rest = beside_on mine r b.rest; store = b.store; first = right_steps b.first mine r; second = right_steps b.second mine r }
both (Beside mine r q) k ne (in_left {r' = r1} st) (in_right {q' = q2} st2) = let x = across st st2 k.0 in record { rest = beside_on mine r1 q2; store = x.store; first = right_steps x.second_on mine r1; second = left_steps x.first_on mine q2 }
both (Beside mine r q) k ne (in_right {q' = q1} st) (in_left {r' = r2} st2) = let x = across st2 st k.0 in record { rest = beside_on mine r2 q1; store = x.store; first = left_steps x.first_on mine q1; second = right_steps x.second_on mine r2 }
both Done k ne st st2 = alone tt ne st st2
both (Stopped s) k ne st st2 = alone tt ne st st2
both (Fresh p) k ne st st2 = alone tt ne st st2
both (Finishing s c) k ne st st2 = alone tt ne st st2
both (Getting s c v) k ne st st2 = alone tt ne st st2

pub commute : StepsCommute
commute s t u i j d f ks ls k ne st st2 = let b = both s.rest k ne st st2 in record { both = record { rest = b.rest; store = b.store }; j_after_i = b.first; i_after_j = b.second }

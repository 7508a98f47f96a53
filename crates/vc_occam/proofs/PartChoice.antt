-- How an IF, an ALT or a loop takes one of its parts.
use Rattle.std.proofs.Common.{◌≡◌, ◌≢◌, ℕ, zero, suc, ℤ, ◌+◌, ◌<◌, ◌≤◌, ◌^◌, Bool, true, false, refl, ap, sym, ◌∙◌, subst, List, [], ◌∷◌, map, length, set, arith, Option, Some, None}
use Rattle.std.specs.Prelude.{pos, negsuc, ◌+ℤ◌, ◌-ℤ◌, int_lt, nat_lt, slice_get, if◌then◌else◌}
use Rattle.std.proofs.lemmas.Bool.{and_parts}
use Rattle.std.proofs.lemmas.Bool.Decides.{nat_tests}
use Rattle.std.proofs.lemmas.Int.{ints}
use lib.Signed.{mag}
use Rattle.vc_process.specs.declared.datum.Datum.TheVariants as datum
use Rattle.vc_occam.specs.declared.frame.Frame.{Frame}
use Rattle.vc_occam.specs.declared.frame.Branch.{Branch}
use Rattle.vc_occam.specs.declared.frame.Turn.{Turn}
use Rattle.vc_occam.specs.declared.outcome.Outcome.{Outcome}
use Rattle.vc_occam.specs.declared.outcome.Outcome.TheVariants as outcome
use Rattle.vc_occam.specs.SiteActions as action
use Rattle.vc_occam.specs.Private.SiteSteps.{one, step_at}
use Rattle.vc_process.specs.Syntax.{Exp, Test, Proc, IF, WHILE, COUNT, no_parts, part}
use Rattle.vc_process.specs.Terms.{as_test}
use Rattle.vc_process.specs.Values.{Store, holds, value_of, within}
use Rattle.vc_occam.specs.Traces.{Counts, set as set_to}
use Rattle.vc_occam.specs.Remains.{Rest, Done, Stopped, Fresh, Then, Turns, Step, begin, index_on, turns_on, branch_on, chosen, does_if, does_turn, does_leave, faults_while, does_count, does_count_none, faults_count}
use Rattle.vc_occam.specs.Frames.{View, all_sound, begun, bodies, branches_of, branching, counting, has_place, is_at_itself, is_sound, left_by, looping, outcome_of, rest_of, turns_left}
use Rattle.vc_occam.specs.Private.Frames.{Acted, HasTurned, chosen_from, count_turn, place_on, seen_branch, turn_to}
use Rattle.vc_occam.proofs.Bodies.{branch_rest, branch_sound, same_branches, with_body}
use Rattle.vc_occam.proofs.Endings.{begin_goes, left_same, unless_goes}

-- what began goes on, as it is
pub begun_outcome : (p : Proc) (o : Outcome) → o ≡ outcome_of (begin p) → left_by o (begin p) ≡ begin p
begun_outcome p o h = ap (λ x. left_by x (begin p)) h ∙ left_same (begin p)

-- the conditions of branches
pub seen_tests : (fs : List (Branch Frame)) → map (λ (b : Branch View). as_test b.cond) (map seen_branch fs) ≡ map (λ (b : Branch Frame). as_test b.cond) fs
seen_tests [] = refl
seen_tests (f ∷ fs) = ap (λ ts. as_test f.cond ∷ ts) (seen_tests fs)

-- where no branch is chosen, the site stops
pub chosen_none : (i : ℕ) (bs : List (Branch View)) (e : Store) (j : ℕ) → chosen_from j (map (λ b. as_test b.cond) bs) e ≡ None → chosen i (branches_of bs) e ≡ Stopped i
chosen_none i [] e j h = refl
chosen_none i (b ∷ bs) e j h = on (holds (as_test b.cond) e) h (chosen_none i bs e (suc j))
  where
    on : (o : Option Bool) → place_on o j (chosen_from (suc j) (map (λ b. as_test b.cond) bs) e) ≡ None → (chosen_from (suc j) (map (λ b. as_test b.cond) bs) e ≡ None → chosen i (branches_of bs) e ≡ Stopped i) → branch_on i o (begin b.body.plan) (chosen i (branches_of bs) e) ≡ Stopped i
    on (Some true) k f = absurd (let z : Some j ≡ None = k in cc)
    on (Some false) k f = f k
    on None k f = refl

same_place : (j k : ℕ) → Some j ≡ Some k → k ≡ j
same_place j k h = cc

-- the branch that is taken stands at a place from the first one's on
abbrev Chosen : ℕ → List (Branch View) → Store → ℕ → ℕ → Type 0
Chosen i bs e j k = (m : ℕ) × (k ≡ j + m) × (b : Branch View) × (slice_get bs m ≡ Some b) × (chosen i (branches_of bs) e ≡ begin b.body.plan)

chosen_some : (i : ℕ) (bs : List (Branch View)) (e : Store) (j k : ℕ) → chosen_from j (map (λ b. as_test b.cond) bs) e ≡ Some k → Chosen i bs e j k
chosen_some i [] e j k h = absurd (let z : None ≡ Some k = h in cc)
chosen_some i (b ∷ bs) e j k h = on (holds (as_test b.cond) e) refl h (chosen_some i bs e (suc j) k)
  where
    on : (o : Option Bool) → holds (as_test b.cond) e ≡ o → place_on o j (chosen_from (suc j) (map (λ b. as_test b.cond) bs) e) ≡ Some k → (chosen_from (suc j) (map (λ b. as_test b.cond) bs) e ≡ Some k → Chosen i bs e (suc j) k) → Chosen i (b ∷ bs) e j k
    on (Some true) q g f = let z = same_place j k g in (0, omega arith, b, refl, ap (λ o. branch_on i o (begin b.body.plan) (chosen i (branches_of bs) e)) q)
    on (Some false) q g f = let n = f g in let z = n.1 in (suc n.0, omega arith, n.2, n.3, ap (λ o. branch_on i o (begin b.body.plan) (chosen i (branches_of bs) e)) q ∙ n.4)
    on None q g f = absurd (let z : None ≡ Some k = g in cc)

-- the branch that is chosen is there, and begins
pub chosen_first : (i : ℕ) (bs : List (Branch View)) (e : Store) (k : ℕ) → chosen_from 0 (map (λ b. as_test b.cond) bs) e ≡ Some k → (b : Branch View) × (slice_get bs k ≡ Some b) × (chosen i (branches_of bs) e ≡ begin b.body.plan)
chosen_first i bs e k h =
    let n = chosen_some i bs e 0 k h in
    let at : n.0 ≡ k = let z = n.1 in omega arith in
    (n.2, ap (slice_get bs) (sym at) ∙ n.3, n.4)

pub not_taken : (bs : List (Branch View)) (t : Option ℕ) → is_at_itself (branching bs t) ≡ true → t ≡ None
not_taken bs None h = refl
not_taken bs (Some k) h = absurd (let z : false ≡ true = h in cc)

-- where no branch is taken, the IF is stopped
pub no_branch_acted : (i : ℕ) (bs : List (Branch View)) (t : Option ℕ) (e : Store) → is_at_itself (branching bs t) ≡ true → chosen_from 0 (map (λ b. as_test b.cond) bs) e ≡ None → Acted i (branching bs t) e None (branching bs t) e
no_branch_acted i bs None e at h = (refl, refl, ([], subst (λ (r : Rest). Step (Fresh (IF i (branches_of bs))) e i action.Quiet [] r e) (chosen_none i bs e 0 h) does_if))
no_branch_acted i bs (Some k) e at h = absurd cc

-- the branch that is chosen has begun
pub branch_taken : (i : ℕ) (bs : List (Branch View)) (k : ℕ) (b : Branch View) (w : View) (o : Outcome) (e : Store) → is_sound (branching bs None) ≡ true → slice_get bs k ≡ Some b → nat_lt k (length bs) ≡ true →
    chosen_from 0 (map (λ b. as_test b.cond) bs) e ≡ Some k → w ≡ begun b.body.plan → o ≡ outcome_of (begin b.body.plan) → Acted i (branching bs None) e (Some o) (branching (set bs k (with_body b w)) (Some k)) e
branch_taken i bs k b w o e sound is l h g n =
    let step = step_at i (one action.Quiet) in
    let took = chosen_first i bs e k h in
    let same : Some took.0 ≡ Some b = sym took.1 ∙ is in
    let the : took.0 ≡ b = cc in
    let q : chosen i (branches_of bs) e ≡ begin b.body.plan = took.2 ∙ ap (λ (x : Branch View). begin x.body.plan) the in
    let rest : w.rest ≡ begin b.body.plan = ap (λ (v : View). v.rest) g in
    let after : left_by o (rest_of i (branching (set bs k (with_body b w)) (Some k))) ≡ begin b.body.plan = ap (left_by o) (branch_rest step i bs k b is w ∙ rest) ∙ begun_outcome b.body.plan o n in
    record {
      did = ([], subst (λ (r : Rest). Step (Fresh (IF i (branches_of bs))) e i action.Quiet [] r e) (q ∙ sym after) does_if);
      plan = ap (IF i) (same_branches bs k b w is (ap (λ (v : View). v.plan) g));
      sound = branch_sound step i bs k b is w l (and_parts (has_place None (length bs)) (all_sound (bodies bs)) sound).1 (ap (λ (v : View). v.sound) g);
      outcome = n ∙ ap outcome_of (sym after);
    }

-- a loop
pub not_turning : (b : Test) (v : View) (t : Bool) → is_at_itself (looping b v t) ≡ true → t ≡ false
not_turning b v false h = refl
not_turning b v true h = absurd (let z : false ≡ true = h in cc)

-- it ends, or its condition is a fault
pub while_left : (i : ℕ) (b : Test) (v : View) (t : Bool) (e : Store) → is_at_itself (looping b v t) ≡ true → is_sound (looping b v t) ≡ true → holds b e ≡ Some false → Acted i (looping b v t) e (Some outcome.Ended) (looping b v t) e
while_left i b v false e at sound h = record { did = ([], does_leave h); plan = refl; sound = sound; outcome = refl }
while_left i b v true e at sound h = absurd cc

pub while_faulted : (i : ℕ) (b : Test) (v : View) (t : Bool) (e : Store) → is_at_itself (looping b v t) ≡ true → holds b e ≡ None → Acted i (looping b v t) e None (looping b v t) e
while_faulted i b v false e at h = (refl, refl, ([], faults_while h))
while_faulted i b v true e at h = absurd cc

-- the body of a WHILE has begun
pub turn_taken : (i : ℕ) (b : Test) (v w : View) (o : Outcome) (e : Store) → holds b e ≡ Some true → w ≡ begun v.plan → o ≡ outcome_of (begin v.plan) → Acted i (looping b v false) e (Some o) (looping b w true) e
turn_taken i b v w o e h g n =
    subst (λ (x : View). Acted i (looping b v false) e (Some o) (looping b x true) e) (sym g)
    (let ps = part (WHILE i b v.plan) no_parts in
    let u : outcome_of (Then (begin v.plan) ps) ≡ outcome_of (begin v.plan) = unless_goes (outcome_of (begin v.plan)) (begin_goes v.plan) in
    let after : left_by o (Then (begin v.plan) ps) ≡ Then (begin v.plan) ps = ap (λ x. left_by x (Then (begin v.plan) ps)) (n ∙ sym u) ∙ left_same (Then (begin v.plan) ps) in
    record {
      did = ([], subst (λ (r : Rest). Step (Fresh (WHILE i b v.plan)) e i action.Quiet [] r e) (sym after) (does_turn h));
      plan = refl;
      sound = refl;
      outcome = n ∙ sym u ∙ ap outcome_of (sym after);
    })

-- a replicated SEQ begins its first turn
pub not_counting : (x : ℕ) (a n : Exp) (v : View) (t : Option Turn) → is_at_itself (counting x a n v t) ≡ true → t ≡ None
not_counting x a n v None h = refl
not_counting x a n v (Some t) h = absurd (let z : false ≡ true = h in cc)

-- so many turns are left
left_of : (x : ℤ) (m : ℕ) → turns_left x (x +ℤ pos m) ≡ m
left_of x m = by (int_lt x (x +ℤ pos m)) refl
  where
    by : (b : Bool) → int_lt x (x +ℤ pos m) ≡ b → (if b then mag (x +ℤ pos m -ℤ x) else 0) ≡ m
    by true h = grind (arith, ints)
    by false h = grind (arith, ints)

-- indexes between two that are in range are in range
between : (x : ℤ) (k m : ℕ) → k ≤ m → mag x < 2 ^ 63 → mag (x +ℤ pos m) < 2 ^ 63 → mag (x +ℤ pos k) < 2 ^ 63
between (pos a) k m l h g = omega arith
between (negsuc a) k m l h g = grind (arith, ints)

in_range : (z : ℤ) → mag z < 2 ^ 63 → within z ≡ Some z
in_range z h = let t : nat_lt (mag z) (2 ^ 63) ≡ true = grind (arith, nat_tests) in ap (λ b. if b then Some z else None) t

has_range : (z y : ℤ) → within z ≡ Some y → (mag z < 2 ^ 63) × (z ≡ y)
has_range z y h = by (nat_lt (mag z) (2 ^ 63)) refl h
  where
    by : (b : Bool) → nat_lt (mag z) (2 ^ 63) ≡ b → (if b then Some z else None) ≡ Some y → (mag z < 2 ^ 63) × (z ≡ y)
    by true t k = (grind (arith, nat_tests), cc)
    by false t k = absurd cc

no_none : (z : ℤ) → mag z < 2 ^ 63 → within z ≢ None
no_none z h k = let e : Some z ≡ None = sym (in_range z h) ∙ k in absurd cc

abbrev Turned : Option ℤ → Option ℤ → Turn → Type 0
Turned o w t = (m : ℕ) × Counts o w t.index (suc m) × (turns_left t.index t.last ≡ m)

same_turn : (s t : Turn) → Some (Some s) ≡ Some (Some t) → s ≡ t
same_turn s t h = cc

-- a first turn says how many turns there are
first_turn : (o w : Option ℤ) (t : Turn) → count_turn o w ≡ Some (Some t) → mag t.index < 2 ^ 63 → Turned o w t
first_turn None w t h l = absurd (let z : None ≡ Some (Some t) = h in cc)
first_turn (Some x) None t h l = absurd (let z : None ≡ Some (Some t) = h in cc)
first_turn (Some x) (Some (negsuc k)) t h l = absurd (let z : None ≡ Some (Some t) = h in cc)
first_turn (Some x) (Some (pos zero)) t h l = absurd (let z : Some None ≡ Some (Some t) = h in cc)
first_turn (Some x) (Some (pos (suc m))) t h l = by (within (x +ℤ pos m)) refl h
  where
    by : (o : Option ℤ) → within (x +ℤ pos m) ≡ o → turn_to x o ≡ Some (Some t) → Turned (Some x) (Some (pos (suc m))) t
    by None q g = absurd (let z : None ≡ Some (Some t) = g in cc)
    by (Some y) q g =
        let made : Turn = record { index = x; last = y } in
        let same = same_turn made t g in
        let small : mag x < 2 ^ 63 = subst (λ (s : Turn). mag s.index < 2 ^ 63) (sym same) l in
        let u = has_range (x +ℤ pos m) y q in
        let counts : Counts (Some x) (Some (pos (suc m))) x (suc m) = (refl, refl, λ k b. no_none (x +ℤ pos k) (between x k m (omega arith) small u.0)) in
        let turns : Turned (Some x) (Some (pos (suc m))) made = (m, counts, ap (turns_left x) (sym u.1) ∙ left_of x m) in
        subst (λ (t : Turn). Turned (Some x) (Some (pos (suc m))) t) same turns

-- it has no turn, or its base or count is a fault
no_turns : (o w : Option ℤ) → count_turn o w ≡ Some None → (b : ℤ) × Counts o w b 0
no_turns None w h = absurd (let z : None ≡ Some None = h in cc)
no_turns (Some x) None h = absurd (let z : None ≡ Some None = h in cc)
no_turns (Some x) (Some (negsuc k)) h = absurd (let z : None ≡ Some None = h in cc)
no_turns (Some x) (Some (pos zero)) h = (x, (refl, refl, λ k l. absurd (omega arith)))
no_turns (Some x) (Some (pos (suc m))) h = by (within (x +ℤ pos m)) h
  where
    by : (o : Option ℤ) → turn_to x o ≡ Some None → (b : ℤ) × Counts (Some x) (Some (pos (suc m))) b 0
    by None g = absurd (let z : None ≡ Some None = g in cc)
    by (Some y) g = absurd cc

no_count : (o w : Option ℤ) → count_turn o w ≡ None → (b : ℤ) (n : ℕ) → Counts o w b n → ⊥
no_count None w h b n c = let z = c.0 in cc
no_count (Some x) None h b n c = let z = c.1 in cc
no_count (Some x) (Some (negsuc k)) h b n c = let z = c.1 in cc
no_count (Some x) (Some (pos zero)) h b n c = cc
no_count (Some x) (Some (pos (suc m))) h b n c =
    let base : x ≡ b = let z = c.0 in cc in
    let count : suc m ≡ n = let z = c.1 in cc in
    by (within (x +ℤ pos m)) (ap (λ y. within (y +ℤ pos m)) base) h (c.2 m (omega arith))
  where
    by : (o : Option ℤ) → o ≡ within (b +ℤ pos m) → turn_to x o ≡ None → within (b +ℤ pos m) ≢ None → ⊥
    by None q g l = l (sym q)
    by (Some y) q g l = cc

pub count_left : (i x : ℕ) (a n : Exp) (v : View) (t : Option Turn) (e : Store) → is_at_itself (counting x a n v t) ≡ true → is_sound (counting x a n v t) ≡ true → count_turn (value_of a e) (value_of n e) ≡ Some None →
    Acted i (counting x a n v t) e (Some outcome.Ended) (counting x a n v t) e
count_left i x a n v None e at sound h = let c = no_turns (value_of a e) (value_of n e) h in record { did = ([], does_count_none c.1); plan = refl; sound = sound; outcome = refl }
count_left i x a n v (Some t) e at sound h = absurd cc

pub count_faulted : (i x : ℕ) (a n : Exp) (v : View) (t : Option Turn) (e : Store) → is_at_itself (counting x a n v t) ≡ true → count_turn (value_of a e) (value_of n e) ≡ None → Acted i (counting x a n v t) e None (counting x a n v t) e
count_faulted i x a n v None e at h = (refl, refl, ([], faults_count (no_count (value_of a e) (value_of n e) h)))
count_faulted i x a n v (Some t) e at h = absurd cc

-- the first turn has begun
pub count_taken : (i x : ℕ) (a n : Exp) (v w : View) (t : Turn) (o : Outcome) (e f : Store) → count_turn (value_of a e) (value_of n e) ≡ Some (Some t) → mag t.index < 2 ^ 63 → w ≡ begun v.plan → o ≡ outcome_of (begin v.plan) → f ≡ set_to e x (datum.Int t.index) →
    Acted i (counting x a n v None) e (Some o) (counting x a n w (Some t)) f
count_taken i x a n v w t o e f h l g q z =
    subst (λ (u : View). Acted i (counting x a n v None) e (Some o) (counting x a n u (Some t)) f) (sym g)
    (let p = v.plan in
    let b = t.index +ℤ pos 1 in
    let m = turns_left t.index t.last in
    let turns = first_turn (value_of a e) (value_of n e) t h l in
    let made : Step (Fresh (COUNT i x a n p)) e i action.Quiet [] (Turns (begin p) x b turns.0 p) (set_to e x (datum.Int t.index)) = does_count turns.1 in
    let by_turns = subst (λ k. Step (Fresh (COUNT i x a n p)) e i action.Quiet [] (Turns (begin p) x b k p) (set_to e x (datum.Int t.index))) (sym turns.2) made in
    let by_store = subst (λ (k : Store). Step (Fresh (COUNT i x a n p)) e i action.Quiet [] (Turns (begin p) x b m p) k) (sym z) by_turns in
    let u : outcome_of (Turns (begin p) x b m p) ≡ outcome_of (begin p) = unless_goes (outcome_of (begin p)) (begin_goes p) in
    let after : left_by o (Turns (begin p) x b m p) ≡ Turns (begin p) x b m p = ap (λ y. left_by y (Turns (begin p) x b m p)) (q ∙ sym u) ∙ left_same (Turns (begin p) x b m p) in
    record {
      did = ([], subst (λ (r : Rest). Step (Fresh (COUNT i x a n p)) e i action.Quiet [] r f) (sym after) by_store);
      plan = refl;
      sound = refl;
      outcome = q ∙ sym u ∙ ap outcome_of (sym after);
    })

-- the next turn of a replicated SEQ begins
one_more : (x y : ℤ) → int_lt x y ≡ true → turns_left x y ≡ suc (turns_left (x +ℤ pos 1) y)
one_more x y h = by (int_lt (x +ℤ pos 1) y) refl
  where
    by : (b : Bool) → int_lt (x +ℤ pos 1) y ≡ b → turns_left x y ≡ suc (if b then mag (y -ℤ (x +ℤ pos 1)) else 0)
    by true k = grind (arith, ints)
    by false k = grind (arith, ints)

pub count_next : (x : ℕ) (a n : Exp) (v w : View) (t s : Turn) (u : Option Turn) (o : Outcome) (e f : Store) → int_lt t.index t.last ≡ true → s ≡ record { index = t.index +ℤ pos 1; last = t.last } → w ≡ begun v.plan → o ≡ outcome_of (begin v.plan) → f ≡ set_to e x (datum.Int (t.index +ℤ pos 1)) →
    HasTurned t (counting x a n v u) e o (counting x a n w (Some s)) f
count_next x a n v w t s u o e f h k g q z =
    subst (λ (s : Turn). HasTurned t (counting x a n v u) e o (counting x a n w (Some s)) f) (sym k)
    (subst (λ (y : View). HasTurned t (counting x a n v u) e o (counting x a n y (Some (record { index = t.index +ℤ pos 1; last = t.last }))) f) (sym g)
    (let p = v.plan in
    let b = t.index +ℤ pos 1 in
    let m = turns_left b t.last in
    let r = Turns (begin p) x (b +ℤ pos 1) m p in
    let more : turns_left t.index t.last ≡ suc m = one_more t.index t.last h in
    let goes : outcome_of r ≡ outcome_of (begin p) = unless_goes (outcome_of (begin p)) (begin_goes p) in
    let after : left_by o r ≡ r = ap (λ y. left_by y r) (q ∙ sym goes) ∙ left_same r in
    let turned : turns_on Done x b (turns_left t.index t.last) p ≡ r = ap (λ k. turns_on Done x b k p) more in
    record {
      rest = λ i. after ∙ sym turned;
      plan = λ i. refl;
      sound = refl;
      outcome = q ∙ sym goes ∙ ap outcome_of (sym turned);
      value = z ∙ ap (λ k. index_on Done x b k e) (sym more);
    }))

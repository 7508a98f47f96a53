-- What waits on a path, and inputs that wait: a process that went on with them had them, as if each had begun where its message came.
use Rattle.std.proofs.Common.{◌≡◌, ℕ, suc, ◌+◌, ◌≤◌, Bool, true, false, ◌==◌, refl, sym, ap, subst, ◌∙◌, List, [], ◌∷◌, ◌++◌, Option, Some, None, ◌⊎◌, inl, inr, arith, eq-eqb, append_assoc, if◌then◌else◌}
use Rattle.std.proofs.lemmas.List.Elements.{Contains-append_left, Contains-append_right, Contains-append_cases}
use Rattle.std.specs.List.{Contains}
use Rattle.vc_process.proofs.Lists.{none, only, front_or}
use Rattle.vc_process.specs.declared.datum.Datum.{Datum}
use Rattle.vc_process.specs.ProcessStep.{ProcessStep, Offers, Wants, Chooses, Stops, Meets, Rests, Finishes, Receives}
use Rattle.vc_process.specs.Syntax.{Guards, no_guards, guard}
use Rattle.vc_process.specs.Values.{Store, holds}
use Rattle.std.specs.Prelude.{is_some}
use Rattle.vc_free.specs.Private.Delays.{after_input, after_guard}
use Rattle.vc_occam.specs.First.{own, choices, all_decided, is_true}
use Rattle.vc_occam.specs.InUse.{UsesLawfully}
use Rattle.vc_occam.specs.Laws.{Inserted, inserted_here, inserted_later}
use Rattle.vc_occam.specs.Remains.{Rest, Done, turns_on, beside_on, Step, does_offer, waits_input, waits_choose, in_then, in_turns, in_left, in_right}
use Rattle.vc_occam.specs.SiteActions.{SiteAction}
use Rattle.vc_occam.specs.SiteActions as action
use Rattle.vc_occam.specs.States.{State, StepsTo, Does, meeting, Waiting, output, input, waiting}
use Rattle.vc_occam.specs.Traces.{Comm, Out, Fin, In}
use Rattle.vc_occam.specs.declared.moves.Move.{Move}
use Rattle.vc_occam.specs.declared.moves.Move.TheVariants as move
use Rattle.vc_free.proofs.Begun.{Tells, tells_out, tells_end, tells_want, tells_choose, tells_stop, Path, still, quiet, tells, append, path_uses, Outs, no_out, one_out}
use Rattle.vc_occam.proofs.Counts.{out_of, fin_of, outs, fins}
use Rattle.vc_free.proofs.Delays.{delay, meld, an_input, a_guard}
use Rattle.vc_occam.proofs.Insertion.{is_inserted, inserted_keeps}
use Rattle.vc_occam.proofs.Lifting.{then_is, turns_is, index_is, left_is, right_is}
use Rattle.vc_occam.proofs.Preservation.{lawful, step_uses}
use Rattle.vc_occam.proofs.StepWaits.{step_waits}

-- ---- how many wait

abbrev pub total : (Waiting → ℕ) → List Waiting → ℕ
total f [] = 0
total f (w ∷ ws) = f w + total f ws

pub total_inserted : (f : Waiting → ℕ) {x : Waiting} {ws vs : List Waiting} → Inserted x ws vs → total f vs ≡ f x + total f ws
total_inserted f inserted_here = refl
total_inserted f {x = x} (inserted_later {y = y} {xs = xs} {ys = ys} h) = let e = total_inserted f h in omega arith

pub total_there : (f : Waiting → ℕ) (ws : List Waiting) (w : Waiting) → Contains ws w → f w ≤ total f ws
total_there f [] w h = absurd (none w h)
total_there f (v ∷ ws) w h = elim (front_or v ws w h) [
  | inl e ↦ (let same : f v ≡ f w = ap f e in omega arith)
  | inr k ↦ (let l = total_there f ws w k in omega arith)
]

-- outputs on the channel, and inputs
abbrev pub is_out : ℕ → Waiting → ℕ
is_out c (output i d) = if d == c then 1 else 0
is_out c (input i d) = 0

abbrev pub is_in : ℕ → Waiting → ℕ
is_in c (output i d) = 0
is_in c (input i d) = if d == c then 1 else 0

-- what communicates one thing changes nothing of what waits, but for the output that begins or is finished
fin_is : (c d : ℕ) → Fin c ∷ [] ≡ Fin d ∷ [] → c ≡ d
fin_is c d e = cc

told_outs : (c : ℕ) {s t : State} {i : ℕ} {d : SiteAction} {k : Comm} → Tells d k → StepsTo s i d (k ∷ []) t → total (is_out c) (waiting t.rest) + fin_of c k ≡ total (is_out c) (waiting s.rest) + out_of c k
told_outs c {s} {t} {i} (tells_out {c = d} {x = x}) st = let e = total_inserted (is_out c) (step_waits st) in omega arith
told_outs c {s} {t} {i} (tells_end {c = d}) st =
    let n = step_waits st in
    let e = total_inserted (is_out c) n.2 in
    let same : d ≡ n.0 = fin_is d n.0 n.1 in
    let f : fin_of c (Fin d) ≡ fin_of c (Fin n.0) = ap (λ z. fin_of c (Fin z)) same in
    omega arith
told_outs c tells_want st = let e = ap (total (is_out c)) (step_waits st) in omega arith
told_outs c tells_choose st = let e = ap (total (is_out c)) (step_waits st) in omega arith
told_outs c tells_stop st = let e = ap (total (is_out c)) (step_waits st) in omega arith

pub path_outs : (c : ℕ) {s t : State} {ks : List Comm} → Path s ks t → total (is_out c) (waiting t.rest) + fins c ks ≡ total (is_out c) (waiting s.rest) + outs c ks
path_outs c still = omega arith
path_outs c (quiet st h) = let e = ap (total (is_out c)) (step_waits st) in let r = path_outs c h in omega arith
path_outs c (tells w st h) = let e = told_outs c w st in let r = path_outs c h in omega arith

told_ins : (c : ℕ) {s t : State} {i : ℕ} {d : SiteAction} {k : Comm} → Tells d k → StepsTo s i d (k ∷ []) t → total (is_in c) (waiting t.rest) ≡ total (is_in c) (waiting s.rest)
told_ins c (tells_out {c = d} {x = x}) st = let e = total_inserted (is_in c) (step_waits st) in omega arith
told_ins c (tells_end {c = d}) st = let n = step_waits st in let e = total_inserted (is_in c) n.2 in omega arith
told_ins c tells_want st = ap (total (is_in c)) (step_waits st)
told_ins c tells_choose st = ap (total (is_in c)) (step_waits st)
told_ins c tells_stop st = ap (total (is_in c)) (step_waits st)

pub path_ins : (c : ℕ) {s t : State} {ks : List Comm} → Path s ks t → total (is_in c) (waiting t.rest) ≡ total (is_in c) (waiting s.rest)
path_ins c still = refl
path_ins c (quiet st h) = path_ins c h ∙ ap (total (is_in c)) (step_waits st)
path_ins c (tells w st h) = path_ins c h ∙ told_ins c w st

-- ---- inputs and guards that wait; of each channel on which a guard does, this is known
pub data Waits (G : ℕ → Type 0) : State → State → Type 0 where
  no_wait : {s : State} → Waits G s s
  input_waits : {s t u : State} {i c : ℕ} → StepsTo s i (action.Want c None) [] t → Waits G t u → Waits G s u
  guard_waits : {s t u : State} {i k c : ℕ} → G c → StepsTo s i (action.Choose k c None) [] t → Waits G t u → Waits G s u

-- what waits goes on waiting
pub waits_keep : {G : ℕ → Type 0} {s t : State} → Waits G s t → (w : Waiting) → Contains (waiting s.rest) w → Contains (waiting t.rest) w
waits_keep no_wait w k = k
waits_keep (input_waits st h) w k = waits_keep h w (inserted_keeps (step_waits st) w k)
waits_keep (guard_waits x st h) w k = waits_keep h w (inserted_keeps (step_waits st) w k)

pub waits_append : {G : ℕ → Type 0} {s t u : State} → Waits G s t → Waits G t u → Waits G s u
waits_append no_wait h = h
waits_append (input_waits st g) h = input_waits st (waits_append g h)
waits_append (guard_waits x st g) h = guard_waits x st (waits_append g h)

pub waits_map : {G H : ℕ → Type 0} {s t : State} → Waits G s t → ((c : ℕ) → G c → total (is_in c) (waiting t.rest) ≡ 0 ⊎ H c) → Waits H s t
waits_map no_wait f = no_wait
waits_map (input_waits st h) f = input_waits st (waits_map h f)
waits_map {t = t} (guard_waits {t = mid} {i = i} {c = c} x st h) f = elim (f c x) [
  | inl z ↦ absurd (let l = total_there (is_in c) (waiting t.rest) (input i c) (waits_keep h (input i c) (is_inserted (step_waits st))) in let o : is_in c (input i c) ≡ 1 = ap (λ b. if b then 1 else 0) (eq-eqb c c refl) in omega arith)
  | inr y ↦ guard_waits y st (waits_map h f)
]

abbrev state : Rest → Store → State
state r e = record { rest = r; store = e }

-- a step that brings no message may be made before they begin
pub before_waits : {G : ℕ → Type 0} {a b b2 : State} {i : ℕ} {d : SiteAction} {m : List Comm} → Waits G a b → StepsTo b i d m b2 → ((x : List ℕ) → d ≡ action.Message x → ⊥) → UsesLawfully a.rest → (a2 : State) × StepsTo a i d m a2 × Waits G a2 b2
before_waits {b2 = b2} no_wait st ne l = (b2, st, no_wait)
before_waits {a = a} (input_waits w h) st ne l =
    let z = before_waits h st ne (step_uses w l) in
    let q = delay (after_input ne) w z.1 (lawful a.rest l) in
    (state q.rest q.store, q.first, input_waits q.after z.2)
before_waits {a = a} (guard_waits x w h) st ne l =
    let z = before_waits h st ne (step_uses w l) in
    let q = delay (after_guard ne) w z.1 (lawful a.rest l) in
    (state q.rest q.store, q.first, guard_waits x q.after z.2)

-- one that brings a message: one of them has it at once, or the message is for another
pub data Gets (a : State) (x : List ℕ) (m : List Comm) (a2 : State) : Type 0 where
  by_input : {j c : ℕ} → StepsTo a j (action.Want c (Some x)) m a2 → Gets a x m a2
  by_guard : {j k c : ℕ} → StepsTo a j (action.Choose k c (Some x)) m a2 → Gets a x m a2
  by_other : {j : ℕ} → StepsTo a j (action.Message x) m a2 → Gets a x m a2

no_message : (c : ℕ) (y x : List ℕ) → action.Want c (Some y) ≡ action.Message x → ⊥
no_message c y x e = cc

no_message_by : (k c : ℕ) (y x : List ℕ) → action.Choose k c (Some y) ≡ action.Message x → ⊥
no_message_by k c y x e = cc

pub gets_message : {G : ℕ → Type 0} {a b b2 : State} {i : ℕ} {x : List ℕ} {m : List Comm} → Waits G a b → StepsTo b i (action.Message x) m b2 → UsesLawfully a.rest → (a2 : State) × Gets a x m a2 × Waits G a2 b2
gets_message {b2 = b2} no_wait st l = (b2, by_other st, no_wait)
gets_message {a = a} (input_waits w h) st l =
    let z = gets_message h st (step_uses w l) in elim z.1 [
      | by_input {c = c} s ↦ (let q = delay (after_input (no_message c _)) w s (lawful a.rest l) in (state q.rest q.store, by_input q.first, input_waits q.after z.2))
      | by_guard {k = k} {c = c} s ↦ (let q = delay (after_input (no_message_by k c _)) w s (lawful a.rest l) in (state q.rest q.store, by_guard q.first, input_waits q.after z.2))
      | by_other s ↦ elim (meld an_input w s (lawful a.rest l)) [
        | inl s2 ↦ (z.0, by_input s2, z.2)
        | inr q ↦ (state q.rest q.store, by_other q.first, input_waits q.after z.2)
      ]
    ]
gets_message {a = a} (guard_waits g w h) st l =
    let z = gets_message h st (step_uses w l) in elim z.1 [
      | by_input {c = c} s ↦ (let q = delay (after_guard (no_message c _)) w s (lawful a.rest l) in (state q.rest q.store, by_input q.first, guard_waits g q.after z.2))
      | by_guard {k = k} {c = c} s ↦ (let q = delay (after_guard (no_message_by k c _)) w s (lawful a.rest l) in (state q.rest q.store, by_guard q.first, guard_waits g q.after z.2))
      | by_other s ↦ elim (meld a_guard w s (lawful a.rest l)) [
        | inl s2 ↦ (z.0, by_guard s2, z.2)
        | inr q ↦ (state q.rest q.store, by_other q.first, guard_waits g q.after z.2)
      ]
    ]

pub waits_outs : {G : ℕ → Type 0} (c : ℕ) {s t : State} → Waits G s t → total (is_out c) (waiting t.rest) ≡ total (is_out c) (waiting s.rest)
waits_outs c no_wait = refl
waits_outs c (input_waits st h) = let a = waits_outs c h in let b = total_inserted (is_out c) (step_waits st) in omega arith
waits_outs c (guard_waits x st h) = let a = waits_outs c h in let b = total_inserted (is_out c) (step_waits st) in omega arith

pub outs_keep : {s t : State} → Outs s t → (w : Waiting) → Contains (waiting s.rest) w → Contains (waiting t.rest) w
outs_keep no_out w k = k
outs_keep (one_out st h) w k = outs_keep h w (inserted_keeps (step_waits st) w k)

-- ---- what a process does, as steps of which none only begins to wait for a message

pub record Went (G : ℕ → Type 0) (first : State) (before ks : List Comm) (last : State) : Type 0 where
  pub hat : State
  pub path : Path first (before ++ ks) hat
  pub waits : Waits G hat last

module _ {G : ℕ → Type 0} {first a b : State} (before : List Comm) (p : Path first before a) (w : Waits G a b) (l : UsesLawfully first.rest) (none_in : (c : ℕ) → total (is_in c) (waiting first.rest) ≡ 0) where
  uses : UsesLawfully a.rest
  uses = path_uses p l

  one_told : {b2 : State} {i : ℕ} {d : SiteAction} {k : Comm} (ks : List Comm) → ks ≡ k ∷ [] → Tells d k → StepsTo b i d ks b2 → ((x : List ℕ) → d ≡ action.Message x → ⊥) → Went G first before ks b2
  one_told {b2} {i = i} {d = d} {k = k} ks e t st ne =
      let z = before_waits w (subst (λ z. StepsTo b i d z b2) e st) ne uses in
      record { hat = z.0; path = subst (λ x. Path first (before ++ x) z.0) (sym e) (append p (tells t z.1 still)); waits = z.2 }

  nothing_told : {b2 hat : State} (ks : List Comm) → ks ≡ [] → Path a [] hat → Waits G hat b2 → Went G first before ks b2
  nothing_told {hat = hat} ks e h g = record { hat = hat; path = subst (λ x. Path first (before ++ x) hat) (sym e) (append p h); waits = g }

  waits_in : {b2 : State} {i c : ℕ} (ks : List Comm) → ks ≡ [] → StepsTo b i (action.Want c None) ks b2 → Went G first before ks b2
  waits_in {b2} {i = i} {c = c} ks e st = nothing_told ks e still (waits_append w (input_waits (subst (λ z. StepsTo b i (action.Want c None) z b2) e st) no_wait))

  waits_guard : {b2 : State} {i k c : ℕ} (ks : List Comm) → ks ≡ [] → G c → StepsTo b i (action.Choose k c None) ks b2 → Went G first before ks b2
  waits_guard {b2} {i = i} {k = k} {c = c} ks e g st = nothing_told ks e still (waits_append w (guard_waits g (subst (λ z. StepsTo b i (action.Choose k c None) z b2) e st) no_wait))

  rests_now : {b2 : State} {i : ℕ} (ks : List Comm) → ks ≡ [] → StepsTo b i action.Quiet ks b2 → Went G first before ks b2
  rests_now {b2} {i = i} ks e st =
      let z = before_waits w (subst (λ z. StepsTo b i action.Quiet z b2) e st) (λ x e. cc) uses in
      nothing_told ks e (quiet z.1 still) z.2

  got : {b2 : State} {i : ℕ} {x : List ℕ} {c : ℕ} {y : Datum} (ks : List Comm) → ks ≡ In c y ∷ [] → StepsTo b i (action.Message x) ks b2 → Went G first before ks b2
  got {b2} {i = i} {x = x} {c = c} {y = y} ks e st =
      let z = gets_message w (subst (λ z. StepsTo b i (action.Message x) z b2) e st) uses in elim z.1 [
        | by_input s ↦ record { hat = z.0; path = subst (λ x. Path first (before ++ x) z.0) (sym e) (append p (tells tells_want s still)); waits = z.2 }
        | by_guard s ↦ record { hat = z.0; path = subst (λ x. Path first (before ++ x) z.0) (sym e) (append p (tells tells_choose s still)); waits = z.2 }
        | by_other {j = j} s ↦ absurd (let n = step_waits s in
            let t = total_inserted (is_in n.0) n.3 in
            let o : is_in n.0 (input j n.0) ≡ 1 = ap (λ b. if b then 1 else 0) (eq-eqb n.0 n.0 refl) in
            let z = path_ins n.0 p in
            let y = none_in n.0 in
            omega arith)
      ]

pub goes_with : {G : ℕ → Type 0} {first a b b2 : State} (before : List Comm) (p : Path first before a) (w : Waits G a b) (l : UsesLawfully first.rest) (none_in : (c : ℕ) → total (is_in c) (waiting first.rest) ≡ 0) (d : ProcessStep) (ks : List Comm) →
    ((i k c : ℕ) → d ≡ Chooses i k c None → G c) → Does b d ks b2 → Went G first before ks b2
goes_with before p w l none_in (Offers i c m) ks g (x, s, e, st) = one_told before p w l none_in ks e tells_out st (λ x e. cc)
goes_with before p w l none_in (Wants i c (Some m)) ks g (x, e, st) = one_told before p w l none_in ks e tells_want st (λ x e. cc)
goes_with before p w l none_in (Wants i c None) ks g (e, st) = waits_in before p w l none_in ks e st
goes_with before p w l none_in (Chooses i k c (Some m)) ks g (x, e, st) = one_told before p w l none_in ks e tells_choose st (λ x e. cc)
goes_with before p w l none_in (Chooses i k c None) ks g (e, st) = waits_guard before p w l none_in ks e (g i k c refl) st
goes_with before p w l none_in (Stops i c) ks g (e, st) = one_told before p w l none_in ks e tells_stop st (λ x e. cc)
goes_with before p w l none_in (Rests i) ks g (e, st) = rests_now before p w l none_in ks e st
goes_with before p w l none_in (Finishes c) ks g (i, e, st) = one_told before p w l none_in ks e tells_end st (λ x e. cc)
goes_with before p w l none_in (Receives c m) ks g (i, x, e, st) = got before p w l none_in ks e st
goes_with {first = first} before p w l none_in (Meets i j k c m) ks g (x, y, t, u, s, e, st1, st2, st3) =
    let z1 = before_waits w st1 (λ x e. cc) (path_uses p l) in
    let p1 = append p (tells tells_out z1.1 still) in
    let z2 = took m k z1.2 st2 (path_uses p1 l) in
    let p2 = append p1 z2.1 in
    let z3 = before_waits z2.2 st3 (λ x e. cc) (path_uses p2 l) in
    let p3 = append p2 (tells tells_end z3.1 still) in
    record {
      hat = z3.0;
      path = subst (λ x. Path first (before ++ x) z3.0) (sym e) (subst (λ x. Path first x z3.0) (append_assoc before (Out c x ∷ In c y ∷ []) (Fin c ∷ [])) (subst (λ x. Path first (x ++ Fin c ∷ []) z3.0) (append_assoc before (Out c x ∷ []) (In c y ∷ [])) p3));
      waits = z3.2;
    }
  where
    took : {G : ℕ → Type 0} {a b b2 : State} {j c : ℕ} {y : Datum} (m : List ℕ) (k : Option ℕ) → Waits G a b → StepsTo b j (meeting k c m) (In c y ∷ []) b2 → UsesLawfully a.rest → (a2 : State) × Path a (In c y ∷ []) a2 × Waits G a2 b2
    took m None w st l = let z = before_waits w st (λ x e. cc) l in (z.0, tells tells_want z.1 still, z.2)
    took m (Some g) w st l = let z = before_waits w st (λ x e. cc) l in (z.0, tells tells_choose z.1 still, z.2)

-- ---- the moves that are left where an output or an input began

pub data Begins : SiteAction → Type 0 where
  begins_out : {c : ℕ} → Begins (action.Offer c)
  begins_in : {c : ℕ} → Begins (action.Want c None)
  begins_guard : {k c : ℕ} → Begins (action.Choose k c None)

abbrev pub Used : ℕ → SiteAction → Move → Type 0
Used i (action.Offer c) mv = mv ≡ move.Offer i c
Used i (action.Want c o) mv = mv ≡ move.Want i c
Used i (action.Choose k c o) mv = (g : ℕ) × (d : ℕ) × (mv ≡ move.Choose i g d)
Used i d mv = ⊥

begins_goes : {r r1 : Rest} {e e1 : Store} {i : ℕ} {d : SiteAction} {m : List Comm} → Begins d → Step r e i d m r1 e1 → r1 ≡ Done → ⊥
begins_goes {i = i} (begins_out {c = c}) st h = none (output i c) (subst (λ r. Contains (waiting r) (output i c)) h (is_inserted (step_waits st)))
begins_goes {i = i} (begins_in {c = c}) st h = none (input i c) (subst (λ r. Contains (waiting r) (input i c)) h (is_inserted (step_waits st)))
begins_goes {i = i} (begins_guard {c = c}) st h = none (input i c) (subst (λ r. Contains (waiting r) (input i c)) h (is_inserted (step_waits st)))

pub begins_store : {r r1 : Rest} {e e1 : Store} {i : ℕ} {d : SiteAction} {m : List Comm} → Begins d → Step r e i d m r1 e1 → e1 ≡ e
begins_store b (in_then st) = begins_store b st
begins_store b (in_turns {r' = r1} {e' = e1} {v = v} {b = c} {n = n} {p = p} st) = index_is r1 v c n e1 (begins_goes b st) ∙ begins_store b st
begins_store b (in_left st) = begins_store b st
begins_store b (in_right st) = begins_store b st
begins_store begins_out (does_offer h) = refl
begins_store begins_in waits_input = refl
begins_store begins_guard (waits_choose dec g h) = refl
begins_store b st = elim b [ ]

choices_are : (i k : ℕ) (gs : Guards) (e : Store) (m : Move) → Contains (choices i k gs e) m → (g : ℕ) × (d : ℕ) × (m ≡ move.Choose i g d)
choices_are i k no_guards e m h = absurd (none m h)
choices_are i k (guard b c v p gs) e m h = elim (Contains-append_cases (if is_true (holds b e) then (move.Choose i k c ∷ []) else []) (choices i (suc k) gs e) m h) [
  | inl q ↦ one (is_true (holds b e)) q
  | inr q ↦ choices_are i (suc k) gs e m q
]
  where
    one : (t : Bool) → Contains (if t then (move.Choose i k c ∷ []) else []) m → (g : ℕ) × (d : ℕ) × (m ≡ move.Choose i g d)
    one true q = (k, c, sym (only (move.Choose i k c) m q))
    one false q = absurd (none m q)

pub kept_moves : {r r1 : Rest} {e e1 : Store} {i : ℕ} {d : SiteAction} {m : List Comm} → Begins d → Step r e i d m r1 e1 → (mv : Move) → Contains (own r e) mv → Contains (own r1 e1) mv ⊎ Used i d mv
kept_moves {e1 = e1} b (in_then {r' = r1} {ps = ps} st) mv k = elim (kept_moves b st mv k) [
  | inl h ↦ inl (subst (λ z. Contains (own z e1) mv) (sym (then_is r1 ps (begins_goes b st))) h)
  | inr u ↦ inr u
]
kept_moves b (in_turns {r' = r1} {e' = e1} {v = v} {b = c} {n = n} {p = p} st) mv k = elim (kept_moves b st mv k) [
  | inl h ↦ inl (subst (λ f. Contains (own (turns_on r1 v c n p) f) mv) (sym (index_is r1 v c n e1 (begins_goes b st))) (subst (λ z. Contains (own z e1) mv) (sym (turns_is r1 v c n p (begins_goes b st))) h))
  | inr u ↦ inr u
]
kept_moves {e1 = e1} b (in_left {r = r} {r' = r1} {q = q} {e = e} {mine = mine} st) mv k =
    let put : Contains (own r1 e1 ++ own q e1) mv → Contains (own (beside_on mine r1 q) e1) mv = λ h. subst (λ z. Contains (own z e1) mv) (sym (left_is mine r1 q (begins_goes b st))) h in
    elim (Contains-append_cases (own r e) (own q e) mv k) [
      | inl h ↦ elim (kept_moves b st mv h) [ inl g ↦ inl (put (Contains-append_left (own r1 e1) (own q e1) mv g)) | inr u ↦ inr u ]
      | inr h ↦ inl (put (Contains-append_right (own r1 e1) (own q e1) mv (subst (λ f. Contains (own q f) mv) (sym (begins_store b st)) h)))
    ]
kept_moves {e1 = e1} b (in_right {r = r} {q = q} {q' = q1} {e = e} {mine = mine} st) mv k =
    let put : Contains (own r e1 ++ own q1 e1) mv → Contains (own (beside_on mine r q1) e1) mv = λ h. subst (λ z. Contains (own z e1) mv) (sym (right_is mine r q1 (begins_goes b st))) h in
    elim (Contains-append_cases (own r e) (own q e) mv k) [
      | inl h ↦ inl (put (Contains-append_left (own r e1) (own q1 e1) mv (subst (λ f. Contains (own r f) mv) (sym (begins_store b st)) h)))
      | inr h ↦ elim (kept_moves b st mv h) [ inl g ↦ inl (put (Contains-append_right (own r e1) (own q1 e1) mv g)) | inr u ↦ inr u ]
    ]
kept_moves begins_out (does_offer {s = s} {c = c} {a = a} {e = e} h) mv k =
    inr (sym (only (move.Offer s c) mv (subst (λ b. Contains ((if b then move.Offer s c else move.Quiet s) ∷ []) mv) (ap is_some h) k)))
kept_moves begins_in (waits_input {s = s} {c = c}) mv k = inr (sym (only (move.Want s c) mv k))
kept_moves begins_guard (waits_choose {s = s} {gs = gs} {e = e} dec g h) mv k = inr (by_test (all_decided gs e) k)
  where
    by_test : (b : Bool) → Contains (if b then choices s 0 gs e else []) mv → (g : ℕ) × (d : ℕ) × (mv ≡ move.Choose s g d)
    by_test true k = choices_are s 0 gs e mv k
    by_test false k = absurd (none mv k)
kept_moves b st mv k = elim b [ ]

-- after outputs, and after inputs that wait, each move is left, or it is one that began, which waits
pub outs_moves : {s t : State} → Outs s t → (mv : Move) → Contains (own s.rest s.store) mv → Contains (own t.rest t.store) mv ⊎ ((i c : ℕ) × (mv ≡ move.Offer i c) × Contains (waiting t.rest) (output i c))
outs_moves no_out mv k = inl k
outs_moves (one_out {i = i} {c = c} st h) mv k = elim (kept_moves begins_out st mv k) [
  | inl g ↦ outs_moves h mv g
  | inr u ↦ inr (i, c, u, outs_keep h (output i c) (is_inserted (step_waits st)))
]

pub data Left (G : ℕ → Type 0) (t : State) (mv : Move) : Type 0 where
  is_left : Contains (own t.rest t.store) mv → Left G t mv
  is_begun : (i c : ℕ) → mv ≡ move.Want i c → Contains (waiting t.rest) (input i c) → Left G t mv
  is_chosen : (i g d c : ℕ) → mv ≡ move.Choose i g d → G c → Contains (waiting t.rest) (input i c) → Left G t mv

pub waits_moves : {G : ℕ → Type 0} {s t : State} → Waits G s t → (mv : Move) → Contains (own s.rest s.store) mv → Left G t mv
waits_moves no_wait mv k = is_left k
waits_moves (input_waits {i = i} {c = c} st h) mv k = elim (kept_moves begins_in st mv k) [
  | inl g ↦ waits_moves h mv g
  | inr u ↦ is_begun i c u (waits_keep h (input i c) (is_inserted (step_waits st)))
]
waits_moves (guard_waits {i = i} {c = c} x st h) mv k = elim (kept_moves begins_guard st mv k) [
  | inl g ↦ waits_moves h mv g
  | inr u ↦ is_chosen i u.0 u.1 c u.2 x (waits_keep h (input i c) (is_inserted (step_waits st)))
]

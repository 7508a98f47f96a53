-- Steps one after another: those of a part lift to what it is a part of, and those of two parts side by side are woven together.
use Rattle.std.proofs.Common.{◌≡◌, ℕ, ℤ, Bool, true, false, not, refl, sym, ap, subst, ◌∙◌, List, [], ◌∷◌, ◌++◌, Some, if◌then◌else◌, eqb}
use Rattle.std.proofs.lemmas.Bool.{eqb-true}
use Rattle.vc_process.specs.declared.datum.Datum.{Datum}
use Rattle.vc_occam.specs.SiteActions.{SiteAction}
use Rattle.vc_occam.specs.SiteActions as action
use Rattle.vc_process.specs.Messages.{message}
use Rattle.vc_occam.specs.States.{State, StepsTo}
use Rattle.vc_occam.specs.Traces.{Comm, Out, Fin, In, Stp, set, Merge, neither, from_left, from_right, join}
use Rattle.vc_occam.specs.Remains.{Rest, Done, Beside, then_on, turns_on, index_on, beside_on, Step, in_left, in_right, changes_rest, uses_rest, Apart}
use Rattle.vc_process.specs.Syntax.{Proc, Procs}
use Rattle.vc_process.specs.Usage.{Set}
use Rattle.vc_process.specs.Values.{Store}
use Rattle.vc_occam.proofs.Lifting.{goes, left_is, right_is, then_steps, turns_steps}
use Rattle.vc_occam.proofs.Agreement.{Alike, Written, write, AllIn, all_wider, like}
use Rattle.vc_occam.proofs.Preservation.{apart_left, apart_right}
use Rattle.vc_occam.proofs.UseBounds.{step_in}
use Rattle.vc_occam.proofs.Sites.{clash, not_true}
use Rattle.vc_occam.proofs.Stores.{same_store}

-- what is done at once where this is communicated: an input has its message, that of the value that it gets
pub data Speaks : SiteAction → Comm → Type 0 where
  offers : {c : ℕ} {x : Datum} → Speaks (action.Offer c) (Out c x)
  finishes : {c : ℕ} → Speaks action.Finish (Fin c)
  takes : {c : ℕ} {m : List ℕ} {x : Datum} → m ≡ message x → Speaks (action.Want c (Some m)) (In c x)
  chooses : {k c : ℕ} {m : List ℕ} {x : Datum} → m ≡ message x → Speaks (action.Choose k c (Some m)) (In c x)
  stops : {c : ℕ} → Speaks (action.StopChannel c) (Stp c)

-- steps one after another, each of which communicates nothing or once
pub data Run : State → List Comm → State → Type 0 where
  still : {s : State} → Run s [] s
  quiet : {s t u : State} {i : ℕ} {ks : List Comm} → StepsTo s i action.Quiet [] t → Run t ks u → Run s ks u
  tells : {s t u : State} {i : ℕ} {d : SiteAction} {k : Comm} {ks : List Comm} → Speaks d k → StepsTo s i d (k ∷ []) t → Run t ks u → Run s (k ∷ ks) u

-- what is not all over stays beside what stands there
pub beside_is : (mine : Set) (r q : Rest) → (beside_on mine r q ≡ Done → ⊥) → Beside mine r q ≡ beside_on mine r q
beside_is mine Done Done h = absurd (h refl)
beside_is mine r q h = refl

-- inside a SEQ, and inside a replicated SEQ
abbrev pub thens : Procs → State → State
thens ps s = record { rest = then_on s.rest ps; store = s.store }

abbrev pub turning : ℕ → ℤ → ℕ → Proc → State → State
turning v b n p s = record { rest = turns_on s.rest v b n p; store = index_on s.rest v b n s.store }

pub then_run : (ps : Procs) {s t : State} {ks : List Comm} → Run s ks t → Run (thens ps s) ks (thens ps t)
then_run ps still = still
then_run ps (quiet st h) = quiet (then_steps st ps) (then_run ps h)
then_run ps (tells w st h) = tells w (then_steps st ps) (then_run ps h)

pub turns_run : (v : ℕ) (b : ℤ) (n : ℕ) (p : Proc) {s t : State} {ks : List Comm} → Run s ks t → Run (turning v b n p s) ks (turning v b n p t)
turns_run v b n p still = still
turns_run v b n p (quiet st h) = quiet (turns_steps st v b n p) (turns_run v b n p h)
turns_run v b n p (tells w st h) = tells w (turns_steps st v b n p) (turns_run v b n p h)

pub append : {s t u : State} {ks ls : List Comm} → Run s ks t → Run t ls u → Run s (ks ++ ls) u
append still g = g
append (quiet st h) g = quiet st (append h g)
append (tells w st h) g = tells w st (append h g)

-- two parts side by side, each over variables of its own
abbrev pub both : Set → State → State → State
both mine s t = record { rest = beside_on mine s.rest t.rest; store = join mine s.store t.store }

-- neither changes what the other uses, and of what either uses the two have the other's variables alike
pub record Fit (mine : Set) (s t : State) : Type 0 where
  pub apart : Apart mine s.rest t.rest
  pub theirs : (v : ℕ) → uses_rest s.rest v ≡ true → mine v ≡ false → t.store v ≡ s.store v
  pub ours : (v : ℕ) → uses_rest t.rest v ≡ true → mine v ≡ true → s.store v ≡ t.store v

join_left : (mine : Set) (e f : Store) (v : ℕ) (b : Bool) → mine v ≡ b → (b ≡ false → f v ≡ e v) → (if b then e v else f v) ≡ e v
join_left mine e f v true h g = refl
join_left mine e f v false h g = g refl

join_right : (mine : Set) (e f : Store) (v : ℕ) (b : Bool) → mine v ≡ b → (b ≡ true → e v ≡ f v) → (if b then e v else f v) ≡ f v
join_right mine e f v true h g = g refl
join_right mine e f v false h g = refl

left_alike : (mine : Set) (s t : State) → Fit mine s t → Alike (uses_rest s.rest) s.store (join mine s.store t.store)
left_alike mine s t h v u = join_left mine s.store t.store v (mine v) refl (h.theirs v u)

right_alike : (mine : Set) (s t : State) → Fit mine s t → Alike (uses_rest t.rest) t.store (join mine s.store t.store)
right_alike mine s t h v u = join_right mine s.store t.store v (mine v) refl (h.ours v u)

mine_at : (m b : Bool) (x y z : Datum) → (b ≡ true → m ≡ true) → (if b then z else (if m then x else y)) ≡ (if m then (if b then z else x) else y)
mine_at true b x y z h = refl
mine_at false true x y z h = absurd (clash (h refl) refl)
mine_at false false x y z h = refl

theirs_at : (m b : Bool) (x y z : Datum) → (b ≡ true → m ≡ false) → (if b then z else (if m then x else y)) ≡ (if m then x else (if b then z else y))
theirs_at false b x y z h = refl
theirs_at true true x y z h = absurd (clash refl (h refl))
theirs_at true false x y z h = refl

-- mine are written in mine, theirs in theirs
write_left : (mine : Set) (ws : Written) (e f : Store) → AllIn mine ws → write ws (join mine e f) ≡ join mine (write ws e) f
write_left mine [] e f a = refl
write_left mine (w ∷ ws) e f a =
    ap (write ws) (same_store _ _ (λ k. mine_at (mine k) (eqb w.0 k) (e k) (f k) w.1 (λ q. sym (ap mine (eqb-true w.0 k q)) ∙ a.0)))
    ∙ write_left mine ws (set e w.0 w.1) f a.1

not_mine : (b : Bool) → not b ≡ true → b ≡ false
not_mine true h = absurd cc
not_mine false h = refl

write_right : (mine : Set) (ws : Written) (e f : Store) → AllIn (λ v. not (mine v)) ws → write ws (join mine e f) ≡ join mine e (write ws f)
write_right mine [] e f a = refl
write_right mine (w ∷ ws) e f a =
    ap (write ws) (same_store _ _ (λ k. theirs_at (mine k) (eqb w.0 k) (e k) (f k) w.1 (λ q. sym (ap mine (eqb-true w.0 k q)) ∙ not_mine (mine w.0) a.0)))
    ∙ write_right mine ws e (set f w.0 w.1) a.1

-- a variable that is not among those written keeps what it holds
pub kept : (s : Set) (ws : Written) (e : Store) (v : ℕ) → s v ≡ false → AllIn s ws → write ws e v ≡ e v
kept s [] e v h a = refl
kept s (w ∷ ws) e v h a =
    kept s ws (set e w.0 w.1) v h a.1 ∙ ap (λ (b : Bool). if b then w.1 else e v) (not_true (eqb w.0 v) (λ q. clash (sym (ap s (eqb-true w.0 v q)) ∙ a.0) h))

-- a step of one of two is a step of both
record Lifted (mine : Set) (s t s' t' : State) (i : ℕ) (d : SiteAction) (m : List Comm) : Type 0 where
  step : StepsTo (both mine s t) i d m (both mine s' t')
  fit : Fit mine s' t'

left_step : (mine : Set) {s s' : State} (t : State) {i : ℕ} {d : SiteAction} {m : List Comm} → Fit mine s t → StepsTo s i d m s' → Lifted mine s t s' t i d m
left_step mine {s} {s'} t {i} {d} {m} h st =
    let e = join mine s.store t.store in
    let l = like st e (left_alike mine s t h) in
    let ours = all_wider (changes_rest s.rest) mine l.written (λ v c. (h.apart.left v c).0) l.changed in
    let part = step_in st in
    let same = λ (v : ℕ) (c : changes_rest s.rest v ≡ false). ap (λ (f : Store). f v) l.there ∙ kept (changes_rest s.rest) l.written s.store v c l.changed in
    record {
      step = subst (λ f. Step (beside_on mine s.rest t.rest) e i d m (beside_on mine s'.rest t.rest) f) (write_left mine l.written s.store t.store ours ∙ ap (λ f. join mine f t.store) (sym l.there))
          (subst (λ r. Step r e i d m (beside_on mine s'.rest t.rest) (write l.written e)) (sym (left_is mine s.rest t.rest (goes st))) (in_left l.step));
      fit = record {
        apart = apart_left mine s.rest s'.rest t.rest part h.apart;
        theirs = λ v u f. h.theirs v (part.used v u) f ∙ sym (same v (not_true (changes_rest s.rest v) (λ c. clash (h.apart.left v c).0 f)));
        ours = λ v u f. same v (not_true (changes_rest s.rest v) (λ c. clash u (h.apart.left v c).1)) ∙ h.ours v u f;
      };
    }

right_step : (mine : Set) (s : State) {t t' : State} {i : ℕ} {d : SiteAction} {m : List Comm} → Fit mine s t → StepsTo t i d m t' → Lifted mine s t s t' i d m
right_step mine s {t} {t'} {i} {d} {m} h st =
    let e = join mine s.store t.store in
    let l = like st e (right_alike mine s t h) in
    let others = all_wider (changes_rest t.rest) (λ v. not (mine v)) l.written (λ v c. ap not (h.apart.right v c).0) l.changed in
    let part = step_in st in
    let same = λ (v : ℕ) (c : changes_rest t.rest v ≡ false). ap (λ (f : Store). f v) l.there ∙ kept (changes_rest t.rest) l.written t.store v c l.changed in
    record {
      step = subst (λ f. Step (beside_on mine s.rest t.rest) e i d m (beside_on mine s.rest t'.rest) f) (write_right mine l.written s.store t.store others ∙ ap (join mine s.store) (sym l.there))
          (subst (λ r. Step r e i d m (beside_on mine s.rest t'.rest) (write l.written e)) (sym (right_is mine s.rest t.rest (goes st))) (in_right l.step));
      fit = record {
        apart = apart_right mine s.rest t.rest t'.rest part h.apart;
        theirs = λ v u f. same v (not_true (changes_rest t.rest v) (λ c. clash u (h.apart.right v c).1)) ∙ h.theirs v u f;
        ours = λ v u f. h.ours v (part.used v u) f ∙ sym (same v (not_true (changes_rest t.rest v) (λ c. clash f (h.apart.right v c).0)));
      };
    }

-- the second goes on alone
alone : (mine : Set) (s : State) {t t' : State} {ls u : List Comm} → Run t ls t' → Merge [] ls u → Fit mine s t → Run (both mine s t) u (both mine s t')
alone mine s still neither h = still
alone mine s {t} (quiet st g) m h = let l = right_step mine s h st in quiet l.step (alone mine s g m l.fit)
alone mine s {t} (tells w st g) (from_right m) h = let l = right_step mine s h st in tells w l.step (alone mine s g m l.fit)

-- the first goes on from where it communicates next
abbrev GoesOn : Set → State → State → State → List Comm → Type 0
GoesOn mine s s' t' ks = (t : State) (ls u : List Comm) → Run t ls t' → Merge ks ls u → Fit mine s t → Run (both mine s t) u (both mine s' t')

next : (mine : Set) {s r : State} (s' t' : State) {t : State} {i : ℕ} {d : SiteAction} {k : Comm} {ks ls u : List Comm} → Speaks d k → StepsTo s i d (k ∷ []) r → GoesOn mine r s' t' ks → Run t ls t' → Merge (k ∷ ks) ls u → Fit mine s t → Run (both mine s t) u (both mine s' t')
next mine s' t' {t} {ls = ls} w st f still (from_left {u = u} m) h = let l = left_step mine t h st in tells w l.step (f t ls u still m l.fit)
next mine {s} s' t' w st f (quiet st' g) m h = let l = right_step mine s h st' in quiet l.step (next mine s' t' w st f g m l.fit)
next mine s' t' {t} {ls = ls} w st f (tells w' st' g) (from_left {u = u} m) h = let l = left_step mine t h st in tells w l.step (f t ls u (tells w' st' g) m l.fit)
next mine {s} s' t' w st f (tells w' st' g) (from_right m) h = let l = right_step mine s h st' in tells w' l.step (next mine s' t' w st f g m l.fit)

-- the steps of two parts make any merge of their communications
pub weave : (mine : Set) {s s' t t' : State} {ks ls u : List Comm} → Run s ks s' → Run t ls t' → Merge ks ls u → Fit mine s t → Run (both mine s t) u (both mine s' t')
weave mine {s} still g m h = alone mine s g m h
weave mine {t = t} (quiet st f) g m h = let l = left_step mine t h st in quiet l.step (weave mine f g m l.fit)
weave mine {s' = s'} {t' = t'} (tells w st f) g m h = next mine s' t' w st (λ t ls u g m h. weave mine f g m h) g m h

-- What has begun.
use Rattle.std.proofs.Common.{◌≡◌, ℕ, zero, suc, Bool, true, false, ◌&&◌, refl, ap, sym, ◌∙◌, List, [], ◌∷◌, length, map, set, get_or, arith, ◌<◌, ◌≤◌}
use Rattle.std.proofs.lemmas.Bool.{and_parts}
use Rattle.std.proofs.lemmas.Bool.Decides.{nat_tests}
use Rattle.std.specs.Prelude.{nat_lt}
use Rattle.vc_occam.specs.declared.frame.Frame.{Frame}
use Rattle.vc_occam.specs.declared.frame.Frame.TheViews.{out-Frame}
use Rattle.vc_occam.specs.declared.frame.Task.{Task}
use Rattle.vc_occam.specs.declared.outcome.Outcome.{Outcome}
use Rattle.vc_occam.specs.declared.outcome.Outcome.TheVariants as outcome
use Rattle.vc_process.specs.Syntax.{Proc, SEQ, PAR, Procs, part}
use Rattle.vc_process.specs.Usage.{changes}
use Rattle.vc_occam.specs.Remains.{Rest, Beside, begin, begin_all}
use Rattle.vc_occam.specs.Frames.{View, seq, par, all_sound, begun, besides, is_sound, outcome_of, plan_of, plans_of, same_outcome, task_view, view, view_of}
use Rattle.vc_occam.specs.Private.Frames.{shape, shown, task_views, unstopped, views, whole}
use Rattle.vc_occam.proofs.Endings.{and_then_outcome, begin_goes, goes_on, left_goes}
use Rattle.vc_occam.proofs.Lifting.{left_is}
use Rattle.vc_occam.proofs.Views.{view_out}

-- what was written stays, whether the site has stopped or not
pub plan_out : (f : Frame) → (view f).plan ≡ plan_of (out-Frame f).site (shape (out-Frame f).construct)
plan_out f = ap (λ (v : View). v.plan) (view_out f) ∙ written (out-Frame f).stopped
  where
    written : (b : Bool) → (view_of (out-Frame f).site b (shape (out-Frame f).construct)).plan ≡ plan_of (out-Frame f).site (shape (out-Frame f).construct)
    written true = refl
    written false = refl

-- a SEQ that begins comes to what its first part comes to
pub seq_outcome : (i : ℕ) (p : Proc) (ps : Procs) → outcome_of (begin (SEQ i (part p ps))) ≡ outcome_of (begin p)
seq_outcome i p ps = and_then_outcome (begin p) ps (begin_goes p)

pub same_as_itself : (o : Outcome) → same_outcome o o ≡ true
same_as_itself (outcome.Quiet i) = grind (arith, nat_tests)
same_as_itself o = refl

-- a process that goes on by itself has begun, where what it begins with is kept
pub task_begun : (v : View) (o : Outcome) (p : Proc) → v ≡ begun p → o ≡ outcome_of (begin p) → task_view (record { frame = v; begins = o }) ≡ begun p
task_begun v o p h g =
    let at : View → Outcome → View = λ w q. task_view (record { frame = w; begins = q }) in
    let seen : Rest → View = λ r. record { plan = p; rest = r; sound = true && same_outcome (outcome_of (begin p)) (outcome_of r) } in
    let known : Bool → View = λ b. record { plan = p; rest = begin p; sound = b } in
    ap (λ w. at w o) h ∙ ap (at (begun p)) g ∙ ap seen (left_goes (outcome_of (begin p)) (begin p) (begin_goes p)) ∙ ap known (same_as_itself (outcome_of (begin p)))

-- what a SEQ begins with is what its first part begins with
pub seq_begins_with : (i at : ℕ) (fs : List Frame) (f : Frame) (o : Outcome) → is_sound (seq (views fs) at) ≡ true → f ≡ get_or fs 0 f → o ≡ outcome_of (begin (view f).plan) → o ≡ outcome_of (begin (plan_of i (seq (views fs) at)))
seq_begins_with i at [] f o s h b = absurd (grind (arith, nat_tests))
seq_begins_with i at (x ∷ fs) f o s h b =
    b ∙ ap (λ (y : Frame). outcome_of (begin (view y).plan)) h ∙ sym (seq_outcome i (view x).plan (plans_of (views fs)))

-- the parts of a PAR begin one by one
abbrev pub all_begun : List View → List View
all_begun [] = []
all_begun (v ∷ vs) = begun v.plan ∷ all_begun vs

-- as many of them have begun
abbrev pub begun_to : ℕ → List View → List View
begun_to zero vs = vs
begun_to (suc k) [] = []
begun_to (suc k) (v ∷ vs) = begun v.plan ∷ begun_to k vs

-- each task of a sound PAR has a sound frame
pub task_sound : (k : ℕ) (ts : List (Task Frame)) (t : Task Frame) → k < length ts → t ≡ get_or ts k t → all_sound (task_views ts) ≡ true → (view t.frame).sound ≡ true
task_sound k [] t l h s = absurd (omega arith)
task_sound zero (x ∷ ts) t l h s = ap (λ (y : Task Frame). (view y.frame).sound) h ∙ (and_parts _ _ (and_parts _ (all_sound (task_views ts)) s).0).0
task_sound (suc k) (x ∷ ts) t l h s = task_sound k ts t (omega arith) h (and_parts (shown x).sound _ s).1

-- the next one has begun, where those before it have
pub begun_more : (k : ℕ) (ts : List (Task Frame)) (vs : List View) (t u : Task Frame) → k < length ts → t ≡ get_or ts k t → task_views ts ≡ begun_to k vs → shown u ≡ begun (whole t) → task_views (set ts k u) ≡ begun_to (suc k) vs
begun_more k [] vs t u l h e b = absurd (omega arith)
begun_more zero (x ∷ ts) vs t u l h e b =
    ap (λ (v : View). v ∷ task_views ts) (b ∙ ap (λ (y : Task Frame). begun (whole y)) h) ∙ ap first e
  where
    first : List View → List View
    first = begun_to 1
begun_more (suc k) (x ∷ ts) [] t u l h e b = absurd (cc)
begun_more (suc k) (x ∷ ts) (v ∷ vs) t u l h e b =
    let head : shown x ≡ begun v.plan = cc in
    let tail : task_views ts ≡ begun_to k vs = cc in
    ap (λ (w : View). w ∷ task_views (set ts k u)) head ∙ ap (λ ws. begun v.plan ∷ ws) (begun_more k ts vs t u (omega arith) h tail b)

-- then all have
pub begun_whole : (k : ℕ) (vs : List View) → length vs ≤ k → begun_to k vs ≡ all_begun vs
begun_whole zero [] l = refl
begun_whole (suc k) [] l = refl
begun_whole zero (v ∷ vs) l = absurd (omega arith)
begun_whole (suc k) (v ∷ vs) l = ap (λ ws. begun v.plan ∷ ws) (begun_whole k vs (omega arith))

besides_begun : (vs : List View) → besides (all_begun vs) ≡ begin_all (plans_of vs)
besides_begun [] = refl
besides_begun (v ∷ vs) = left_is (changes v.plan) (begin v.plan) (besides (all_begun vs)) (goes_on (begin_goes v.plan)) ∙ ap (Beside (changes v.plan) (begin v.plan)) (besides_begun vs)

begun_plans_of : (vs : List View) → plans_of (all_begun vs) ≡ plans_of vs
begun_plans_of [] = refl
begun_plans_of (v ∷ vs) = ap (part v.plan) (begun_plans_of vs)

pub all_begun_sound : (vs : List View) → all_sound (all_begun vs) ≡ true
all_begun_sound [] = refl
all_begun_sound (v ∷ vs) = all_begun_sound vs

-- a PAR all of whose parts have begun has begun
pub par_begins : (i : ℕ) (xs ys : List (Task View)) → is_sound (par xs) ≡ true → map task_view ys ≡ all_begun (map task_view xs) → unstopped i (par ys) ≡ begun (plan_of i (par xs))
par_begins i [] ys s e = absurd (grind (arith, nat_tests))
par_begins i (x ∷ xs) [] s e = absurd (cc)
par_begins i (x ∷ xs) (y ∷ ys) s e =
    let vs = map task_view (x ∷ xs) in
    let seen : List View → View = λ ws. record { plan = PAR i (plans_of ws); rest = besides ws; sound = nat_lt 0 (length (y ∷ ys)) && all_sound ws } in
    let planned : Procs → View = λ ps. record { plan = PAR i ps; rest = besides (all_begun vs); sound = nat_lt 0 (length (y ∷ ys)) && all_sound (all_begun vs) } in
    let resting : Rest → View = λ r. record { plan = PAR i (plans_of vs); rest = r; sound = nat_lt 0 (length (y ∷ ys)) && all_sound (all_begun vs) } in
    let known : Bool → View = λ b. record { plan = PAR i (plans_of vs); rest = begin (PAR i (plans_of vs)); sound = b } in
    ap seen e ∙ ap planned (begun_plans_of vs) ∙ ap resting (besides_begun vs) ∙ ap known (all (length ys) _ (all_begun_sound vs))
  where
    all : (n : ℕ) (c : Bool) → c ≡ true → (nat_lt 0 (suc n) && c) ≡ true
    all n true h = grind (arith, nat_tests)
    all n false h = absurd (let z : false ≡ true = h in cc)

-- How frames are made of a process.
use Rattle.std.proofs.Common.{◌≡◌, ℕ, zero, suc, Bool, true, false, ◌&&◌, append_assoc, append-nil, drop, ◌≤◌, ◌<◌, subst, ◌+◌, refl, ap, sym, ◌∙◌, List, [], ◌∷◌, ◌++◌, map, length, arith, None, Vec, Global, vec_len}
use Rattle.std.proofs.lemmas.Bool.Decides.{nat_tests}
use Rattle.std.proofs.lemmas.List.{at_drop_all, length-map}
use Rattle.std.specs.Prelude.{nat_lt, ◌==◌}
use Rattle.vc_process.specs.declared.process.Process.{Process}
use Rattle.vc_process.specs.declared.process.Guard.{Guard as WrittenGuard}
use Rattle.vc_process.specs.declared.process.Process.TheOpen as layer
use Rattle.vc_process.specs.declared.process.Process.TheFolds.{fold_out-Process}
use Rattle.vc_process.specs.declared.process.Process.TheViews.{out-Guard}
use Rattle.vc_process.specs.InOrder.{branch_layer, guard_layer, number}
use Rattle.vc_process.specs.Private.InOrder.{number_guard}
use Rattle.vc_process.specs.Numbering.{Numbered, NumberedBranch, NumberedGuard, branch_sites, branches_from, guard_sites, guards_from, numbered, part_sites, parts_from}
use Rattle.vc_process.specs.Syntax.{Branches, Guards, Proc, Test, ALT, IF, PAR, SEQ, branch, guard, no_parts, part}
use Rattle.vc_process.specs.Terms.{as_test}
use Rattle.vc_process.proofs.Numbers.{number_guard_out}
use Rattle.vc_occam.specs.declared.frame.Branch.{Branch}
use Rattle.vc_occam.specs.declared.frame.Choice.TheVariants.{Open}
use Rattle.vc_occam.specs.declared.frame.Frame.{Frame}
use Rattle.vc_occam.specs.declared.frame.Guard.{Guard}
use Rattle.vc_occam.specs.declared.frame.Task.{Task}
use Rattle.vc_occam.specs.declared.outcome.Outcome.{Outcome}
use Rattle.vc_occam.specs.declared.outcome.Outcome.TheVariants as outcome
use Rattle.vc_occam.specs.Remains.{Rest, Fresh, and_then, begin}
use Rattle.vc_occam.specs.Frames.{View, all_sound, begun, bodies, branches_of, branching, guarded, guarding, guards_of, outcome_of, par, plans_of, seq, task_view, view}
use Rattle.vc_occam.specs.Private.Frames.{seen_branch, seen_guard, seen_task, shown, task_views, unstopped, views}
use Rattle.vc_occam.proofs.Starts.{all_begun, all_begun_sound, par_begins, seq_outcome}

-- how many sites each of these has, and what is made of it from one site on
pub record Way (N X : Type 0) : Type 0 where
  pub sites : N → ℕ
  pub sum : List N → ℕ
  pub at : ℕ → N → X
  pub none : sum [] ≡ 0
  pub more : (n : N) (ns : List N) → sum (n ∷ ns) ≡ sites n + sum ns

abbrev pub made_from : {N X : Type 0} → Way N X → ℕ → List N → List X
made_from w i [] = []
made_from w i (n ∷ ns) = w.at i n ∷ made_from w (i + w.sites n) ns

-- of all of these some are left, and what is made of the others is made
abbrev pub IsMade : {N X : Type 0} → Way N X → (start next : ℕ) → (all left : List N) → List X → Type 0
IsMade w start next all left xs = (next + w.sum left ≡ start + w.sum all) × (xs ++ made_from w next left ≡ made_from w start all)

-- one more is made
pub one_made : {N X : Type 0} (w : Way N X) (start next later : ℕ) (n : N) (all ns left : List N) (x : X) (xs ys : List X) → ns ≡ n ∷ left → later ≡ next + w.sites n → x ≡ w.at next n → ys ≡ xs ++ x ∷ [] → IsMade w start next all ns xs → IsMade w start later all left ys
one_made w start next later n all ns left x xs ys h e g f (b, c) =
    let m : next + (w.sites n + w.sum left) ≡ start + w.sum all = ap (λ k. next + k) (sym (ap w.sum h ∙ w.more n left)) ∙ b in (
      omega arith,
      ap (λ us. us ++ made_from w later left) f ∙ append_assoc xs (x ∷ []) (made_from w later left) ∙ ap (λ k. xs ++ x ∷ made_from w k left) e
          ∙ ap (λ y. xs ++ y ∷ made_from w (next + w.sites n) left) g ∙ ap (λ us. xs ++ made_from w next us) (sym h) ∙ c,
    )

-- none is left
pub all_made : {N P X : Type 0} (w : Way N X) (num : P → N) (start next k : ℕ) (ps qs : List P) (xs : List X) → ps ≡ qs → length ps ≤ k → IsMade w start next (map num ps) (map num (drop k ps)) xs →
    (next ≡ start + w.sum (map num qs)) × (xs ≡ made_from w start (map num qs))
all_made w num start next k ps qs xs e l (b, c) =
    let none : next + w.sum (map num (drop k ps)) ≡ next + w.sum [] = at_drop_all (λ us. next + w.sum (map num us)) ps k l in
    let all : start + w.sum (map num ps) ≡ start + w.sum (map num qs) = ap (λ us. start + w.sum (map num us)) e in
    let zero = w.none in (
      omega arith,
      sym (append-nil xs) ∙ sym (at_drop_all (λ us. xs ++ made_from w next (map num us)) ps k l) ∙ c ∙ ap (λ us. made_from w start (map num us)) e,
    )

-- parts that have begun
abbrev pub parts_way : Way Numbered View
parts_way = record { sites = λ n. n.sites; sum = part_sites; at = λ i n. begun (n.tree i); none = refl; more = λ n ns. refl }

abbrev pub shown_branch : Branch Frame → Test × View
shown_branch b = (as_test b.cond, view b.body)

abbrev pub branches_way : Way NumberedBranch (Test × View)
branches_way = record { sites = λ b. b.then_do.sites; sum = branch_sites; at = λ i b. (b.when, begun (b.then_do.tree i)); none = refl; more = λ b bs. refl }

abbrev pub shown_guard : Guard Frame → Test × ℕ × ℕ × View
shown_guard g = (as_test g.cond, g.chan, g.var, view g.body)

abbrev pub guards_way : Way NumberedGuard (Test × ℕ × ℕ × View)
guards_way = record { sites = λ g. g.then_do.sites; sum = guard_sites; at = λ i g. (g.when, g.chan, g.var, begun (g.then_do.tree i)); none = refl; more = λ g gs. refl }

pub plans_made : (i : ℕ) (ns : List Numbered) → plans_of (made_from parts_way i ns) ≡ parts_from i ns
plans_made i [] = refl
plans_made i (n ∷ ns) = ap (part (n.tree i)) (plans_made (i + n.sites) ns)

parts_begun : (i : ℕ) (ns : List Numbered) → all_begun (made_from parts_way i ns) ≡ made_from parts_way i ns
parts_begun i [] = refl
parts_begun i (n ∷ ns) = ap (λ vs. begun (n.tree i) ∷ vs) (parts_begun (i + n.sites) ns)

pub made_begun : (i : ℕ) (ns : List Numbered) (vs : List View) → vs ≡ made_from parts_way i ns → all_begun vs ≡ vs
made_begun i ns vs h = ap all_begun h ∙ parts_begun i ns ∙ sym h

all_begun_stand : (vs : List View) → all_begun vs ≡ vs → all_sound vs ≡ true
all_begun_stand vs h = ap all_sound (sym h) ∙ all_begun_sound vs

filled : (n : ℕ) (b : Bool) → b ≡ true → (nat_lt 0 (suc n) && b) ≡ true
filled n true h = grind (arith, nat_tests)
filled n false h = absurd (let z : false ≡ true = h in cc)

-- a SEQ whose parts have begun stands for one that has begun
pub seq_stands : (i : ℕ) (v : View) (vs : List View) → all_begun (v ∷ vs) ≡ v ∷ vs → unstopped i (seq (v ∷ vs) 0) ≡ begun (SEQ i (plans_of (v ∷ vs)))
seq_stands i v vs h =
    let e : begun v.plan ≡ v = cc in
    let ps = plans_of vs in
    let whole : Rest → Bool → View = λ r b. record { plan = SEQ i (part v.plan ps); rest = r; sound = b } in
    ap (λ (w : View). whole (and_then w.rest ps) (nat_lt 0 (suc (length vs)) && all_sound (v ∷ vs))) (sym e)
    ∙ ap (whole (and_then (begin v.plan) ps)) (filled (length vs) _ (all_begun_stand (v ∷ vs) h))

-- and so does a PAR
pub par_stands : (i : ℕ) (t : Task View) (ts : List (Task View)) → all_begun (map task_view (t ∷ ts)) ≡ map task_view (t ∷ ts) → unstopped i (par (t ∷ ts)) ≡ begun (PAR i (plans_of (map task_view (t ∷ ts))))
par_stands i t ts h = par_begins i (t ∷ ts) (t ∷ ts) (filled (length ts) _ (all_begun_stand (map task_view (t ∷ ts)) h)) (sym h)

-- branches that have begun
pub branches_made : (i : ℕ) (bs : List (Branch Frame)) (ns : List NumberedBranch) → map shown_branch bs ≡ made_from branches_way i ns → (branches_of (map seen_branch bs) ≡ branches_from i ns) × (all_sound (bodies (map seen_branch bs)) ≡ true)
branches_made i [] [] h = (refl, refl)
branches_made i [] (n ∷ ns) h = absurd (cc)
branches_made i (b ∷ bs) [] h = absurd (cc)
branches_made i (b ∷ bs) (n ∷ ns) h =
    let first : shown_branch b ≡ (n.when, begun (n.then_do.tree i)) = cc in
    let later = branches_made (i + n.then_do.sites) bs ns cc in (
      ap (λ (x : Test × View). branch x.0 x.1.plan (branches_of (map seen_branch bs))) first ∙ ap (branch n.when (n.then_do.tree i)) later.0,
      ap (λ (x : Test × View). x.1.sound && all_sound (bodies (map seen_branch bs))) first ∙ later.1,
    )

pub if_stands : (site i : ℕ) (bs : List (Branch Frame)) (ns : List NumberedBranch) → map shown_branch bs ≡ made_from branches_way i ns → unstopped site (branching (map seen_branch bs) None) ≡ begun (IF site (branches_from i ns))
if_stands site i bs ns h =
    let made = branches_made i bs ns h in
    let whole : Branches → Bool → View = λ qs b. record { plan = IF site qs; rest = Fresh (IF site qs); sound = true && b } in
    ap (λ qs. whole qs (all_sound (bodies (map seen_branch bs)))) made.0 ∙ ap (whole (branches_from i ns)) made.1

-- guards that have begun
pub guards_made : (i : ℕ) (gs : List (Guard Frame)) (ns : List NumberedGuard) → map shown_guard gs ≡ made_from guards_way i ns → (guards_of (map seen_guard gs) ≡ guards_from i ns) × (all_sound (guarded (map seen_guard gs)) ≡ true)
guards_made i [] [] h = (refl, refl)
guards_made i [] (n ∷ ns) h = absurd (cc)
guards_made i (g ∷ gs) [] h = absurd (cc)
guards_made i (g ∷ gs) (n ∷ ns) h =
    let first : shown_guard g ≡ (n.when, n.chan, n.var, begun (n.then_do.tree i)) = cc in
    let later = guards_made (i + n.then_do.sites) gs ns cc in (
      ap (λ (x : Test × ℕ × ℕ × View). guard x.0 x.1 x.2 x.3.plan (guards_of (map seen_guard gs))) first ∙ ap (guard n.when n.chan n.var (n.then_do.tree i)) later.0,
      ap (λ (x : Test × ℕ × ℕ × View). x.3.sound && all_sound (guarded (map seen_guard gs))) first ∙ later.1,
    )

length-made : {N X : Type 0} (w : Way N X) (i : ℕ) (ns : List N) → length (made_from w i ns) ≡ length ns
length-made w i [] = refl
length-made w i (n ∷ ns) = ap suc (length-made w (i + w.sites n) ns)

few : (n : ℕ) (b : Bool) → n < 65536 → b ≡ true → (nat_lt n 65536 && (true && b)) ≡ true
few n true l h = grind (arith, nat_tests)
few n false l h = absurd (let z : false ≡ true = h in cc)

pub alt_stands : (site i : ℕ) (gs : List (Guard Frame)) (ns : List NumberedGuard) → length ns < 65536 → map shown_guard gs ≡ made_from guards_way i ns → unstopped site (guarding (map seen_guard gs) Open) ≡ begun (ALT site (guards_from i ns))
alt_stands site i gs ns l h =
    let made = guards_made i gs ns h in
    let same : length (map shown_guard gs) ≡ length ns = ap length h ∙ length-made guards_way i ns in
    let k : length (map seen_guard gs) < 65536 = simp length-map (let z : length gs ≡ length ns = simp length-map at same in omega arith) in
    let whole : Guards → Bool → View = λ qs b. record { plan = ALT site qs; rest = Fresh (ALT site qs); sound = b } in
    ap (λ qs. whole qs (nat_lt (length (map seen_guard gs)) 65536 && (true && all_sound (guarded (map seen_guard gs))))) made.0 ∙ ap (whole (guards_from i ns)) (few (length (map seen_guard gs)) _ k made.1)

-- each process has a site
some_site : (l : layer.Process-F Numbered NumberedBranch NumberedGuard) → 1 ≤ (numbered l).sites
some_site layer.Skip = omega arith
some_site x = omega arith

pub has_site : (p : Process) → 1 ≤ (number p).sites
unfolding number
has_site p = subst (λ (n : Numbered). 1 ≤ n.sites) (sym (fold_out-Process Numbered NumberedBranch NumberedGuard numbered branch_layer guard_layer p)) (some_site _)

-- there are no more guards than sites
pub few_guards : (gs : List WrittenGuard) → length (map number_guard gs) ≤ guard_sites (map number_guard gs)
few_guards [] = omega arith
few_guards (g ∷ gs) =
    let one : 1 ≤ (number_guard g).then_do.sites = subst (λ (n : NumberedGuard). 1 ≤ n.then_do.sites) (sym (number_guard_out g)) (has_site (out-Guard g).body) in
    let rest = few_guards gs in
    omega arith

-- one frame more
pub views_push : (fs : List Frame) (f : Frame) → views (fs ++ f ∷ []) ≡ views fs ++ view f ∷ []
views_push [] f = refl
views_push (g ∷ fs) f = ap (λ vs. view g ∷ vs) (views_push fs f)

pub tasks_push : (ts : List (Task Frame)) (t : Task Frame) → task_views (ts ++ t ∷ []) ≡ task_views ts ++ shown t ∷ []
tasks_push [] t = refl
tasks_push (x ∷ ts) t = ap (λ vs. shown x ∷ vs) (tasks_push ts t)

-- a SEQ begins with its first part
pub begins_first : (site : ℕ) (fs : List Frame) (f : Frame) (p : Proc) (o : Outcome) → fs ≡ [] → view f ≡ begun p → o ≡ outcome_of (begin p) → o ≡ outcome_of (begin (SEQ site (plans_of (views (fs ++ f ∷ [])))))
begins_first site [] f p o e h g = g ∙ ap (λ (v : View). outcome_of (begin v.plan)) (sym h)
begins_first site (x ∷ fs) f p o e h g = absurd (cc)

pub begins_still : (site : ℕ) (fs : List Frame) (f : Frame) (o : Outcome) → 0 < length fs → o ≡ outcome_of (begin (SEQ site (plans_of (views fs)))) → o ≡ outcome_of (begin (SEQ site (plans_of (views (fs ++ f ∷ [])))))
begins_still site [] f o l h = absurd (omega arith)
begins_still site (x ∷ fs) f o l h = h ∙ seq_outcome site (view x).plan (plans_of (views fs)) ∙ sym (seq_outcome site (view x).plan (plans_of (views (fs ++ f ∷ []))))

-- a frame of a SEQ that has no part, or some
abbrev Stands : View → Outcome → Proc → Type 0
Stands v o p = (v ≡ begun p) × (o ≡ outcome_of (begin p))

pub no_part_stands : (site i : ℕ) (fs : List Frame) (ns : List Numbered) (v : View) (o : Outcome) → fs ≡ [] → views fs ≡ made_from parts_way i ns → v ≡ begun (SEQ site no_parts) → o ≡ outcome_of (begin (SEQ site (plans_of (views fs)))) → Stands v o (SEQ site (parts_from i ns))
no_part_stands site i fs ns v o e m h g =
    let same : plans_of (views fs) ≡ parts_from i ns = ap plans_of m ∙ plans_made i ns in
    let none : no_parts ≡ parts_from i ns = ap (λ us. plans_of (views us)) (sym e) ∙ same in
    (h ∙ ap (λ ps. begun (SEQ site ps)) none, g ∙ ap (λ ps. outcome_of (begin (SEQ site ps))) same)

pub parts_stand : (site i : ℕ) (fs : List Frame) (ns : List Numbered) (v : View) (o : Outcome) → 0 < length fs → views fs ≡ made_from parts_way i ns → v ≡ unstopped site (seq (views fs) 0) → o ≡ outcome_of (begin (SEQ site (plans_of (views fs)))) → Stands v o (SEQ site (parts_from i ns))
parts_stand site i [] ns v o l m h g = absurd (omega arith)
parts_stand site i (f ∷ fs) ns v o l m h g =
    let same : plans_of (views (f ∷ fs)) ≡ parts_from i ns = ap plans_of m ∙ plans_made i ns in
    (h ∙ seq_stands site (view f) (views fs) (made_begun i ns (views (f ∷ fs)) m) ∙ ap (λ ps. begun (SEQ site ps)) same, g ∙ ap (λ ps. outcome_of (begin (SEQ site ps))) same)

-- a frame of a PAR that has parts
pub tasks_stand : (site i : ℕ) (ts : List (Task Frame)) (ns : List Numbered) (v : View) (o : Outcome) → 0 < length ts → task_views ts ≡ made_from parts_way i ns → v ≡ unstopped site (par (map seen_task ts)) → o ≡ outcome.Other → Stands v o (PAR site (parts_from i ns))
tasks_stand site i [] ns v o l m h g = absurd (omega arith)
tasks_stand site i (t ∷ ts) ns v o l m h g =
    let same : plans_of (task_views (t ∷ ts)) ≡ parts_from i ns = ap plans_of m ∙ plans_made i ns in
    (h ∙ par_stands site (seen_task t) (map seen_task ts) (made_begun i ns (task_views (t ∷ ts)) m) ∙ ap (λ ps. begun (PAR site ps)) same, g ∙ ap (λ ps. outcome_of (begin (PAR site ps))) same)

-- what a test for emptiness tells
no_length : {X : Type 0} (xs : List X) → length xs ≡ 0 → xs ≡ []
no_length [] h = refl
no_length (x ∷ xs) h = absurd (omega arith)

is_zero : (n : ℕ) → true ≡ (n == 0) → n ≡ 0
is_zero zero h = refl
is_zero (suc n) h = absurd (grind (arith, nat_tests))

not_zero : (n : ℕ) → false ≡ (n == 0) → 0 < n
not_zero zero h = absurd (grind (arith, nat_tests))
not_zero (suc n) h = omega arith

pub none_there : {X : Type 0} (v : Vec X Global) → true ≡ (vec_len v == 0) → v.items ≡ []
none_there v h = no_length v.items (sym v.ok.0 ∙ is_zero (vec_len v) h)

pub some_there : {X : Type 0} (v : Vec X Global) → false ≡ (vec_len v == 0) → 0 < length v.items
some_there v h = let e : vec_len v ≡ length v.items = v.ok.0 in let l = not_zero (vec_len v) h in omega arith

-- Where the part that has a site stands.
use Rattle.std.proofs.Common.{◌≡◌, ℕ, zero, suc, length, Bool, true, false, ◌≤◌, ◌<◌, refl, ap, sym, ◌∙◌, subst, List, [], ◌∷◌, inl, inr, arith}
use Rattle.std.specs.List.Sorted.{IsNonDecreasingBy, IsPartitionPoint}
use Rattle.std.specs.Prelude.{slice_index_or, nat_le, ◌-◌}
use Rattle.std.proofs.lemmas.Bool.Decides.{nat_tests}
use lib.ListN.{get_or}
use Rattle.vc_occam.specs.declared.frame.Frame.{Frame}
use Rattle.vc_occam.specs.declared.frame.Frame.TheViews.{out-Frame}
use Rattle.vc_occam.specs.declared.frame.Task.{Task}
use Rattle.vc_process.specs.Syntax.{Proc, SKIP, STOP, Assign, Output, Input, StopChan, SEQ, PAR, IF, WHILE, COUNT, ALT}
use Rattle.vc_process.specs.Usage.{Set, just, ◌∪◌}
use Rattle.vc_occam.specs.Sites.{sites, sites_all, sites_branches, sites_guards, site}
use Rattle.vc_occam.specs.Private.Sites.{Precedes, InPreorder, PartsInPreorder}
use Rattle.vc_occam.specs.Private.Frames.{place_with, shape, task_views, whole}
use Rattle.vc_occam.specs.Frames.{View, Shape, skip, plan_of, plans_of, view, view_of}
use Rattle.vc_occam.proofs.Sites.{either}
use Rattle.vc_occam.proofs.Stores.{or_left, or_right}
use Rattle.vc_occam.proofs.Views.{view_out}

pub itself : (i : ℕ) → just i i ≡ true
itself i = grind (arith, nat_tests)

-- a process's own site is one of its sites, and the first
pub own_site : (p : Proc) → sites p (site p) ≡ true
own_site (SKIP i) = itself i
own_site (STOP i) = itself i
own_site (Assign i v a) = itself i
own_site (Output i c a) = itself i
own_site (Input i c v) = itself i
own_site (StopChan i c) = itself i
own_site (SEQ i ps) = or_left (just i i) (sites_all ps i) (itself i)
own_site (PAR i ps) = or_left (just i i) (sites_all ps i) (itself i)
own_site (IF i bs) = or_left (just i i) (sites_branches bs i) (itself i)
own_site (WHILE i b p) = or_left (just i i) (sites p i) (itself i)
own_site (COUNT i v a n p) = or_left (just i i) (sites p i) (itself i)
own_site (ALT i gs) = or_left (just i i) (sites_guards gs i) (itself i)

only : (i k : ℕ) → just i k ≡ true → i ≤ k
only i k h = grind (arith, nat_tests)

first_of : (i k : ℕ) (a : Set) → Precedes (just i) a → (just i ∪ a) k ≡ true → i ≤ k
first_of i k a h g = elim (either (just i k) (a k) g) [ inl e ↦ only i k e | inr e ↦ let z = h i k (itself i) e in omega arith ]

pub first_site : (p : Proc) (k : ℕ) → InPreorder p → sites p k ≡ true → site p ≤ k
first_site (SKIP i) k h g = only i k g
first_site (STOP i) k h g = only i k g
first_site (Assign i v a) k h g = only i k g
first_site (Output i c a) k h g = only i k g
first_site (Input i c v) k h g = only i k g
first_site (StopChan i c) k h g = only i k g
first_site (SEQ i ps) k h g = first_of i k (sites_all ps) h.0 g
first_site (PAR i ps) k h g = first_of i k (sites_all ps) h.0 g
first_site (IF i bs) k h g = first_of i k (sites_branches bs) h.0 g
first_site (WHILE i b p) k h g = first_of i k (sites p) h.0 g
first_site (COUNT i v a n p) k h g = first_of i k (sites p) h.0 g
first_site (ALT i gs) k h g = first_of i k (sites_guards gs) h.0 g

-- a frame's site is that of its process
pub plan_site : (i : ℕ) (s : Shape) → site (plan_of i s) ≡ i
plan_site i skip = refl
plan_site i s = refl

pub view_site : (i : ℕ) (stopped : Bool) (s : Shape) → site (view_of i stopped s).plan ≡ i
view_site i true s = plan_site i s
view_site i false s = plan_site i s

pub frame_site : (f : Frame) → site (view f).plan ≡ (out-Frame f).site
frame_site f = let o = out-Frame f in ap (λ (v : View). site v.plan) (view_out f) ∙ view_site o.site o.stopped (shape o.construct)

-- the site of such a process
abbrev begins_at : Task Frame → ℕ
begins_at t = site (whole t)

-- sites of parts rise
has_site : (fs : List (Task Frame)) (k : ℕ) (d : Task Frame) → k < length fs → sites_all (plans_of (task_views fs)) (begins_at (slice_index_or fs k d)) ≡ true
has_site [] k d l = absurd (omega arith)
has_site (x ∷ fs) zero d l = let j = begins_at x in or_left (sites (whole x) j) (sites_all (plans_of (task_views fs)) j) (own_site (whole x))
has_site (x ∷ fs) (suc k) d l =
    let j = begins_at (slice_index_or fs k d) in
    or_right (sites (whole x) j) (sites_all (plans_of (task_views fs)) j) (has_site fs k d (omega arith))

pub sites_rise : (fs : List (Task Frame)) → PartsInPreorder (plans_of (task_views fs)) → IsNonDecreasingBy (λ (f : Task Frame). begins_at f) fs
sites_rise [] h i j d le l = absurd (omega arith)
sites_rise (x ∷ fs) h zero zero d le l = omega arith
sites_rise (x ∷ fs) h zero (suc j) d le l = let z = h.0 (begins_at x) (begins_at (slice_index_or fs j d)) (own_site (whole x)) (has_site fs j d (omega arith)) in omega arith
sites_rise (x ∷ fs) h (suc i) zero d le l = absurd (omega arith)
sites_rise (x ∷ fs) h (suc i) (suc j) d le l = sites_rise fs h.2 i j d (omega arith) (omega arith)

-- the last part that begins at a site or before it stands just before the first that begins later
pub halved : (fs : List (Task Frame)) (n i : ℕ) → n ≤ length fs → IsPartitionPoint (λ (f : Task Frame). nat_le (begins_at f) i ≡ true) (λ (f : Task Frame). nat_le (begins_at f) i ≡ false) fs n → n - 1 ≡ place_with i (task_views fs)
halved [] n i l p = omega arith
halved (x ∷ []) n i l p = omega arith
halved (x ∷ y ∷ fs) zero i l p = let e = p.1 1 x (omega arith) (omega arith) in rw e refl
halved (x ∷ y ∷ fs) (suc zero) i l p = let e = p.1 1 x (omega arith) (omega arith) in rw e refl
halved (x ∷ y ∷ fs) (suc (suc m)) i l p =
    let e = p.0 1 x (omega arith) (omega arith) in
    let r = halved (y ∷ fs) (suc m) i (omega arith) (λ k d a b. p.0 (suc k) d (omega arith) (omega arith), λ k d a b. p.1 (suc k) d (omega arith) (omega arith)) in
    let t : suc (suc m) - 1 ≡ suc (suc m - 1) = omega arith in
    rw e (t ∙ ap suc r)

-- a part begins at the site of the first one or behind it
rises : (x : Task Frame) (fs : List (Task Frame)) (k : ℕ) (f : Task Frame) → PartsInPreorder (plans_of (task_views (x ∷ fs))) → k < length (x ∷ fs) → f ≡ get_or (x ∷ fs) k f → begins_at x ≤ begins_at f
rises x fs zero f h l e = let z = ap (λ (g : Task Frame). begins_at g) e in omega arith
rises x fs (suc k) f h l e =
    let a = subst (λ (g : Task Frame). sites_all (plans_of (task_views fs)) (begins_at g) ≡ true) (sym e) (has_site fs k f (omega arith)) in
    let z = h.0 (begins_at x) (begins_at f) (own_site (whole x)) a in
    omega arith

-- a part that begins at a site or before it has the site, where none stands behind it
pub last_has : (fs : List (Task Frame)) (k i : ℕ) (f : Task Frame) → PartsInPreorder (plans_of (task_views fs)) → suc k ≡ length fs → f ≡ get_or fs k f → (out-Frame f.frame).site ≤ i → k ≡ place_with i (task_views fs)
last_has [] k i f h l e le = absurd (omega arith)
last_has (x ∷ []) zero i f h l e le = refl
last_has (x ∷ []) (suc k) i f h l e le = absurd (omega arith)
last_has (x ∷ y ∷ fs) zero i f h l e le = absurd (omega arith)
last_has (x ∷ y ∷ fs) (suc k) i f h l e le =
    let z = frame_site f.frame in
    let r = rises y fs k f h.2 (omega arith) e in
    let t : nat_le (begins_at y) i ≡ true = let a : begins_at y ≤ i = omega arith in grind (arith, nat_tests) in
    rw t (ap suc (last_has (y ∷ fs) k i f h.2 (omega arith) e le))

-- and where the next one begins later
pub next_later : (fs : List (Task Frame)) (k i : ℕ) (f g : Task Frame) → PartsInPreorder (plans_of (task_views fs)) → suc k < length fs → f ≡ get_or fs k f → g ≡ get_or fs (suc k) g → (out-Frame f.frame).site ≤ i → i < (out-Frame g.frame).site → k ≡ place_with i (task_views fs)
next_later [] k i f g h l e d le lt = absurd (omega arith)
next_later (x ∷ []) k i f g h l e d le lt = absurd (omega arith)
next_later (x ∷ y ∷ fs) zero i f g h l e d le lt =
    let z = frame_site g.frame in
    let w = ap (λ (o : Task Frame). begins_at o) d in
    let t : nat_le (begins_at y) i ≡ false = let a : i < begins_at y = omega arith in grind (arith, nat_tests) in
    rw t refl
next_later (x ∷ y ∷ fs) (suc k) i f g h l e d le lt =
    let z = frame_site f.frame in
    let r = rises y fs k f h.2 (omega arith) e in
    let t : nat_le (begins_at y) i ≡ true = let a : begins_at y ≤ i = omega arith in grind (arith, nat_tests) in
    rw t (ap suc (next_later (y ∷ fs) k i f g h.2 (omega arith) e d le lt))

-- A PAR that goes on.
use Rattle.std.proofs.Common.{◌≡◌, ℕ, zero, suc, ◌<◌, Bool, true, false, refl, ap, sym, ◌∙◌, subst, List, [], ◌∷◌, length, map, get_or, arith, Some, if◌then◌else◌}
use Rattle.std.proofs.lemmas.Bool.{and_parts}
use Rattle.std.proofs.lemmas.Bool.Decides.{nat_tests}
use Rattle.std.proofs.lemmas.List.{length-map}
use Rattle.std.specs.Prelude.{nat_le, nat_lt, slice_get}
use Rattle.vc_occam.specs.declared.frame.Construct.{Construct}
use Rattle.vc_occam.specs.declared.frame.Construct.TheVariants as run
use Rattle.vc_occam.specs.declared.frame.Frame.{Frame}
use Rattle.vc_occam.specs.declared.frame.Frame.TheViews.{out-Frame}
use Rattle.vc_occam.specs.declared.frame.Par.{Par}
use Rattle.vc_occam.specs.declared.frame.Task.{Task}
use Rattle.vc_occam.specs.Frames.{all_sound, besides, is_sound, plan_of, plans_of, view}
use Rattle.vc_occam.specs.Private.Frames.{place_with, seen_task, shape, shown, task_views, whole}
use Rattle.vc_occam.specs.Private.Sites.{InPreorder, PartsInPreorder}
use Rattle.vc_occam.specs.Sites.{site}
use Rattle.vc_occam.proofs.AtItself.{frame_sound, goes_on, shown_rest}
use Rattle.vc_occam.proofs.Starts.{plan_out}

pub par_rest : (f : Frame) (p : Par Frame) → (view f).sound ≡ true → (out-Frame f).construct ≡ run.Par p → (view f).rest ≡ besides (task_views p.tasks.items)
par_rest f p h e = shown_rest f (run.Par p) (goes_on f (run.Par p) h e refl) e

par_is_sound : (f : Frame) (p : Par Frame) → (view f).sound ≡ true → (out-Frame f).construct ≡ run.Par p → is_sound (shape (run.Par p)) ≡ true
par_is_sound f p h e = subst (λ (c : Construct Frame). is_sound (shape c) ≡ true) e (frame_sound f h)

pub par_sound : (f : Frame) (p : Par Frame) → (view f).sound ≡ true → (out-Frame f).construct ≡ run.Par p → all_sound (task_views p.tasks.items) ≡ true
par_sound f p h e = (and_parts (nat_lt 0 (length (map seen_task p.tasks.items))) (all_sound (task_views p.tasks.items)) (par_is_sound f p h e)).1

pub par_some : (f : Frame) (p : Par Frame) → (view f).sound ≡ true → (out-Frame f).construct ≡ run.Par p → 0 < length p.tasks.items
par_some f p h e =
    let ts = map seen_task p.tasks.items in
    let b = (and_parts (nat_lt 0 (length ts)) (all_sound (task_views p.tasks.items)) (par_is_sound f p h e)).0 in
    let l : 0 < length ts = grind (arith, nat_tests) in
    subst (λ (n : ℕ). 0 < n) (length-map p.tasks.items seen_task) l

pub par_preorder : (f : Frame) (p : Par Frame) → (out-Frame f).construct ≡ run.Par p → InPreorder (view f).plan → PartsInPreorder (plans_of (task_views p.tasks.items))
par_preorder f p e h =
    let o = out-Frame f in
    let plan : (view f).plan ≡ plan_of o.site (shape (run.Par p)) = plan_out f ∙ ap (λ (c : Construct Frame). plan_of o.site (shape c)) e in
    (subst InPreorder plan h).1

-- one of its parts
pub sound_at : (ts : List (Task Frame)) (k : ℕ) (t : Task Frame) → all_sound (task_views ts) ≡ true → k < length ts → t ≡ get_or ts k t → (shown t).sound ≡ true
sound_at [] k t h l e = absurd (omega arith)
sound_at (x ∷ ts) zero t h l e = subst (λ (y : Task Frame). (shown y).sound ≡ true) (sym e) ((and_parts (shown x).sound (all_sound (task_views ts)) h).0)
sound_at (x ∷ ts) (suc k) t h l e = sound_at ts k t ((and_parts (shown x).sound (all_sound (task_views ts)) h).1) (omega arith) e

pub preorder_at : (ts : List (Task Frame)) (k : ℕ) (t : Task Frame) → PartsInPreorder (plans_of (task_views ts)) → k < length ts → t ≡ get_or ts k t → InPreorder (whole t)
preorder_at [] k t h l e = absurd (omega arith)
preorder_at (x ∷ ts) zero t h l e = subst (λ (y : Task Frame). InPreorder (whole y)) (sym e) h.1
preorder_at (x ∷ ts) (suc k) t h l e = preorder_at ts k t h.2 (omega arith) e

pub task_at : (ts : List (Task Frame)) (k : ℕ) (t : Task Frame) → k < length ts → t ≡ get_or ts k t → slice_get (task_views ts) k ≡ Some (shown t)
task_at [] k t l e = absurd (omega arith)
task_at (x ∷ ts) zero t l e = ap (λ (y : Task Frame). Some (shown y)) (sym e)
task_at (x ∷ ts) (suc k) t l e = task_at ts k t (omega arith) e

-- the part that has a site is there
pub place_there : (ts : List (Task Frame)) (i : ℕ) → 0 < length ts → place_with i (task_views ts) < length ts
place_there [] i l = absurd (omega arith)
place_there (x ∷ []) i l = omega arith
place_there (x ∷ y ∷ ts) i l = on (nat_le (site (whole y)) i) (place_there (y ∷ ts) i (omega arith))
  where
    on : (b : Bool) → place_with i (task_views (y ∷ ts)) < length (y ∷ ts) → (if b then suc (place_with i (task_views (y ∷ ts))) else 0) < length (x ∷ y ∷ ts)
    on true q = omega arith
    on false q = omega arith

-- The frame that a site is at: what begins at the site, and what waits.
use Rattle.std.proofs.Common.{◌≡◌, ℕ, ◌<◌, ◌↔◌, ap, sym, ◌∙◌, subst, List, length, get_or, Option, Some, None}
use Rattle.std.specs.List.{Contains}
use Rattle.std.specs.Prelude.{MatchOption, slice_get}
use Rattle.vc_occam.specs.declared.frame.Frame.{Frame}
use Rattle.vc_occam.specs.declared.frame.Task.{Task}
use Rattle.vc_occam.specs.declared.moves.Move.{Move}
use Rattle.vc_process.specs.Values.{Store}
use Rattle.vc_occam.specs.First.{own}
use Rattle.vc_occam.specs.Frames.{besides, plans_of, view}
use Rattle.vc_occam.specs.MoveSites.{site_of}
use Rattle.vc_occam.specs.Private.Frames.{HasNothingAt, IsPart, StandsAt, assigned_at, place_with, shown, task_views}
use Rattle.vc_occam.specs.Private.Sites.{PartsInPreorder}
use Rattle.vc_occam.specs.Remains.{Rest}
use Rattle.vc_occam.specs.States.{Waiting, output_at, waiting}
use Rattle.vc_occam.proofs.PartOfSite.{besides_own, besides_wait, found_assigned, found_output, found_own, part_at}
use Rattle.vc_occam.proofs.Innermost.{same_assigned, same_output, same_own, same_waiting}
use Rattle.vc_occam.proofs.Inside.{tasks_inside}
use Rattle.vc_occam.proofs.Pars.{task_at}

-- what begins at a site begins in this part, and what the part waits for is waited for
pub record GoesOnIn (i : ℕ) (q r : Rest) : Type 0 where
  pub output : (e : Store) → output_at i r e ≡ output_at i q e
  pub assigned : (e : Store) → assigned_at i r e ≡ assigned_at i q e
  pub moves : (e : Store) (m : Move) → site_of m ≡ i → Contains (own r e) m ↔ Contains (own q e) m
  pub waits : (w : Waiting) → Contains (waiting q) w → Contains (waiting r) w

none_in : (i : ℕ) (q r : Rest) → GoesOnIn i q r → HasNothingAt i q → HasNothingAt i r
none_in i q r g h = record {
  output = λ e. g.output e ∙ h.output e;
  assigned = λ e. g.assigned e ∙ h.assigned e;
  moves = λ e m s c. h.moves e m s ((g.moves e m s).0 c);
}

stands_in : (i : ℕ) (f : Frame) (q r : Rest) → GoesOnIn i q r → StandsAt i f q → StandsAt i f r
stands_in i f q r g h = record {
  itself = h.itself;
  sound = h.sound;
  output = λ e. g.output e ∙ h.output e;
  assigned = λ e. g.assigned e ∙ h.assigned e;
  moves = λ e m s. (λ c. (h.moves e m s).0 ((g.moves e m s).0 c), λ c. (g.moves e m s).1 ((h.moves e m s).1 c));
  waits = λ w c. g.waits w (h.waits w c);
}

-- what is found in the part is found in the whole
pub found_in : {B : Type 0} (now : B → Frame) (i : ℕ) (o : Option B) (q r : Rest) → GoesOnIn i q r → MatchOption o (HasNothingAt i q) (λ (b : B). StandsAt i (now b) q) → MatchOption o (HasNothingAt i r) (λ (b : B). StandsAt i (now b) r)
found_in now i None q r g h = none_in i q r g h
found_in now i (Some b) q r g h = stands_in i (now b) q r g h

-- a part that goes on alone
pub alone_in : (i : ℕ) (part whole : Frame) → IsPart part whole → GoesOnIn i (view part).rest (view whole).rest
alone_in i part whole p =
    let r = (view whole).rest in
    let q = (view part).rest in record {
      output = λ e. same_output i r q e p.rest;
      assigned = λ e. same_assigned i r q e p.rest;
      moves = λ e m s. let h = same_own r q e p.rest in (subst (λ (ms : List Move). Contains ms m) h, subst (λ (ms : List Move). Contains ms m) (sym h));
      waits = λ w c. subst (λ (ws : List Waiting). Contains ws w) (sym (same_waiting r q p.rest)) c;
    }

-- the part of a PAR that has a site
pub together_in : (i k : ℕ) (ts : List (Task Frame)) (t : Task Frame) → PartsInPreorder (plans_of (task_views ts)) → k < length ts → t ≡ get_or ts k t → k ≡ place_with i (task_views ts) →
    GoesOnIn i (shown t).rest (besides (task_views ts))
together_in i k ts t pre l h p =
    let vs = task_views ts in
    let q = (shown t).rest in
    let inside = tasks_inside ts in
    let at : part_at (slice_get vs (place_with i vs)) ≡ q = ap (λ (n : ℕ). part_at (slice_get vs n)) (sym p) ∙ ap part_at (task_at ts k t l h) in record {
      output = λ e. found_output i vs e pre inside ∙ ap (λ (r : Rest). output_at i r e) at;
      assigned = λ e. found_assigned i vs e pre inside ∙ ap (λ (r : Rest). assigned_at i r e) at;
      moves = λ e m s. (
        λ c. subst (λ (r : Rest). Contains (own r e) m) at (found_own i vs e m pre inside s c),
        λ c. besides_own vs (place_with i vs) e m (subst (λ (r : Rest). Contains (own r e) m) (sym at) c),
      );
      waits = λ w c. besides_wait vs (place_with i vs) w (subst (λ (r : Rest). Contains (waiting r) w) (sym at) c);
    }

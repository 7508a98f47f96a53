-- The part of a frame that goes on alone.
use Rattle.std.proofs.Common.{◌≡◌, ◌<◌, ℕ, zero, suc, Bool, true, false, ◌&&◌, refl, ap, sym, ◌∙◌, subst, List, [], ◌∷◌, Option, Some, None, length, map, get_or, arith}
use Rattle.std.proofs.lemmas.Bool.{and_parts}
use Rattle.std.proofs.lemmas.Bool.Decides.{nat_tests}
use Rattle.std.specs.Prelude.{is_some, nat_lt, slice_get}
use Rattle.vc_occam.specs.declared.frame.Branch.{Branch}
use Rattle.vc_occam.specs.declared.frame.Choice.TheVariants.{Within}
use Rattle.vc_occam.specs.declared.frame.Frame.{Frame}
use Rattle.vc_occam.specs.declared.frame.Frame.TheViews.{out-Frame, size-Frame}
use Rattle.vc_occam.specs.declared.frame.Guard.{Guard}
use Rattle.vc_occam.specs.declared.frame.Turn.{Turn}
use Rattle.vc_process.specs.Syntax.{Exp, Procs, no_parts, part}
use Rattle.vc_occam.specs.Remains.{Rest, and_then}
use Rattle.vc_occam.specs.Frames.{View, Shape, seq, branching, looping, counting, guarding, bodies, branches_of, follow, guarded, guards_of, is_at_itself, is_sound, plan_of, plans_of, rest_of, view, view_of}
use Rattle.vc_occam.specs.Private.Frames.{IsPart, goes_on_at, innermost, shape, unstopped}
use Rattle.vc_occam.specs.Private.Sites.{InPreorder, PartsInPreorder, BranchesInPreorder, GuardsInPreorder}
use Rattle.vc_occam.proofs.AtItself.{frame_sound}
use Rattle.vc_occam.proofs.PartSteps.{part_is_sound}
use Rattle.vc_occam.proofs.Views.{view_out}

-- an element that is there, of a list in which each is seen as something
pub seen_there : {A : Type 0} (f : A → View) (xs : List A) (k : ℕ) (x : A) → k < length xs → x ≡ get_or xs k x → slice_get (map f xs) k ≡ Some (f x)
seen_there f [] k x l h = absurd (omega arith)
seen_there f (y ∷ xs) zero x l h = ap (λ z. Some (f z)) (sym h)
seen_there f (y ∷ xs) (suc k) x l h = seen_there f xs k x (omega arith) h

pub seen_within : {A B : Type 0} (f : B → View) (g : A → B) (xs : List A) (k : ℕ) (x : A) → k < length xs → x ≡ get_or xs k x → slice_get (map f (map g xs)) k ≡ Some (f (g x))
seen_within f g [] k x l h = absurd (omega arith)
seen_within f g (y ∷ xs) zero x l h = ap (λ z. Some (f (g z))) (sym h)
seen_within f g (y ∷ xs) (suc k) x l h = seen_within f g xs k x (omega arith) h

-- what is known of a shape at whose part it goes on
abbrev Tells : Shape → View → Type 0
Tells s v =
    (is_at_itself s ≡ false)
    × ((i : ℕ) → innermost (rest_of i s) ≡ innermost v.rest)
    × ((i : ℕ) → InPreorder (plan_of i s) → InPreorder v.plan)
    × (is_sound s ≡ true → v.sound ≡ true)

innermost_then : (r : Rest) (ps : Procs) → innermost (and_then r ps) ≡ innermost r
innermost_then r no_parts = refl
innermost_then r (part p ps) = refl

innermost_follow : (o : Option View) (v : View) (ps : Procs) → o ≡ Some v → innermost (follow o ps) ≡ innermost v.rest
innermost_follow o v ps h = ap (λ x. innermost (follow x ps)) h ∙ innermost_then v.rest ps

part_at : (vs : List View) (k : ℕ) (v : View) → slice_get vs k ≡ Some v → PartsInPreorder (plans_of vs) → InPreorder v.plan
part_at [] k v h s = absurd (cc)
part_at (w ∷ vs) zero v h s = let e : w ≡ v = cc in subst (λ (x : View). InPreorder x.plan) e s.1
part_at (w ∷ vs) (suc k) v h s = part_at vs k v h s.2

branch_at : (bs : List (Branch View)) (k : ℕ) (v : View) → slice_get (bodies bs) k ≡ Some v → BranchesInPreorder (branches_of bs) → InPreorder v.plan
branch_at [] k v h s = absurd (cc)
branch_at (b ∷ bs) zero v h s = let e : b.body ≡ v = cc in subst (λ (x : View). InPreorder x.plan) e s.1
branch_at (b ∷ bs) (suc k) v h s = branch_at bs k v h s.2

guard_at : (gs : List (Guard View)) (k : ℕ) (v : View) → slice_get (guarded gs) k ≡ Some v → GuardsInPreorder (guards_of gs) → InPreorder v.plan
guard_at [] k v h s = absurd (cc)
guard_at (g ∷ gs) zero v h s = let e : g.body ≡ v = cc in subst (λ (x : View). InPreorder x.plan) e s.1
guard_at (g ∷ gs) (suc k) v h s = guard_at gs k v h s.2

shape_tells : (s : Shape) (v : View) → goes_on_at s ≡ Some v → Tells s v
shape_tells (seq vs k) v h = (refl, λ i. innermost_follow (slice_get vs k) v _ h, λ i p. part_at vs k v h p.1, λ s. part_is_sound vs k v h (and_parts _ _ s).1)
shape_tells (branching bs (Some k)) v h = (refl, λ i. innermost_follow (slice_get (bodies bs) k) v _ h, λ i p. branch_at bs k v h p.1, λ s. part_is_sound (bodies bs) k v h (and_parts _ _ s).1)
shape_tells (looping b w true) v h =
    let e : w ≡ v = cc in
    (refl, λ i. ap (λ (x : View). innermost x.rest) e, λ i p. subst (λ (x : View). InPreorder x.plan) e p.1, λ s. subst (λ (x : View). x.sound ≡ true) e s)
shape_tells (counting x a n w (Some t)) v h =
    let e : w ≡ v = cc in
    (refl, λ i. ap (λ (x : View). innermost x.rest) e, λ i p. subst (λ (x : View). InPreorder x.plan) e p.1, λ s. subst (λ (x : View). x.sound ≡ true) e s)
shape_tells (guarding gs (Within k)) v h = (refl, λ i. innermost_follow (slice_get (guarded gs) k) v _ h, λ i p. guard_at gs k v h p.1, λ s. part_is_sound (guarded gs) k v h (and_parts _ _ (and_parts _ _ s).1).1)
shape_tells s v h = absurd (cc)

-- a sound frame at one of its parts has not stopped
going : (i : ℕ) (stopped : Bool) (s : Shape) → is_at_itself s ≡ false → (view_of i stopped s).sound ≡ true → view_of i stopped s ≡ unstopped i s
going i true s n h = absurd (let z : true ≡ false = sym (and_parts _ (is_sound s) h).0 ∙ n in cc)
going i false s n h = refl

-- so it stands for what its shape does
pub goes_as : (f : Frame) (s : Shape) → shape (out-Frame f).construct ≡ s → is_at_itself s ≡ false → (view f).sound ≡ true → view f ≡ view_of (out-Frame f).site false s
goes_as f s h n k =
    let o = out-Frame f in
    let is : view f ≡ view_of o.site o.stopped s = view_out f ∙ ap (view_of o.site o.stopped) h in
    is ∙ going o.site o.stopped s n (ap (λ (v : View). v.sound) (sym is) ∙ k)

-- the part that goes on is one as a contract asks
pub is_part : (f g : Frame) (s : Shape) → size-Frame g < size-Frame f → shape (out-Frame f).construct ≡ s → goes_on_at s ≡ Some (view g) → (view f).sound ≡ true → IsPart g f
is_part f g s small h at k =
    let i = (out-Frame f).site in
    let tells = shape_tells s (view g) at in
    let is = goes_as f s h tells.0 k in
    record {
      goes_on = ap goes_on_at h ∙ at;
      smaller = small;
      rest = ap (λ (v : View). innermost v.rest) is ∙ tells.1 i;
      in_preorder = λ p. tells.2 i (subst (λ (v : View). InPreorder v.plan) is p);
      sound = tells.3 (ap (λ (v : View). v.sound) (sym is) ∙ k);
    }

-- the shape of a sound frame is sound
pub sound_shape : (f : Frame) (s : Shape) → shape (out-Frame f).construct ≡ s → (view f).sound ≡ true → is_sound s ≡ true
sound_shape f s h k = ap is_sound (sym h) ∙ frame_sound f k

-- the place of the part that goes on is there
pub place_there : (k n : ℕ) (b : Bool) → (nat_lt k n && b) ≡ true → k < n
place_there k n b h = let z : nat_lt k n ≡ true = (and_parts _ b h).0 in grind (arith, nat_tests)

pub guard_there : (k : ℕ) (gs : List (Guard View)) → is_sound (guarding gs (Within k)) ≡ true → k < length gs
guard_there k gs h = place_there k (length gs) _ (and_parts _ _ h).1

-- a replicated SEQ that has a turn goes on at its body
pub count_goes_on : (x : ℕ) (a n : Exp) (v : View) (turn : Option Turn) → true ≡ is_some turn → goes_on_at (counting x a n v turn) ≡ Some v
count_goes_on x a n v None h = absurd (let z : true ≡ false = h in cc)
count_goes_on x a n v (Some t) h = refl

-- A PAR inside a PAR makes what its parts make beside the others: merging is associative.
use Rattle.std.proofs.Common.{◌≡◌, ℕ, refl, sym, ap, subst, ◌∙◌, List, [], ◌∷◌}
use Rattle.vc_occam.specs.Traces.{Comm, End, Open, Ended, Merge, neither, from_left, from_right, both_ended, Trace, cut, par, TracePar, par_end, par_more}
use Rattle.vc_placement.proofs.Interleavings.{both}
use Rattle.vc_placement.specs.Nesting.{parts_and, in_groups, ungrouped, NestingChangesNothing, GroupingChangesNothing}
use Rattle.vc_placement.specs.Parallel.{IsEnded}
use Rattle.vc_process.specs.Syntax.{PAR, Procs, no_parts, part}
use Rattle.vc_process.specs.Usage.{Set, changes}
use Rattle.vc_process.specs.Values.{Store}

-- ---- merging

merge_right : {s t u v w : List Comm} → Merge s t u → Merge u v w → (x : List Comm) × Merge t v x × Merge s x w
merge_right neither neither = ([], neither, neither)
merge_right m (from_right {x = k} n) = let r = merge_right m n in (k ∷ r.0, from_right r.1, from_right r.2)
merge_right (from_left m) (from_left n) = let r = merge_right m n in (r.0, r.1, from_left r.2)
merge_right (from_right {x = k} m) (from_left n) = let r = merge_right m n in (k ∷ r.0, from_left r.1, from_right r.2)

merge_left : {s t u v w : List Comm} → Merge t v u → Merge s u w → (x : List Comm) × Merge s t x × Merge x v w
merge_left neither neither = ([], neither, neither)
merge_left m (from_left {x = k} n) = let r = merge_left m n in (k ∷ r.0, from_left r.1, from_left r.2)
merge_left (from_left {x = k} m) (from_right n) = let r = merge_left m n in (k ∷ r.0, from_right r.1, from_left r.2)
merge_left (from_right m) (from_right n) = let r = merge_left m n in (r.0, r.1, from_right r.2)

only_right : {t u : List Comm} → Merge [] t u → t ≡ u
only_right neither = refl
only_right (from_right {x = k} m) = ap (λ z. k ∷ z) (only_right m)

all_right : (t : List Comm) → Merge [] t t
all_right [] = neither
all_right (k ∷ t) = from_right (all_right t)

-- ---- ends

not_open : IsEnded Open → ⊥
not_open h = (let e : Open ≡ Ended h.0 = h.1 in cc)

left_ended : (mine : Set) (x y : End) → IsEnded (both_ended mine x y) → IsEnded x
left_ended mine Open y h = absurd (not_open h)
left_ended mine (Ended f) y h = (f, refl)

right_ended : (mine : Set) (x y : End) → IsEnded (both_ended mine x y) → IsEnded y
right_ended mine Open y h = absurd (not_open h)
right_ended mine (Ended f) Open h = absurd (not_open h)
right_ended mine (Ended f) (Ended g) h = (g, refl)

-- ---- parts

nothing_made : (ps : Procs) (e : Store) → (x : End) × TracePar ps e [] x
nothing_made no_parts e = (Ended e, par_end)
nothing_made (part p ps) e = let r = nothing_made ps e in (both_ended (changes p) Open r.0, par_more cut r.1 neither)

joined : {ps qs : Procs} {e : Store} {s t l : List Comm} (x y : End) → TracePar ps e s x → TracePar qs e t y → Merge s t l → (z : End) × TracePar (parts_and ps qs) e l z × (IsEnded x → IsEnded y → IsEnded z)
joined {qs = qs} {e = e} x y par_end r m = (y, subst (λ z. TracePar qs e z y) (only_right m) r, λ h k. k)
joined x y (par_more {p = p} {x = a} {y = b} q1 q2 n) r m =
    let w = merge_right n m in
    let z = joined b y q2 r w.1 in
    (both_ended (changes p) a z.0, par_more q1 z.1 w.2, λ h k. both (changes p) a z.0 (left_ended (changes p) a b h) (z.2 (right_ended (changes p) a b h) k))

record Parted (ps qs : Procs) (e : Store) (l : List Comm) (z : End) : Type 0 where
  left : List Comm
  right : List Comm
  x : End
  y : End
  first : TracePar ps e left x
  second : TracePar qs e right y
  merge : Merge left right l
  x_ended : IsEnded z → IsEnded x
  y_ended : IsEnded z → IsEnded y

parted : (ps : Procs) {qs : Procs} {e : Store} {l : List Comm} (z : End) → TracePar (parts_and ps qs) e l z → Parted ps qs e l z
parted no_parts {e = e} {l = l} z q = record { left = []; right = l; x = Ended e; y = z; first = par_end; second = q; merge = all_right l; x_ended = λ h. (e, refl); y_ended = λ h. h }
parted (part p ps) z (par_more {x = a} {y = b} q1 q2 n) =
    let r = parted ps b q2 in
    let w = merge_left r.merge n in
    record {
      left = w.0;
      right = r.right;
      x = both_ended (changes p) a r.x;
      y = r.y;
      first = par_more q1 r.first w.1;
      second = r.second;
      merge = w.2;
      x_ended = λ h. both (changes p) a r.x (left_ended (changes p) a b h) (r.x_ended (right_ended (changes p) a b h));
      y_ended = λ h. r.y_ended (right_ended (changes p) a b h);
    }

flattened : (i j k : ℕ) (ps qs : Procs) (e : Store) (l : List Comm) (x : End) → Trace (PAR i (part (PAR j ps) qs)) e l x → (y : End) × Trace (PAR k (parts_and ps qs)) e l y × (IsEnded x → IsEnded y)
flattened i j k ps qs e [] Open cut = let r = nothing_made (parts_and ps qs) e in (r.0, par r.1, λ h. absurd (not_open h))
flattened i j k ps qs e l x (par (par_more {x = a} {y = b} (par q) r m)) =
    let z = joined a b q r m in
    (z.0, par z.1, λ h. z.2 (left_ended (changes (PAR j ps)) a b h) (right_ended (changes (PAR j ps)) a b h))
flattened i j k ps qs e l x (par (par_more {x = Open} {y = b} cut r m)) =
    let n = nothing_made ps e in
    let z = joined n.0 b n.1 r m in
    (z.0, par z.1, λ h. absurd (not_open (left_ended (changes (PAR j ps)) Open b h)))

nested_again : (i j k : ℕ) (ps qs : Procs) (e : Store) (l : List Comm) (x : End) → Trace (PAR k (parts_and ps qs)) e l x → (y : End) × Trace (PAR i (part (PAR j ps) qs)) e l y × (IsEnded x → IsEnded y)
nested_again i j k ps qs e [] Open cut = (Open, cut, λ h. h)
nested_again i j k ps qs e l x (par q) =
    let r = parted ps x q in
    (both_ended (changes (PAR j ps)) r.x r.y, par (par_more (par r.first) r.second r.merge), λ h. both (changes (PAR j ps)) r.x r.y (r.x_ended h) (r.y_ended h))

pub nests : NestingChangesNothing
nests i j k ps qs e l = record { flat = λ x q. flattened i j k ps qs e l x q; nested = λ x q. nested_again i j k ps qs e l x q }

-- ---- groups

record AsParts (ps : Procs) (e : Store) (l : List Comm) (x : End) : Type 0 where
  end : End
  trace : TracePar ps e l end
  ended : IsEnded x → IsEnded end

without_groups : (gs : List Procs) {e : Store} {l : List Comm} (x : End) → TracePar (in_groups gs) e l x → AsParts (ungrouped gs) e l x
without_groups [] x q = record { end = x; trace = q; ended = λ h. h }
without_groups (g ∷ gs) x (par_more {x = a} {y = b} (par q) r m) =
    let s = without_groups gs b r in
    let z = joined a s.end q s.trace m in
    record { end = z.0; trace = z.1; ended = λ h. z.2 (left_ended (changes (PAR 0 g)) a b h) (s.ended (right_ended (changes (PAR 0 g)) a b h)) }
without_groups (g ∷ gs) {e = e} x (par_more {x = Open} {y = b} cut r m) =
    let n = nothing_made g e in
    let s = without_groups gs b r in
    let z = joined n.0 s.end n.1 s.trace m in
    record { end = z.0; trace = z.1; ended = λ h. absurd (not_open (left_ended (changes (PAR 0 g)) Open b h)) }

with_groups : (gs : List Procs) {e : Store} {l : List Comm} (x : End) → TracePar (ungrouped gs) e l x → AsParts (in_groups gs) e l x
with_groups [] x q = record { end = x; trace = q; ended = λ h. h }
with_groups (g ∷ gs) x q =
    let r = parted g x q in
    let s = with_groups gs r.y r.second in
    record {
      end = both_ended (changes (PAR 0 g)) r.x s.end;
      trace = par_more (par r.first) s.trace r.merge;
      ended = λ h. both (changes (PAR 0 g)) r.x s.end (r.x_ended h) (s.ended (r.y_ended h));
    }

pub regrouped : GroupingChangesNothing
regrouped i j gs hs e [] Open same cut = (Open, cut, λ h. h)
regrouped i j gs hs e l x same (par q) =
    let a = without_groups gs x q in
    let b = with_groups hs a.end (subst (λ ps. TracePar ps e l a.end) same a.trace) in
    (b.end, par b.trace, λ h. b.ended (a.ended h))

-- The first move at a site from one on.
use Rattle.std.proofs.Common.{◌≡◌, ℕ, suc, Bool, true, false, ◌+◌, ◌<◌, ◌≤◌, refl, ap, sym, ◌∙◌, subst, List, [], ◌∷◌, ◌++◌, length, drop, get_or, arith, Option, Some, None, if◌then◌else◌}
use Rattle.std.proofs.lemmas.Bool.Decides.{nat_tests}
use Rattle.std.specs.List.{Contains}
use Rattle.std.specs.Prelude.{is_some, nat_le, slice_get}
use Rattle.vc_occam.specs.declared.frame.Choice.TheVariants.{Open, Taken, Within}
use Rattle.vc_occam.specs.declared.frame.Frame.{Frame}
use Rattle.vc_occam.specs.declared.frame.Frame.TheViews.{out-Frame}
use Rattle.vc_occam.specs.declared.frame.Task.{Task}
use Rattle.vc_occam.specs.declared.moves.Move.{Move}
use Rattle.vc_occam.specs.declared.moves.Move.TheVariants as move
use Rattle.vc_process.specs.Usage.{among, changes}
use Rattle.vc_process.specs.Values.{Store, datum_of}
use Rattle.vc_occam.specs.First.{own}
use Rattle.vc_occam.specs.Frames.{View, Shape, stop, send, receive, stop_chan, seq, par, guarding, besides, guards_of, is_at_itself, plans_of, rest_of, view, view_of}
use Rattle.vc_occam.specs.MoveSites.{from_site, site_of}
use Rattle.vc_occam.specs.Private.Frames.{listed, place_with, shape, shown, task_views, whole}
use Rattle.vc_occam.specs.Private.Sites.{PartsInPreorder}
use Rattle.vc_occam.specs.Remains.{Rest}
use Rattle.vc_occam.specs.Sites.{site, sites, sites_all}
use Rattle.vc_process.proofs.Lists.{at_front, behind, none, only}
use Rattle.vc_occam.proofs.AtItself.{quiet_shape, taken_own}
use Rattle.vc_occam.proofs.Choices.{moves_at}
use Rattle.vc_occam.proofs.PartOfSite.{AllWithin, mover}
use Rattle.vc_occam.proofs.Places.{own_site}
use Rattle.vc_occam.proofs.SideBySide.{beside_own, drop_task, drop_tasks}
use Rattle.vc_occam.proofs.Stores.{or_left}
use Rattle.vc_occam.proofs.Views.{view_out}

-- a first move is one of the moves
pub from_listed : (i : ℕ) (ms : List Move) (m : Move) → from_site i ms ≡ Some m → Contains ms m
from_listed i [] m h = absurd cc
from_listed i (x ∷ ms) m h = on (nat_le i (site_of x)) h (λ q. behind x ms m (from_listed i ms m q))
  where
    on : (b : Bool) → (if b then Some x else from_site i ms) ≡ Some m → (from_site i ms ≡ Some m → Contains (x ∷ ms) m) → Contains (x ∷ ms) m
    on true q r = let e : x ≡ m = cc in subst (Contains (x ∷ ms)) e (at_front x ms)
    on false q r = r q

-- of two lists one behind the other
pub from_some : (i : ℕ) (ms ns : List Move) (m : Move) → from_site i ms ≡ Some m → from_site i (ms ++ ns) ≡ Some m
from_some i [] ns m h = absurd cc
from_some i (x ∷ ms) ns m h = on (nat_le i (site_of x)) h (from_some i ms ns m)
  where
    on : (b : Bool) → (if b then Some x else from_site i ms) ≡ Some m → (from_site i ms ≡ Some m → from_site i (ms ++ ns) ≡ Some m) → (if b then Some x else from_site i (ms ++ ns)) ≡ Some m
    on true q r = q
    on false q r = r q

pub from_none : (i : ℕ) (ms ns : List Move) → from_site i ms ≡ None → from_site i (ms ++ ns) ≡ from_site i ns
from_none i [] ns h = refl
from_none i (x ∷ ms) ns h = on (nat_le i (site_of x)) h (from_none i ms ns)
  where
    on : (b : Bool) → (if b then Some x else from_site i ms) ≡ None → (from_site i ms ≡ None → from_site i (ms ++ ns) ≡ from_site i ns) → (if b then Some x else from_site i (ms ++ ns)) ≡ from_site i ns
    on true q r = absurd cc
    on false q r = r q

-- where all are at sites before
pub all_before : (i : ℕ) (ms : List Move) → ((m : Move) → Contains ms m → i ≤ site_of m → ⊥) → from_site i ms ≡ None
all_before i [] h = refl
all_before i (x ∷ ms) h = on (nat_le i (site_of x)) refl (all_before i ms (λ m c. h m (behind x ms m c)))
  where
    on : (b : Bool) → nat_le i (site_of x) ≡ b → from_site i ms ≡ None → (if b then Some x else from_site i ms) ≡ None
    on true q r = absurd (h x (at_front x ms) (grind (arith, nat_tests)))
    on false q r = r

-- a part has no move at a site from the next part's own on
part_before : (t u : Task Frame) (ts : List (Task Frame)) (e : Store) (i : ℕ) → PartsInPreorder (plans_of (task_views (t ∷ u ∷ ts))) → AllWithin (task_views (t ∷ u ∷ ts)) → site (whole u) ≤ i → from_site i (own (shown t).rest e) ≡ None
part_before t u ts e i h w l =
    let r = (shown t).rest in
    let p = whole u in
    all_before i (own r e) (λ m c k.
    let here = w.0 (site_of m) (mover r e m (site_of m) refl c) in
    let z = h.0 (site_of m) (site p) here (or_left (sites p (site p)) (sites_all (plans_of (task_views ts)) (site p)) (own_site p)) in
    omega arith)

-- no part before the one that has a site has a move there or later
pub from_part : (i : ℕ) (ts : List (Task Frame)) (e : Store) → PartsInPreorder (plans_of (task_views ts)) → AllWithin (task_views ts) →
    from_site i (own (besides (task_views (drop (place_with i (task_views ts)) ts))) e) ≡ from_site i (own (besides (task_views ts)) e)
from_part i [] e h w = refl
from_part i (t ∷ []) e h w = refl
from_part i (t ∷ u ∷ ts) e h w = on (nat_le (site (whole u)) i) refl (from_part i (u ∷ ts) e h.2 w.1)
  where
    on : (b : Bool) → nat_le (site (whole u)) i ≡ b → from_site i (own (besides (task_views (drop (place_with i (task_views (u ∷ ts))) (u ∷ ts)))) e) ≡ from_site i (own (besides (task_views (u ∷ ts))) e) →
        from_site i (own (besides (task_views (drop (if b then suc (place_with i (task_views (u ∷ ts))) else 0) (t ∷ u ∷ ts)))) e) ≡ from_site i (own (besides (task_views (t ∷ u ∷ ts))) e)
    on true q r =
        let l : site (whole u) ≤ i = grind (arith, nat_tests) in
        let before = part_before t u ts e i h w l in
        let first = (shown t).rest in
        let later = besides (task_views (u ∷ ts)) in
        r ∙ sym (from_none i (own first e) (own later e) before) ∙ ap (from_site i) (sym (beside_own (changes (whole t)) first later e))
    on false q r = refl

-- parts gone through from one on
module _ (i k : ℕ) (ts : List (Task Frame)) (t : Task Frame) (e : Store) (l : k < length ts) (h : t ≡ get_or ts k t) where
  abbrev first : Rest
  first = (shown t).rest

  abbrev later : Rest
  later = besides (task_views (drop (k + 1) ts))

  from_here : from_site i (own first e ++ own later e) ≡ from_site i (own (besides (task_views (drop k ts))) e)
  from_here = ap (from_site i) (sym (beside_own (changes (whole t)) first later e)) ∙ ap (λ r. from_site i (own r e)) (sym (drop_task k ts t l h))

  pub seek_more : (o : Option Move) → from_site i (own (shown t).rest e) ≡ None → from_site i (own (besides (task_views (drop k ts))) e) ≡ o → from_site i (own (besides (task_views (drop (k + 1) ts))) e) ≡ o
  seek_more o nothing q = sym (from_none i (own first e) (own later e) nothing) ∙ from_here ∙ q

  pub seek_found : (o : Option Move) (m : Move) → from_site i (own (shown t).rest e) ≡ Some m → from_site i (own (besides (task_views (drop k ts))) e) ≡ o → Some m ≡ o
  seek_found o m some q = sym (from_some i (own first e) (own later e) m some) ∙ from_here ∙ q

pub seek_end : (i k : ℕ) (ts : List (Task Frame)) (e : Store) (o : Option Move) → length ts ≤ k → from_site i (own (besides (task_views (drop k ts))) e) ≡ o → None ≡ o
seek_end i k ts e o l q = sym (ap (λ (r : Rest). from_site i (own r e)) (drop_tasks k ts l)) ∙ q

-- each move of a frame that is at itself is at its site
quiet_at : (i : ℕ) (ms : List Move) (m : Move) → ms ≡ move.Quiet i ∷ [] → Contains ms m → site_of m ≡ i
quiet_at i ms m h c = ap site_of (sym (only (move.Quiet i) m (subst (λ (ns : List Move). Contains ns m) h c)))

nothing_at : (i : ℕ) (ms : List Move) (m : Move) → ms ≡ [] → Contains ms m → site_of m ≡ i
nothing_at i ms m h c = absurd (none m (subst (λ (ns : List Move). Contains ns m) h c))

shape_at : (i : ℕ) (s : Shape) (e : Store) (m : Move) → is_at_itself s ≡ true → Contains (own (rest_of i s) e) m → site_of m ≡ i
shape_at i stop e m h c = absurd (none m c)
shape_at i (send d a true) e m h c = absurd (none m c)
shape_at i (send d a false) e m h c = on (is_some (datum_of a e)) c
  where
    on : (b : Bool) → Contains ((if b then move.Offer i d else move.Quiet i) ∷ []) m → site_of m ≡ i
    on true q = ap site_of (sym (only (move.Offer i d) m q))
    on false q = ap site_of (sym (only (move.Quiet i) m q))
shape_at i (receive d v true) e m h c = absurd (none m c)
shape_at i (receive d v false) e m h c = ap site_of (sym (only (move.Want i d) m c))
shape_at i (stop_chan d) e m h c = ap site_of (sym (only (move.Stopch i d) m c))
shape_at i (seq vs k) e m h c = absurd cc
shape_at i (par ts) e m h c = absurd cc
shape_at i (guarding gs Open) e m h c = moves_at i (guards_of gs) e m c
shape_at i (guarding gs (Taken k)) e m h c = nothing_at i (own (rest_of i (guarding gs (Taken k))) e) m (taken_own i (slice_get gs k) e) c
shape_at i (guarding gs (Within k)) e m h c = absurd cc
shape_at i s e m h c = quiet_at i (own (rest_of i s) e) m (quiet_shape i s e h refl) c

view_at : (i : ℕ) (stopped : Bool) (s : Shape) (e : Store) (m : Move) → is_at_itself s ≡ true → Contains (own (view_of i stopped s).rest e) m → site_of m ≡ i
view_at i true s e m h c = absurd (none m c)
view_at i false s e m h c = shape_at i s e m h c

pub move_at : (f : Frame) (e : Store) (m : Move) → is_at_itself (shape (out-Frame f).construct) ≡ true → Contains (own (view f).rest e) m → site_of m ≡ (out-Frame f).site
move_at f e m h c = let o = out-Frame f in view_at o.site o.stopped (shape o.construct) e m h (subst (λ (v : View). Contains (own v.rest e) m) (view_out f) c)

-- so none is at a later site
pub none_later : (f : Frame) (i : ℕ) (e : Store) → is_at_itself (shape (out-Frame f).construct) ≡ true → (out-Frame f).site < i → None ≡ from_site i (own (view f).rest e)
none_later f i e h l = sym (all_before i (own (view f).rest e) (λ m c k. let z = move_at f e m h c in omega arith))

-- and its only move is the first one from its site on
first_listed : (i s : ℕ) (o : Option Move) → ((m : Move) → Contains (listed o) m → site_of m ≡ s) → i ≤ s → from_site i (listed o) ≡ o
first_listed i s None h l = refl
first_listed i s (Some m) h l =
    let z = h m (at_front m []) in
    let on : nat_le i (site_of m) ≡ true = grind (arith, nat_tests) in
    ap (λ b. if b then Some m else None) on

pub first_own : (f : Frame) (i : ℕ) (e : Store) (o : Option Move) → is_at_itself (shape (out-Frame f).construct) ≡ true → i ≤ (out-Frame f).site → own (view f).rest e ≡ listed o → o ≡ from_site i (own (view f).rest e)
first_own f i e o h l q =
    sym (ap (from_site i) q ∙ first_listed i (out-Frame f).site o (λ m c. move_at f e m h (subst (λ (ms : List Move). Contains ms m) (sym q) c)) l)

-- no channel is inside the node
pub none_inside : (xs : List ℕ) → ((c : ℕ) → among xs c ≡ false) → xs ≡ []
none_inside [] h = refl
none_inside (x ∷ xs) h = let z = h x in absurd (grind (arith, nat_tests))

-- The search for a way round.
use Rattle.std.proofs.Common.{◌≡◌, ◌≢◌, ◌⊎◌, inl, inr, ℕ, zero, suc, ◌+◌, ◌<◌, ◌≤◌, Bool, true, false, if◌then◌else◌, List, [], ◌∷◌, ◌++◌, length, set, replicate, Some, slice_get, get_or, refl, sym, ap, subst, ◌∙◌, arith, nat_eq, length-set, get_or-set_other, get_or-set_same}
use Rattle.std.proofs.lemmas.Option.{slice_get_within, slice_get-get_or}
use Rattle.std.specs.Global.{Vec}
use Rattle.std.specs.List.{Contains, list_any}
use Rattle.vc_plan.specs.declared.plan.Plan.{Plan}
use Rattle.vc_plan.specs.declared.port.Port.{Port}
use Rattle.vc_plan.specs.Dependencies.{DependsOn, Chain}
use Rattle.vc_plan.proofs.Members.{In}
use Rattle.vc_cycles.specs.Private.Graph.{HasEdge, AreDependencies, IsRising, port_at, row}
use Rattle.vc_cycles.specs.Private.Round.{AreRows, IsAway, IsEarlier, IsFoundFrom, Looking, PointsBack, Searched, Settled, found_after, is_seen, seen_after, unseen}
use Rattle.vc_cycles.specs.declared.round.Found.{Found}
use Rattle.vc_cycles.proofs.Among.{contains_in, in_contains, any_in, none_in, get_append, get_left, get_last, read_at}
use Rattle.vc_cycles.proofs.Edges.{row_is}

-- how many were not seen
unseen_none : (n : ℕ) → unseen (replicate n false) ≡ n
unseen_none zero = refl
unseen_none (suc n) = let r = unseen_none n in omega arith

unseen_mark : (bs : List Bool) (i : ℕ) → i < length bs → get_or bs i false ≡ false → unseen (set bs i true) + 1 ≡ unseen bs
unseen_mark [] i lt e = absurd (omega arith)
unseen_mark (true ∷ bs) zero lt e = absurd cc
unseen_mark (false ∷ bs) zero lt e = omega arith
unseen_mark (b ∷ bs) (suc i) lt e = let r = unseen_mark bs i (omega arith) e in omega arith

-- the beginning
get_replicate : (n i : ℕ) → get_or (replicate n false) i false ≡ false
get_replicate zero i = refl
get_replicate (suc n) zero = refl
get_replicate (suc n) (suc i) = get_replicate n i

length_replicate : (n : ℕ) → length (replicate n false) ≡ n
length_replicate zero = refl
length_replicate (suc n) = let r = length_replicate n in omega arith

alone : (p : ℕ) (k : ℕ) (f : Found) → slice_get (record { port = p; from = 0 } ∷ []) k ≡ Some f → f.port ≡ p
alone p zero f e = let r : Some (record { port = p; from = 0 }) ≡ Some f = e in ap (λ (x : Found). x.port) (some_found (record { port = p; from = 0 }) f r)
  where
    some_found : (x y : Found) → Some x ≡ Some y → y ≡ x
    some_found x y r = cc
alone p (suc k) f e = absurd cc

not_both : (b : Bool) → b ≡ false → b ≡ true → ⊥
not_both true e f = absurd cc
not_both false e f = absurd cc

searched_first : (rows : List (Vec ℕ)) (start : ℕ) → start < 1024 → Settled rows start 0 (record { port = start; from = 0 } ∷ []) (replicate 1024 false)
searched_first rows start lt = record {
  base = record {
    many = length_replicate 1024;
    begins = λ f e. alone start 0 f e;
    small = λ k f e. subst (λ n. n < 1024) (sym (alone start k f e)) lt;
    back = λ k f e. absurd cc;
    listed = λ j e. absurd (not_both (is_seen (replicate 1024 false) j) (get_replicate 1024 j) e);
    on = λ k f j less. absurd (omega arith);
    soon = λ k f j less. absurd (omega arith);
    order = λ k m f g less e. absurd cc;
    recent = λ k f e. absurd cc;
    apart = get_replicate 1024 start;
    count = let r = unseen_none 1024 in omega (arith, r);
    some = omega arith;
  };
  before = λ k f e. absurd cc;
}

pub searched_start : (rows : List (Vec ℕ)) (start : ℕ) (found : List Found) (seen : List Bool) → start < 1024 → found ≡ record { port = start; from = 0 } ∷ [] → seen ≡ replicate 1024 false →
    Settled rows start 0 found seen
searched_start rows start found seen lt e f = subst (λ l. Settled rows start 0 l seen) (sym e) (subst (λ l. Settled rows start 0 (record { port = start; from = 0 } ∷ []) l) (sym f) (searched_first rows start lt))

-- marking
marked : (bs : List Bool) (i j : ℕ) → i < length bs → is_seen (set bs i true) j ≡ true → (is_seen bs j ≡ true) ⊎ (j ≡ i)
marked bs i j lt e = go (let c : (j ≡ i) ⊎ ((j < i) ⊎ (i < j)) = grind arith in c)
  where
    go : (j ≡ i) ⊎ ((j < i) ⊎ (i < j)) → (is_seen bs j ≡ true) ⊎ (j ≡ i)
    go (inl same) = inr same
    go (inr other) = let ne : j ≢ i = (λ (same : j ≡ i). less same other) in inl (sym (get_or-set_other bs i j true false ne) ∙ e)
      where
        less : j ≡ i → (j < i) ⊎ (i < j) → ⊥
        less same (inl l) = omega arith
        less same (inr l) = omega arith

marks_keep : (bs : List Bool) (i j : ℕ) → i < length bs → is_seen bs j ≡ true → is_seen (set bs i true) j ≡ true
marks_keep bs i j lt e = go (let c : (j ≡ i) ⊎ ((j < i) ⊎ (i < j)) = grind arith in c)
  where
    go : (j ≡ i) ⊎ ((j < i) ⊎ (i < j)) → is_seen (set bs i true) j ≡ true
    go (inl same) = ap (λ n. get_or (set bs i true) n false) same ∙ get_or-set_same bs i true false lt
    go (inr other) = let ne : j ≢ i = (λ (same : j ≡ i). less same other) in get_or-set_other bs i j true false ne ∙ e
      where
        less : j ≡ i → (j < i) ⊎ (i < j) → ⊥
        less same (inl l) = omega arith
        less same (inr l) = omega arith

mark_apart : (bs : List Bool) (i j : ℕ) → (i ≡ j → ⊥) → is_seen bs j ≡ false → is_seen (set bs i true) j ≡ false
mark_apart bs i j ne e = let n : j ≢ i = (λ (same : j ≡ i). ne (sym same)) in get_or-set_other bs i j true false n ∙ e

-- one more port is found
module _ (rows : List (Vec ℕ)) (start at : ℕ) (line : List ℕ) (n port : ℕ) (found : List Found) (seen : List Bool) (l : Looking rows start at line n found seen)
    (lt : n < length line) (is : port ≡ get_or line n 0) where
  in_row : Contains line port
  in_row = (n, lt, default line n lt ∙ sym is)
    where
      default : (xs : List ℕ) (k : ℕ) → k < length xs → get_or xs k port ≡ get_or xs k 0
      default [] k less = absurd (omega arith)
      default (x ∷ xs) zero less = refl
      default (x ∷ xs) (suc k) less = default xs k (omega arith)

  partly_more : (seen' : List Bool) → ((j : ℕ) → is_seen seen j ≡ true → is_seen seen' j ≡ true) → is_seen seen' port ≡ true → (k : ℕ) → k < n + 1 → is_seen seen' (get_or line k 0) ≡ true
  partly_more seen' keeps now k less = go (let c : (k < n) ⊎ (k ≡ n) = grind arith in c)
    where
      go : (k < n) ⊎ (k ≡ n) → is_seen seen' (get_or line k 0) ≡ true
      go (inl before) = keeps (get_or line k 0) (l.partly k before)
      go (inr same) = ap (λ m. is_seen seen' m) (ap (λ m. get_or line m 0) same ∙ sym is) ∙ now

  -- found up to this place
  keeps_found : (k j : ℕ) (more : List Found) → IsFoundFrom found k j → IsFoundFrom (found ++ more) k j
  keeps_found k j more f = record { place = f.place; entry = f.entry; there = get_left found more (suc f.place) f.entry f.there; port_is = f.port_is; early = f.early }

  found_partly_more : (found' : List Found) → ((j : ℕ) → IsFoundFrom found at j → IsFoundFrom found' at j) → IsFoundFrom found' at port → (k : ℕ) → k < n + 1 → IsFoundFrom found' at (get_or line k 0)
  found_partly_more found' keeps now k less = go (let c : (k < n) ⊎ (k ≡ n) = grind arith in c)
    where
      go : (k < n) ⊎ (k ≡ n) → IsFoundFrom found' at (get_or line k 0)
      go (inl before) = keeps (get_or line k 0) (l.found_partly k before)
      go (inr same) = subst (IsFoundFrom found' at) (sym (ap (λ m. get_or line m 0) same ∙ sym is)) now

  listed_soon : is_seen seen port ≡ true → IsFoundFrom found at port
  listed_soon e = let (k, f, there, port_is) = l.base.listed port e in go k f there port_is
    where
      go : (k : ℕ) (f : Found) → slice_get found k ≡ Some f → f.port ≡ port → IsFoundFrom found at port
      go zero f there port_is = absurd (l.apart (subst (λ m. Contains line m) (sym port_is ∙ l.base.begins f there) in_row))
      go (suc k) f there port_is = record { place = k; entry = f; there = there; port_is = port_is; early = l.base.recent k f there }

  only_more : (k : ℕ) (f : Found) → slice_get found (suc k) ≡ Some f → f.from ≡ at → (m : ℕ) × (m < n + 1) × (f.port ≡ get_or line m 0)
  only_more k f there from = let (m, less, e) = l.only k f there from in (m, omega (arith, less), e)

  old_looking : is_seen seen port ≡ true → Looking rows start at line (n + 1) found seen
  old_looking e = record { base = l.base; here = l.here; there = l.there; row_of = l.row_of; small = l.small; apart = l.apart; rising = l.rising; partly = partly_more seen (λ j s. s) e; found_partly = found_partly_more found (λ k f. f) (listed_soon e); only = only_more }

  abbrev new_found : Found
  new_found = record { port = port; from = at }

  abbrev found_more : List Found
  found_more = found ++ new_found ∷ []

  within : port < length seen
  within = let s = l.small port in_row in let m = l.base.many in omega (arith, s, m)

  long_more : (xs : List Found) (x : Found) → length (xs ++ x ∷ []) ≡ length xs + 1
  long_more [] x = refl
  long_more (y ∷ ys) x = let r = long_more ys x in omega arith

  at_before : at < length found
  at_before = slice_get_within found at l.here l.there

  is_new : (f : Found) → In f (new_found ∷ []) → new_found ≡ f
  is_new f (inl e) = e
  is_new f (inr i) = absurd i

  begins_more : (f : Found) → (slice_get found 0 ≡ Some f) ⊎ ((length found ≤ 0) × In f (new_found ∷ [])) → f.port ≡ start
  begins_more f (inl e) = l.base.begins f e
  begins_more f (inr p) = let le = p.0 in let s = l.base.some in absurd (omega (arith, le, s))

  small_more : (k : ℕ) (f : Found) → (slice_get found k ≡ Some f) ⊎ ((length found ≤ k) × In f (new_found ∷ [])) → f.port < 1024
  small_more k f (inl e) = l.base.small k f e
  small_more k f (inr p) = subst (λ (x : Found). x.port < 1024) (is_new f p.1) (l.small port in_row)

  edge_here : HasEdge rows l.here.port port
  edge_here = subst (λ xs. Contains xs port) (sym l.row_of) in_row

  back_more : (k : ℕ) (f : Found) → (slice_get found (suc k) ≡ Some f) ⊎ ((length found ≤ suc k) × In f (new_found ∷ [])) →
      (g : Found) × (f.from ≤ k) × (slice_get found_more f.from ≡ Some g) × HasEdge rows g.port f.port
  back_more k f (inl e) = let b = l.base.back k f e in (b.0, b.1, get_left found (new_found ∷ []) f.from b.0 b.2, b.3)
  back_more k f (inr p) =
      subst (λ (x : Found). (g : Found) × (x.from ≤ k) × (slice_get found_more x.from ≡ Some g) × HasEdge rows g.port x.port) (is_new f p.1)
      (l.here, (let le = p.0 in let before = at_before in omega (arith, le, before)), get_left found (new_found ∷ []) at l.here l.there, edge_here)

  listed_more : (j : ℕ) → (is_seen seen j ≡ true) ⊎ (j ≡ port) → (k : ℕ) × (f : Found) × (slice_get found_more k ≡ Some f) × (f.port ≡ j)
  listed_more j (inl e) = let r = l.base.listed j e in (r.0, r.1, get_left found (new_found ∷ []) r.0 r.1 r.2, r.3)
  listed_more j (inr e) = (length found, new_found, get_last found new_found, sym e)

  on_more : (k : ℕ) (f : Found) (j : ℕ) → k < at → (slice_get found k ≡ Some f) ⊎ ((length found ≤ k) × In f (new_found ∷ [])) → HasEdge rows f.port j → is_seen (set seen port true) j ≡ true
  on_more k f j less (inl e) edge = marks_keep seen port j within (l.base.on k f j less e edge)
  on_more k f j less (inr p) edge = let le = p.0 in let before = at_before in absurd (omega (arith, le, before, less))

  soon_more : (k : ℕ) (f : Found) (j : ℕ) → k < at → (slice_get found k ≡ Some f) ⊎ ((length found ≤ k) × In f (new_found ∷ [])) → HasEdge rows f.port j → IsFoundFrom found_more k j
  soon_more k f j less (inl e) edge = keeps_found k j (new_found ∷ []) (l.base.soon k f j less e edge)
  soon_more k f j less (inr p) edge = let le = p.0 in let before = at_before in absurd (omega (arith, le, before, less))

  new_soon : IsFoundFrom found_more at port
  new_soon = go (length found) refl l.base.some
    where
      go : (m : ℕ) → length found ≡ m → 0 < length found → IsFoundFrom found_more at port
      go zero e some = absurd (omega arith)
      go (suc k) e some = record { place = k; entry = new_found; there = subst (λ m. slice_get found_more m ≡ Some new_found) e (get_last found new_found); port_is = refl; early = omega arith }

  recent_more : (k : ℕ) (f : Found) → (slice_get found (suc k) ≡ Some f) ⊎ ((length found ≤ suc k) × In f (new_found ∷ [])) → f.from ≤ at
  recent_more k f (inl e) = l.base.recent k f e
  recent_more k f (inr p) = subst (λ (x : Found). x.from ≤ at) (is_new f p.1) (omega arith)

  only_new : (k : ℕ) (f : Found) → (slice_get found (suc k) ≡ Some f) ⊎ ((length found ≤ suc k) × In f (new_found ∷ [])) → f.from ≡ at → (m : ℕ) × (m < n + 1) × (f.port ≡ get_or line m 0)
  only_new k f (inl e) from = only_more k f e from
  only_new k f (inr p) from = (n, omega arith, ap (λ (x : Found). x.port) (sym (is_new f p.1)) ∙ is)

  earlier_new : (k : ℕ) (f : Found) → slice_get found (suc k) ≡ Some f → IsEarlier f new_found
  earlier_new k f there = go (let r = l.base.recent k f there in let c : (f.from < at) ⊎ (f.from ≡ at) = grind (arith, r) in c)
    where
      go : (f.from < at) ⊎ (f.from ≡ at) → IsEarlier f new_found
      go (inl less) = inl less
      go (inr same) =
          let (m, less, e) = l.only k f there same in
          let r = l.rising m n less lt in
          inr (same, omega (arith, e, r, is))

  order_more : (k m : ℕ) (f g : Found) → k < m → (slice_get found (suc k) ≡ Some f) ⊎ ((length found ≤ suc k) × In f (new_found ∷ [])) →
      (slice_get found (suc m) ≡ Some g) ⊎ ((length found ≤ suc m) × In g (new_found ∷ [])) → suc m < length found_more → IsEarlier f g
  order_more k m f g less (inl e) (inl h) within_more = l.base.order k m f g less e h
  order_more k m f g less (inl e) (inr q) within_more = subst (λ (x : Found). IsEarlier f x) (is_new g q.1) (earlier_new k f e)
  order_more k m f g less (inr p) (inl h) within_more = let le = p.0 in let w = slice_get_within found (suc m) g h in absurd (omega (arith, le, w, less))
  order_more k m f g less (inr p) (inr q) within_more = let le = p.0 in let long = long_more found new_found in absurd (omega (arith, le, long, within_more, less))

  new_looking : is_seen seen port ≡ false → Looking rows start at line (n + 1) found_more (set seen port true)
  new_looking e = record {
    base = record {
      many = length-set seen port true ∙ l.base.many;
      begins = λ f r. begins_more f (get_append found (new_found ∷ []) 0 f r);
      small = λ k f r. small_more k f (get_append found (new_found ∷ []) k f r);
      back = λ k f r. back_more k f (get_append found (new_found ∷ []) (suc k) f r);
      listed = λ j r. listed_more j (marked seen port j within r);
      on = λ k f j less r. on_more k f j less (get_append found (new_found ∷ []) k f r);
      soon = λ k f j less r. soon_more k f j less (get_append found (new_found ∷ []) k f r);
      order = λ k m f g less r s. order_more k m f g less (get_append found (new_found ∷ []) (suc k) f r) (get_append found (new_found ∷ []) (suc m) g s) (slice_get_within found_more (suc m) g s);
      recent = λ k f r. recent_more k f (get_append found (new_found ∷ []) (suc k) f r);
      apart = mark_apart seen port start (λ same. l.apart (subst (λ m. Contains line m) same in_row)) l.base.apart;
      count = let a = long_more found new_found in let b = unseen_mark seen port within e in let c = l.base.count in omega (arith, a, b, c);
      some = let a = long_more found new_found in omega (arith, a);
    };
    here = l.here;
    there = get_left found (new_found ∷ []) at l.here l.there;
    row_of = l.row_of;
    small = l.small;
    apart = l.apart;
    rising = l.rising;
    partly = partly_more (set seen port true) (λ j s. marks_keep seen port j within s) (get_or-set_same seen port true false within);
    found_partly = found_partly_more found_more (λ j f. keeps_found at j (new_found ∷ []) f) new_soon;
    only = λ k f r. only_new k f (get_append found (new_found ∷ []) (suc k) f r);
  }

  pub looking_more : Looking rows start at line (n + 1) (found_after found seen port at) (seen_after seen port)
  looking_more = go (is_seen seen port) refl
    where
      go : (b : Bool) → is_seen seen port ≡ b → Looking rows start at line (n + 1) (if b then found else found_more) (if b then seen else set seen port true)
      go true e = old_looking e
      go false e = new_looking e

-- a whole row
pub looked : (rows : List (Vec ℕ)) (start at : ℕ) (line : List ℕ) (found : List Found) (seen : List Bool) → Looking rows start at line (length line) found seen → Settled rows start (at + 1) found seen
looked rows start at line found seen l = record {
  base = record {
    many = l.base.many;
    begins = l.base.begins;
    small = l.base.small;
    back = l.base.back;
    listed = l.base.listed;
    on = λ k f j less is edge. on k f j is edge (let c : (k < at) ⊎ (k ≡ at) = grind arith in c);
    soon = λ k f j less is edge. soon k f j is edge (let c : (k < at) ⊎ (k ≡ at) = grind arith in c);
    order = l.base.order;
    recent = λ k f is. let r = l.base.recent k f is in omega (arith, r);
    apart = l.base.apart;
    count = l.base.count;
    some = l.base.some;
  };
  before = λ k f is. let r = l.base.recent k f is in omega (arith, r);
}
  where
    here_is : (k : ℕ) (f : Found) (j : ℕ) → k ≡ at → slice_get found k ≡ Some f → HasEdge rows f.port j → Contains line j
    here_is k f j same is edge =
        let e : f ≡ l.here = let r : Some f ≡ Some l.here = sym is ∙ ap (slice_get found) same ∙ l.there in cc in
        subst (λ xs. Contains xs j) l.row_of (subst (λ (x : Found). HasEdge rows x.port j) e edge)

    default : (xs : List ℕ) (k j : ℕ) → k < length xs → get_or xs k j ≡ get_or xs k 0
    default [] k j less = absurd (omega arith)
    default (x ∷ xs) zero j less = refl
    default (x ∷ xs) (suc k) j less = default xs k j (omega arith)

    row_seen : (j : ℕ) → Contains line j → is_seen seen j ≡ true
    row_seen j (k, less, e) = ap (λ m. is_seen seen m) (sym e ∙ default line k j less) ∙ l.partly k less

    on : (k : ℕ) (f : Found) (j : ℕ) → slice_get found k ≡ Some f → HasEdge rows f.port j → (k < at) ⊎ (k ≡ at) → is_seen seen j ≡ true
    on k f j is edge (inl less) = l.base.on k f j less is edge
    on k f j is edge (inr same) = row_seen j (here_is k f j same is edge)

    row_found : (j : ℕ) → Contains line j → IsFoundFrom found at j
    row_found j (k, less, e) = subst (IsFoundFrom found at) (sym (default line k j less) ∙ e) (l.found_partly k less)

    soon : (k : ℕ) (f : Found) (j : ℕ) → slice_get found k ≡ Some f → HasEdge rows f.port j → (k < at) ⊎ (k ≡ at) → IsFoundFrom found k j
    soon k f j is edge (inl less) = l.base.soon k f j less is edge
    soon k f j is edge (inr same) = subst (λ m. IsFoundFrom found m j) (sym same) (row_found j (here_is k f j same is edge))

-- where all was looked at
pub away : (rows : List (Vec ℕ)) (start at : ℕ) (found : List Found) (seen : List Bool) → Searched rows start at found seen → length found ≤ at → IsAway rows start
away rows start at found seen s le = record {
  beyond = λ j. is_seen seen j;
  first = λ j edge.
      let z = s.some in
      let f = get_or found 0 (record { port = 0; from = 0 }) in
      let is = slice_get-get_or found 0 (record { port = 0; from = 0 }) z in
      s.on 0 f j (omega (arith, z, le)) is (subst (λ p. HasEdge rows p j) (sym (s.begins f is)) edge);
  on = λ i j e edge.
      let r = s.listed i e in
      let lt = slice_get_within found r.0 r.1 r.2 in
      s.on r.0 r.1 j (omega (arith, lt, le)) r.2 (subst (λ p. HasEdge rows p j) (sym r.3) edge);
  back = s.apart;
}

pub points_back : (rows : List (Vec ℕ)) (start at : ℕ) (found : List Found) (seen : List Bool) → Searched rows start at found seen → PointsBack found
points_back rows start at found seen s = record { small = s.small; back = λ k f is. (s.back k f is).1 }

pub few : (rows : List (Vec ℕ)) (start at : ℕ) (found : List Found) (seen : List Bool) → Searched rows start at found seen → length found ≤ 1025
few rows start at found seen s = let c = s.count in omega (arith, c)

-- the chain from the port at a place of the list on
abbrev pub ChainFrom : Plan → List Found → ℕ → List Port → ℕ → Type 0
ChainFrom net found at ports start = (f : Found) → slice_get found at ≡ Some f → Chain net (port_at f.port) ports (port_at start)

pub chain_last : (net : Plan) (rows : List (Vec ℕ)) (start : ℕ) (found : List Found) (at : ℕ) (f : Found) → AreDependencies net rows → slice_get found at ≡ Some f → HasEdge rows f.port start →
    ChainFrom net found at [] start
chain_last net rows start found at f d is edge g there =
    let e : f ≡ g = let r : Some f ≡ Some g = sym is ∙ there in cc in
    subst (λ (x : Found). DependsOn net (port_at x.port) (port_at start)) e (d.right f.port start edge)

pub chain_more : (net : Plan) (rows : List (Vec ℕ)) (start looked : ℕ) (found : List Found) (seen : List Bool) (at : ℕ) (f : Found) (ports : List Port) → AreDependencies net rows →
    Searched rows start looked found seen → (0 < at) → slice_get found at ≡ Some f → ChainFrom net found at ports start → ChainFrom net found f.from (port_at f.port ∷ ports) start
chain_more net rows start looked found seen zero f ports d s lt is c g there = absurd (omega arith)
chain_more net rows start looked found seen (suc k) f ports d s lt is c g there =
    let b = s.back k f is in
    let e : b.0 ≡ g = let r : Some b.0 ≡ Some g = sym b.2 ∙ there in cc in
    (subst (λ (x : Found). DependsOn net (port_at x.port) (port_at f.port)) e (d.right b.0.port f.port b.3), c f is)

-- the row that is read is that of the port
pub row_read : (rows : List (Vec ℕ)) (i p : ℕ) (v : Vec ℕ) (xs : List ℕ) → AreRows rows → p < 1024 → i ≡ p → v ≡ get_or rows i v → xs ≡ v.items → row rows p ≡ xs
row_read rows i p v xs are small same is copy =
    let many = are.many in
    let lt : i < length rows = omega (arith, many, small, same) in
    ap (λ m. row rows m) (sym same) ∙ row_is rows i v (read_at rows i v lt is) ∙ sym copy

pub looking_first : (rows : List (Vec ℕ)) (start at : ℕ) (f : Found) (xs : List ℕ) (found : List Found) (seen : List Bool) → AreRows rows → Settled rows start at found seen → slice_get found at ≡ Some f →
    row rows f.port ≡ xs → (Contains xs start → ⊥) → Looking rows start at xs 0 found seen
looking_first rows start at f xs found seen are s is same apart = record {
  base = s.base;
  here = f;
  there = is;
  row_of = same;
  small = λ j c. are.small f.port j (subst (λ l. Contains l j) (sym same) c);
  apart = apart;
  rising = subst IsRising same (are.rising f.port);
  partly = λ k lt. absurd (omega arith);
  found_partly = λ k lt. absurd (omega arith);
  only = λ k g there from. absurd (let r = s.before k g there in omega (arith, r, from));
}

pub row_small : (rows : List (Vec ℕ)) (p j : ℕ) (xs : List ℕ) → AreRows rows → row rows p ≡ xs → Contains xs j → j < 1024
row_small rows p j xs are same c = are.small p j (subst (λ l. Contains l j) (sym same) c)

pub edge_of : (rows : List (Vec ℕ)) (p start : ℕ) (xs : List ℕ) → row rows p ≡ xs → true ≡ list_any (λ y. nat_eq y start) xs → HasEdge rows p start
edge_of rows p start xs same is = subst (λ l. Contains l start) (sym same) (in_contains start xs (any_in start xs (sym is)))

pub no_edge : (start : ℕ) (xs : List ℕ) → false ≡ list_any (λ y. nat_eq y start) xs → Contains xs start → ⊥
no_edge start xs is c = none_in start xs (sym is) (contains_in start xs c)

pub from_less : (found : List Found) (at : ℕ) (f : Found) → PointsBack found → 0 < at → slice_get found at ≡ Some f → f.from < at
from_less found zero f p lt is = absurd (omega arith)
from_less found (suc k) f p lt is = let le = p.back k f is in omega (arith, le)

pub seen_long : (seen : List Bool) (port : ℕ) → length (seen_after seen port) ≡ length seen
seen_long seen port = go (is_seen seen port)
  where
    go : (b : Bool) → length (if b then seen else set seen port true) ≡ length seen
    go true = refl
    go false = length-set seen port true

pub looking_on : (rows : List (Vec ℕ)) (start at : ℕ) (xs : List ℕ) (n port : ℕ) (found found' : List Found) (seen seen' : List Bool) → Looking rows start at xs n found seen → n < length xs → port ≡ get_or xs n 0 →
    found' ≡ found_after found seen port at → seen' ≡ seen_after seen port → Looking rows start at xs (n + 1) found' seen'
looking_on rows start at xs n port found found' seen seen' l lt is f g =
    subst (λ a. Looking rows start at xs (n + 1) a seen') (sym f)
    (subst (λ b. Looking rows start at xs (n + 1) (found_after found seen port at) b) (sym g) (looking_more rows start at xs n port found seen l lt is))

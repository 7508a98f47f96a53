-- What a change of one channel inside a node is to what the channels show.
use Rattle.std.proofs.Common.{◌≡◌, ◌↔◌, ℕ, zero, suc, List, [], ◌∷◌, ◌++◌, length, refl, sym, ap, ◌∙◌, subst, inl, inr, slice_get, slice_set, get_or, ◌<◌, Some, None, Option, Bool, true, false, IsTrue, IsSome}
use Rattle.std.proofs.lemmas.Bool.{cases_eq, false≢true}
use Rattle.std.proofs.lemmas.Option.{slice_get-get_or}
use Rattle.vc_machine.specs.Rendezvous.{View, nothing_yet}
use Rattle.vc_packets.specs.Functions.{put, shown_or}
use Rattle.vc_network.specs.Views.{halves_view}
use Rattle.vc_vcp.specs.Names.{named, NamesDiffer}
use Rattle.vc_vcp.specs.VcpView.{seen}
use Rattle.vc_vcp.proofs.KeyedLemmas.{by_name-set, named_has, named_at, named-set_same, named-set_other}
use Rattle.vc_actor.specs.Private.Inside.{exchanged_on, stopped_on}
use Rattle.vc_actor.specs.ActorView.{view_of, views_of}
use Rattle.vc_actor.specs.ChannelView.{by_inside, node_view}
use Rattle.vc_actor.specs.declared.inside.Internal.{Internal}
use Rattle.vc_actor.specs.declared.node.Node.{Node}

abbrev pub name : Internal → ℕ
name x = x.chan

-- another channel of the same number stands in place i, where the number is found
pub written : (xs : List Internal) (c i : ℕ) (x y : Internal) → NamesDiffer name xs → slice_get xs i ≡ named name c xs → slice_get xs i ≡ Some x → y.chan ≡ x.chan →
    views_of (slice_set xs i y) ≡ put (views_of xs) c (view_of y)
written xs c i x y differ found here same =
    by_name-set name view_of nothing_yet xs i x y differ here same ∙ ap (λ k. put (views_of xs) k (view_of y)) (named_has name c xs x (sym found ∙ here))

shows : (xs : List Internal) (c i : ℕ) (x : Internal) → slice_get xs i ≡ named name c xs → slice_get xs i ≡ Some x → view_of x ≡ views_of xs c
shows xs c i x found here = ap (shown_or nothing_yet view_of) (sym here ∙ found)

pub stopped : (xs : List Internal) (c i : ℕ) (x : Internal) → NamesDiffer name xs → slice_get xs i ≡ named name c xs → slice_get xs i ≡ Some x →
    views_of (slice_set xs i (record x { stopped = true })) ≡ stopped_on (views_of xs) c
stopped xs c i x differ found here =
    written xs c i x (record x { stopped = true }) differ found here refl
    ∙ ap (λ (v : View). put (views_of xs) c (record v { stopped = true })) (shows xs c i x found here)

one_longer : {A : Type 0} (xs : List A) (x : A) → length (xs ++ x ∷ []) ≡ suc (length xs)
one_longer [] x = refl
one_longer (y ∷ ys) x = ap suc (one_longer ys x)

pub exchanges : (xs : List Internal) (c i : ℕ) (x : Internal) (m : List ℕ) → NamesDiffer name xs → slice_get xs i ≡ named name c xs → slice_get xs i ≡ Some x →
    views_of (slice_set xs i (record x { messages = x.messages ++ m ∷ [] })) ≡ exchanged_on (views_of xs) c m
exchanges xs c i x m differ found here =
    written xs c i x (record x { messages = x.messages ++ m ∷ [] }) differ found here refl
    ∙ ap (λ n. put (views_of xs) c (record { offered = x.messages ++ m ∷ []; taken = x.messages ++ m ∷ []; finished = n; stopped = x.stopped })) (one_longer x.messages m)
    ∙ ap (λ (v : View). put (views_of xs) c (record v { offered = v.offered ++ m ∷ []; taken = v.taken ++ m ∷ []; finished = suc v.finished })) (shows xs c i x found here)

-- the same channels are there
pub same_names : (xs : List Internal) (i : ℕ) (x y : Internal) → NamesDiffer name xs → slice_get xs i ≡ Some x → y.chan ≡ x.chan →
    (c : ℕ) → IsSome (named name c (slice_set xs i y)) ↔ IsSome (named name c xs)
same_names xs i x y differ here same c = elim (cases_eq (name x) c) [
  | inl is ↦ (let new : named name c (slice_set xs i y) ≡ Some y = ap (λ k. named name k (slice_set xs i y)) (sym is) ∙ named-set_same name xs i x y differ here same in
      let old : named name c xs ≡ Some x = ap (λ k. named name k xs) (sym is) ∙ named_at name xs i x differ here in
      ((λ h. subst IsSome (sym old) refl), (λ h. subst IsSome (sym new) refl)))
  | inr other ↦ (let k = named-set_other name xs i x y c here same other in ((λ h. subst IsSome k h), (λ h. subst IsSome (sym k) h)))
]

-- and no number stands twice
record Was (xs : List Internal) (j : ℕ) (z : Internal) : Type 0 where
  old : Internal
  there : slice_get xs j ≡ Some old
  same : z.chan ≡ old.chan

was : (xs : List Internal) (i j : ℕ) (x y z : Internal) → slice_get xs i ≡ Some x → y.chan ≡ x.chan → slice_get (slice_set xs i y) j ≡ Some z → Was xs j z
was [] i j x y z here same there = absurd (cc)
was (v ∷ vs) zero zero x y z here same there =
    let old : v ≡ x = cc in
    let new : y ≡ z = cc in
    record { old = v; there = refl; same = sym (ap name new) ∙ same ∙ sym (ap name old) }
was (v ∷ vs) zero (suc j) x y z here same there = record { old = z; there = there; same = refl }
was (v ∷ vs) (suc i) zero x y z here same there = record { old = z; there = there; same = refl }
was (v ∷ vs) (suc i) (suc j) x y z here same there = let w = was vs i j x y z here same there in record { old = w.old; there = w.there; same = w.same }

pub still_differ : (xs : List Internal) (i : ℕ) (x y : Internal) → NamesDiffer name xs → slice_get xs i ≡ Some x → y.chan ≡ x.chan → NamesDiffer name (slice_set xs i y)
still_differ xs i x y differ here same j k z w at_j at_k e =
    let p = was xs i j x y z here same at_j in
    let q = was xs i k x y w here same at_k in
    differ j k p.old q.old p.there q.there (sym p.same ∙ e ∙ q.same)

-- what stands in the list behind the value
pub record At (xs now : List Internal) (c i : ℕ) (x : Internal) : Type 0 where
  pub differ : NamesDiffer name xs
  pub found : slice_get xs i ≡ named name c xs
  pub here : slice_get xs i ≡ Some x

pub is_at : (xs now : List Internal) (c i : ℕ) (x : Internal) → NamesDiffer name xs → xs ≡ now → i < length now → slice_get now i ≡ named name c now → x ≡ get_or xs i x → At xs now c i x
is_at xs now c i x differ same less found is = record {
  differ = differ;
  found = subst (λ z. slice_get z i ≡ named name c z) (sym same) found;
  here = slice_get-get_or xs i x (subst (λ z. i < length z) (sym same) less) ∙ ap Some (sym is);
}

pub stops_at : (xs now : List Internal) (c i : ℕ) (x : Internal) → xs ≡ now → At xs now c i x → views_of (slice_set xs i (record x { stopped = true })) ≡ stopped_on (views_of now) c
stops_at xs now c i x same at = stopped xs c i x at.differ at.found at.here ∙ ap (λ z. stopped_on (views_of z) c) same

pub exchanges_at : (xs now : List Internal) (c i : ℕ) (x : Internal) (m : List ℕ) → xs ≡ now → At xs now c i x →
    views_of (slice_set xs i (record x { messages = x.messages ++ m ∷ [] })) ≡ exchanged_on (views_of now) c m
exchanges_at xs now c i x m same at = exchanges xs c i x m at.differ at.found at.here ∙ ap (λ z. exchanged_on (views_of z) c m) same

pub keeps_names : (xs now : List Internal) (c i : ℕ) (x y : Internal) → xs ≡ now → At xs now c i x → y.chan ≡ x.chan →
    (k : ℕ) → IsSome (named name k (slice_set xs i y)) ↔ IsSome (named name k now)
keeps_names xs now c i x y same at is k = subst (λ z. IsSome (named name k (slice_set xs i y)) ↔ IsSome (named name k z)) same (same_names xs i x y at.differ at.here is k)

-- a channel that is not inside a node shows what the halves of it there do
by_halves : (x : Option Internal) (v : View) (b : Bool) → IsTrue b ↔ IsSome x → b ≡ false → by_inside x v ≡ v
by_halves None v b is not = refl
by_halves (Some x) v b is not = absurd (false≢true (sym not ∙ is.1 refl))

pub no_inside : (n : Node) (c : ℕ) (b : Bool) → IsTrue b ↔ IsSome (named name c n.inside) → b ≡ false →
    node_view n c ≡ halves_view ((seen n.vcp).carrier.out c) ((seen n.vcp).carrier.into c)
no_inside n c b is not = by_halves (named name c n.inside) (halves_view ((seen n.vcp).carrier.out c) ((seen n.vcp).carrier.into c)) b is not

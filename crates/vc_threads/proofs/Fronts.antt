-- Where the runs have come, and which of them comes next.
use Rattle.std.proofs.Common.{◌≡◌, ◌↔◌, ℕ, zero, suc, ◌+◌, ◌<◌, ◌≤◌, ◌⊎◌, inl, inr, IsTrue, Bool, true, false, List, [], ◌∷◌, length, map, drop, slice_get, option_map, Option, Some, None, MatchOption, refl, sym, ap, subst, ◌∙◌, arith}
use Rattle.std.specs.List.{AllZip, AllByRecursion}
use Rattle.std.proofs.Math.ListN.{set}
use Rattle.std.proofs.lemmas.Bool.{cases_eq, cases_order}
use Rattle.std.proofs.lemmas.Option.{slice_get_within}
use Rattle.vc_network.specs.LocalRun.{Stamped}
use Rattle.vc_network.specs.Merge.{Numbered, NotAfter}
use Rattle.vc_actor.specs.declared.act.Act.{Act}
use Rattle.vc_threads.specs.MergedRuns.{of_pair, numbered}
use Rattle.vc_threads.specs.Private.MergedRuns.{stamp_at, front_of, id_at, IsNext, NotLater, FindsFirst}
use Rattle.vc_threads.specs.declared.merged_runs.Front.{Front}
use Rattle.vc_threads.specs.declared.act_log.ActorActs.{ActorActs}
use Rattle.vc_threads.proofs.MergeSteps.{without}

-- the first of the next acts of the first n runs
abbrev pub IsFirst : List ActorActs → List Front → ℕ → Option (ℕ × ℕ) → Type 0
IsFirst rs fs n None = (j at : ℕ) → j < n → IsNext fs j at → ⊥
IsFirst rs fs n (Some p) = (p.1 < length fs) × IsNext fs p.1 p.0 × ((j later : ℕ) → j < n → IsNext fs j later → NotLater rs p.0 p.1 later j)

one_stamp : (fs : List Front) (k a b : ℕ) → IsNext fs k a → IsNext fs k b → a ≡ b
one_stamp fs k a b (f, at_f, is_a) (g, at_g, is_b) =
    let both : Some f ≡ Some g = sym at_f ∙ at_g in
    let same : f ≡ g = cc in
    let ab : Some a ≡ Some b = sym is_a ∙ (ap (λ (z : Front). z.at) same ∙ is_b) in
    cc

module _ (rs : List ActorActs) (fs : List Front) (n : ℕ) (f : Front) (here : slice_get fs n ≡ Some f) where
  -- the next run has no act
  no_next : f.at ≡ None → (at : ℕ) → IsNext fs n at → ⊥
  no_next none at (g, at_g, is) =
      let both : Some f ≡ Some g = sym here ∙ at_g in
      let same : f ≡ g = cc in
      let z : None ≡ Some at = sym none ∙ (ap (λ (y : Front). y.at) same ∙ is) in
      absurd (cc)

  pub first_same : (first : Option (ℕ × ℕ)) → f.at ≡ None → IsFirst rs fs n first → IsFirst rs fs (n + 1) first
  first_same None none h = λ j at less next. elim (cases_eq j n) [
    | inl e ↦ no_next none at (subst (λ k. IsNext fs k at) e next)
    | inr ne ↦ h j at (omega arith) next
  ]
  first_same (Some p) none h = (
    h.0,
    h.1,
    λ j later less next. elim (cases_eq j n) [
      | inl e ↦ absurd (no_next none later (subst (λ k. IsNext fs k later) e next))
      | inr ne ↦ h.2 j later (omega arith) next
    ],
  )

  -- its act is not before the first
  pub first_kept : (p : ℕ × ℕ) (at : ℕ) → f.at ≡ Some at → ((at < p.0) ⊎ ((at ≡ p.0) × (id_at rs n < id_at rs p.1)) → ⊥) → IsFirst rs fs n (Some p) → IsFirst rs fs (n + 1) (Some p)
  first_kept p at is not h = (
    h.0,
    h.1,
    λ j later less next. elim (cases_eq j n) [
      | inl e ↦
          let same : at ≡ later = one_stamp fs n at later (f, here, is) (subst (λ k. IsNext fs k later) e next) in
          subst (λ k. NotLater rs p.0 p.1 later k) (sym e) (subst (λ z. NotLater rs p.0 p.1 z n) same kept)
      | inr ne ↦ h.2 j later (omega arith) next
    ],
  )
    where
      kept : NotLater rs p.0 p.1 at n
      kept = elim (cases_order p.0 at) [
        | inl e ↦ elim (cases_order (id_at rs p.1) (id_at rs n)) [
          | inl i ↦ inr (e, omega arith)
          | inr o ↦ elim o [ inl less ↦ inr (e, omega arith) | inr more ↦ absurd (not (inr (sym e, more))) ]
        ]
        | inr o ↦ elim o [ inl less ↦ inl less | inr more ↦ absurd (not (inl more)) ]
      ]

  -- or it is
  pub first_now : (first : Option (ℕ × ℕ)) (at : ℕ) → n < length fs → f.at ≡ Some at → MatchOption first (Unit {0}) (λ p. (at < p.0) ⊎ ((at ≡ p.0) × (id_at rs n < id_at rs p.1))) → IsFirst rs fs n first → IsFirst rs fs (n + 1) (Some (at, n))
  first_now None at within is before h = (
    within,
    (f, here, is),
    λ j later less next. elim (cases_eq j n) [
      | inl e ↦
          let same : at ≡ later = one_stamp fs n at later (f, here, is) (subst (λ k. IsNext fs k later) e next) in
          let ids : id_at rs n ≡ id_at rs j = ap (id_at rs) (sym e) in
          inr (same, omega arith)
      | inr ne ↦ absurd (h j later (omega arith) next)
    ],
  )
  first_now (Some p) at within is before h = (
    within,
    (f, here, is),
    λ j later less next. elim (cases_eq j n) [
      | inl e ↦
          let same : at ≡ later = one_stamp fs n at later (f, here, is) (subst (λ k. IsNext fs k later) e next) in
          let ids : id_at rs n ≡ id_at rs j = ap (id_at rs) (sym e) in
          inr (same, omega arith)
      | inr ne ↦ joined later j before (h.2 j later (omega arith) next)
    ],
  )
    where
      joined : (later j : ℕ) → (at < p.0) ⊎ ((at ≡ p.0) × (id_at rs n < id_at rs p.1)) → NotLater rs p.0 p.1 later j → NotLater rs at n later j
      joined later j (inl a) (inl b) = inl (omega arith)
      joined later j (inl a) (inr b) = let e = b.0 in inl (omega (arith, e))
      joined later j (inr a) (inl b) = let e = a.0 in inl (omega (arith, e))
      joined later j (inr a) (inr b) = let i = a.1 in let k = b.1 in inr (a.0 ∙ b.0, omega (arith, i, k))

pub was_before : (P : ℕ × ℕ → Type 0) (first : Option (ℕ × ℕ)) (b : Bool) → b ≡ true → MatchOption first (IsTrue b) (λ p. IsTrue b ↔ P p) → MatchOption first (Unit {0}) P
was_before P None b is h = tt
was_before P (Some p) b is h = h.0 is

pub first_stays : (rs : List ActorActs) (fs : List Front) (n : ℕ) (f : Front) → slice_get fs n ≡ Some f → (first : Option (ℕ × ℕ)) (at : ℕ) → f.at ≡ Some at → (b : Bool) → b ≡ false
    → MatchOption first (IsTrue b) (λ p. IsTrue b ↔ ((at < p.0) ⊎ ((at ≡ p.0) × (id_at rs n < id_at rs p.1)))) → IsFirst rs fs n first → IsFirst rs fs (n + 1) first
first_stays rs fs n f here None at is b not h before = absurd (let t : b ≡ true = h in cc)
first_stays rs fs n f here (Some p) at is b not h before = first_kept rs fs n f here p at is (λ q. let t : b ≡ true = h.1 q in cc) before

pub none_of : (o : Option ℕ) → ((x : ℕ) → o ≡ Some x → ⊥) → o ≡ None
none_of None h = refl
none_of (Some x) h = absurd (h x refl)

-- the first of all
pub found_first : (rs : List ActorActs) (fs : List Front) (n : ℕ) (p : ℕ × ℕ) → length fs ≤ n → IsFirst rs fs n (Some p) → FindsFirst rs fs (Some p.1)
found_first rs fs n p past h = (p.0, h.1, λ j later next. h.2 j later (let w = slice_get_within fs j next.0 next.1 in omega (arith, w)) next)

pub found_none : (rs : List ActorActs) (fs : List Front) (n : ℕ) → length fs ≤ n → IsFirst rs fs n None → FindsFirst rs fs None
found_none rs fs n past h k at next = h k at (let w = slice_get_within fs k next.0 next.1 in omega (arith, w)) next

-- the front is that of a place of the run
abbrev pub StandsAt : ActorActs → Front → Type 0
StandsAt r f = f.at ≡ stamp_at r f.place

abbrev pub left_in : ActorActs → ℕ → Numbered Act
left_in r place = record { actor = r.id; run = map of_pair (drop place r.acts.items) }

-- what is left of each run
abbrev pub left_of : List ActorActs → List Front → List (Numbered Act)
left_of [] fs = []
left_of (r ∷ rs) [] = []
left_of (r ∷ rs) (f ∷ fs) = left_in r f.place ∷ left_of rs fs

pub stand_first : (rs : List ActorActs) → AllZip StandsAt rs (map (λ r. front_of r 0) rs)
stand_first [] = tt
stand_first (r ∷ rs) = (refl, stand_first rs)

pub left_first : (rs : List ActorActs) → left_of rs (map (λ r. front_of r 0) rs) ≡ map numbered rs
left_first [] = refl
left_first (r ∷ rs) = ap (λ ns. numbered r ∷ ns) (left_first rs)

tail_drop : {X Y : Type 0} (f : X → Y) (xs : List X) (p : ℕ) → map f (drop (suc p) xs) ≡ drop 1 (map f (drop p xs))
tail_drop f [] zero = refl
tail_drop f [] (suc p) = refl
tail_drop f (x ∷ xs) zero = refl
tail_drop f (x ∷ xs) (suc p) = tail_drop f xs p

-- one run has come one place further
pub left_next : (rs : List ActorActs) (fs : List Front) (k : ℕ) (r : ActorActs) (f : Front) → slice_get rs k ≡ Some r → slice_get fs k ≡ Some f → left_of rs (set fs k (front_of r (f.place + 1))) ≡ without (left_of rs fs) k
left_next [] fs k r f a b = absurd (cc)
left_next (q ∷ qs) [] k r f a b = absurd (cc)
left_next (q ∷ qs) (g ∷ gs) zero r f a b =
    let same : q ≡ r = cc in
    let here : g ≡ f = cc in
    let next : f.place + 1 ≡ suc g.place = let e = ap (λ (z : Front). z.place) here in omega (arith, e) in
    ap (λ p. left_in q p ∷ left_of qs gs) next ∙ (λ i. record { actor = q.id; run = tail_drop of_pair q.acts.items g.place i } ∷ left_of qs gs)
left_next (q ∷ qs) (g ∷ gs) (suc k) r f a b = ap (λ ns. left_in q g.place ∷ ns) (left_next qs gs k r f a b)

pub stand_next : (rs : List ActorActs) (fs : List Front) (k : ℕ) (r : ActorActs) (place : ℕ) → slice_get rs k ≡ Some r → AllZip StandsAt rs fs → AllZip StandsAt rs (set fs k (front_of r place))
stand_next [] fs k r p a z = absurd (cc)
stand_next (q ∷ qs) [] k r p a z = z
stand_next (q ∷ qs) (g ∷ gs) zero r p a z = let same : q ≡ r = cc in (ap (λ (y : ActorActs). stamp_at y p) (sym same), z.1)
stand_next (q ∷ qs) (g ∷ gs) (suc k) r p a z = (z.0, stand_next qs gs k r p a z.1)

-- an act stands at a place
drop_at : (acts : List (ℕ × Act)) (p : ℕ) (x : ℕ × Act) → slice_get acts p ≡ Some x → map of_pair (drop p acts) ≡ of_pair x ∷ map of_pair (drop (suc p) acts)
drop_at [] p x e = absurd (cc)
drop_at (y ∷ ys) zero x e = let same : y ≡ x = cc in ap (λ z. of_pair z ∷ map of_pair ys) same
drop_at (y ∷ ys) (suc p) x e = drop_at ys p x e

pub stamped : (o : Option (ℕ × Act)) (at : ℕ) → option_map (λ a. a.0) o ≡ Some at → (x : ℕ × Act) × (o ≡ Some x) × (x.0 ≡ at)
stamped (Some x) at e = (x, refl, cc)
stamped None at e = absurd (cc)

-- the next act of a run
pub record Coming (rs : List ActorActs) (fs : List Front) (k at : ℕ) (run : ActorActs) (front : Front) : Type 0 where
  pub act : ℕ × Act
  pub act_is : slice_get run.acts.items front.place ≡ Some act
  pub stamp : act.0 ≡ at
  pub id : id_at rs k ≡ run.id
  pub left : slice_get (left_of rs fs) k ≡ Some (left_in run front.place)

pub coming : (rs : List ActorActs) (fs : List Front) (k at : ℕ) (run : ActorActs) (front : Front) → AllZip StandsAt rs fs → slice_get rs k ≡ Some run → slice_get fs k ≡ Some front → IsNext fs k at → Coming rs fs k at run front
coming [] fs k at run front z a b next = absurd (cc)
coming (q ∷ qs) [] k at run front z a b next = absurd z
coming (q ∷ qs) (g ∷ gs) zero at run front z a b (f, here, is) =
    let same : g ≡ f = cc in
    let mine : q ≡ run = cc in
    let its : g ≡ front = cc in
    let x = stamped (slice_get q.acts.items g.place) at (sym z.0 ∙ (ap (λ (y : Front). y.at) same ∙ is)) in
    subst (λ (y : ActorActs). Coming (q ∷ qs) (g ∷ gs) 0 at y front) mine (subst (λ (y : Front). Coming (q ∷ qs) (g ∷ gs) 0 at q y) its (record { act = x.0; act_is = x.1; stamp = x.2; id = refl; left = refl }))
coming (q ∷ qs) (g ∷ gs) (suc k) at run front z a b next =
    let c = coming qs gs k at run front z.1 a b next in
    record { act = c.act; act_is = c.act_is; stamp = c.stamp; id = c.id; left = c.left }

pub run_at : (rs : List ActorActs) (fs : List Front) (k at : ℕ) (run : ActorActs) (front : Front) (c : Coming rs fs k at run front) → map of_pair (drop front.place run.acts.items) ≡ of_pair c.act ∷ map of_pair (drop (suc front.place) run.acts.items)
run_at rs fs k at run front c = drop_at run.acts.items front.place c.act c.act_is

-- a run that has an act left stands before it
record Standing (rs : List ActorActs) (fs : List Front) (j : ℕ) (q : Numbered Act) (f : Stamped Act) : Type 0 where
  next : IsNext fs j f.at
  id : id_at rs j ≡ q.actor

standing_here : (r : ActorActs) (g : Front) (f : Stamped Act) (more : List (Stamped Act)) → StandsAt r g → map of_pair (drop g.place r.acts.items) ≡ f ∷ more → g.at ≡ Some f.at
standing_here r g f more z e = z ∙ stamp_here r.acts.items g.place e
  where
    stamp_here : (acts : List (ℕ × Act)) (p : ℕ) → map of_pair (drop p acts) ≡ f ∷ more → option_map (λ a. a.0) (slice_get acts p) ≡ Some f.at
    stamp_here [] zero h = absurd (cc)
    stamp_here [] (suc p) h = absurd (cc)
    stamp_here (x ∷ xs) zero h = let same : of_pair x ≡ f = cc in ap (λ (s : Stamped Act). Some s.at) same
    stamp_here (x ∷ xs) (suc p) h = stamp_here xs p h

standing : (rs : List ActorActs) (fs : List Front) (j : ℕ) (q : Numbered Act) (f : Stamped Act) (more : List (Stamped Act)) → AllZip StandsAt rs fs → slice_get (left_of rs fs) j ≡ Some q → q.run ≡ f ∷ more → Standing rs fs j q f
standing [] fs j q f more z e run = absurd (cc)
standing (r ∷ rs) [] j q f more z e run = absurd z
standing (r ∷ rs) (g ∷ gs) zero q f more z e run =
    let same : left_in r g.place ≡ q = cc in
    record { next = (g, refl, standing_here r g f more z.0 (ap (λ (y : Numbered Act). y.run) same ∙ run)); id = ap (λ (y : Numbered Act). y.actor) same }
standing (r ∷ rs) (g ∷ gs) (suc j) q f more z e run = let s = standing rs gs j q f more z.1 e run in record { next = s.next; id = s.id }

-- so the first of all is not after the next act of any run
pub not_after : (rs : List ActorActs) (fs : List Front) (k at : ℕ) (run : ActorActs) (front : Front) (c : Coming rs fs k at run front) → AllZip StandsAt rs fs → ((j later : ℕ) → IsNext fs j later → NotLater rs at k later j)
    → (j : ℕ) (q : Numbered Act) (f : Stamped Act) (more : List (Stamped Act)) → slice_get (left_of rs fs) j ≡ Some q → q.run ≡ f ∷ more → NotAfter (record { actor = run.id; act = of_pair c.act }) (record { actor = q.actor; act = f })
not_after rs fs k at run front c z least j q f more e is =
    let s = standing rs fs j q f more z e is in
    by_order s (least j f.at s.next)
  where
    by_order : Standing rs fs j q f → NotLater rs at k f.at j → NotAfter (record { actor = run.id; act = of_pair c.act }) (record { actor = q.actor; act = f })
    by_order s (inl less) = let same = c.stamp in inl (omega (arith, same, less))
    by_order s (inr tie) = let a = tie.1 in let b = c.id in let d = s.id in inr (c.stamp ∙ tie.0, omega (arith, a, b, d))

-- where no run comes next, nothing is left
pub none_left : (rs : List ActorActs) (fs : List Front) → AllZip StandsAt rs fs → ((k at : ℕ) → IsNext fs k at → ⊥) → AllByRecursion (λ (r : Numbered Act). r.run ≡ []) (left_of rs fs)
none_left [] fs z h = tt
none_left (r ∷ rs) [] z h = tt
none_left (r ∷ rs) (g ∷ gs) z h = (empty (map of_pair (drop g.place r.acts.items)) refl, none_left rs gs z.1 (λ k. h (suc k)))
  where
    empty : (ss : List (Stamped Act)) → map of_pair (drop g.place r.acts.items) ≡ ss → map of_pair (drop g.place r.acts.items) ≡ []
    empty [] e = e
    empty (s ∷ ss) e = absurd (h 0 s.at (g, refl, standing_here r g s ss z.0 e))

-- The first clash in uses that stand in order: all uses of one thing are compared with the first of them.
use Rattle.std.proofs.Common.{◌≡◌, ℕ, Bool, true, false, refl, sym, ◌∙◌, ap, subst, List, [], ◌∷◌, arith, ◌⊎◌, inl, inr, eqb}
use Rattle.std.proofs.lemmas.Bool.Decides.{nat_tests}
use Rattle.std.specs.Prelude.{slice_get, Some, None}
use Rattle.std.specs.List.{Contains}
use Rattle.vc_process.specs.declared.used.Used.{Used}
use Rattle.vc_process.specs.declared.used.Used.TheVariants.{Output, Input, Variable}
use Rattle.vc_process.specs.declared.used.PartUsage.{PartUsage}
use Rattle.vc_process.specs.Private.Clashes.{Before, NotAfter, AllNotBefore, Ascending, Clash, Clashes, IsFirstClash}
use Rattle.vc_process.proofs.Lists.{at_front, behind, front_or, only}

not_itself : (n : Used) → Before n n → ⊥
not_itself (Output c) h = omega arith
not_itself (Input c) h = omega arith
not_itself (Variable v) h = omega arith

onward : (l m n : Used) → Before l m → Before m n → Before l n
onward (Output a) (Output b) (Output c) h k = omega arith
onward (Output a) (Output b) (Input c) h k = tt
onward (Output a) (Output b) (Variable c) h k = tt
onward (Output a) (Input b) (Output c) h k = absurd k
onward (Output a) (Input b) (Input c) h k = tt
onward (Output a) (Input b) (Variable c) h k = tt
onward (Output a) (Variable b) (Output c) h k = absurd k
onward (Output a) (Variable b) (Input c) h k = absurd k
onward (Output a) (Variable b) (Variable c) h k = tt
onward (Input a) (Output b) n h k = absurd h
onward (Input a) (Input b) (Output c) h k = absurd k
onward (Input a) (Input b) (Input c) h k = omega arith
onward (Input a) (Input b) (Variable c) h k = tt
onward (Input a) (Variable b) (Output c) h k = absurd k
onward (Input a) (Variable b) (Input c) h k = absurd k
onward (Input a) (Variable b) (Variable c) h k = tt
onward (Variable a) (Output b) n h k = absurd h
onward (Variable a) (Input b) n h k = absurd h
onward (Variable a) (Variable b) (Output c) h k = absurd k
onward (Variable a) (Variable b) (Input c) h k = absurd k
onward (Variable a) (Variable b) (Variable c) h k = omega arith

-- none of them stands before it
none_before : (x : PartUsage) (xs : List PartUsage) (y : PartUsage) → AllNotBefore x xs → Contains xs y → NotAfter x y
none_before x [] y h (k, l, e) = absurd (omega arith)
none_before x (z ∷ xs) y h c = elim (front_or z xs y c) [ inl e ↦ subst (NotAfter x) e h.0 | inr k ↦ none_before x xs y h.1 k ]

-- it is told before all of them
abbrev AllLater : PartUsage → List PartUsage → Type 0
AllLater h xs = (x : PartUsage) → Contains xs x → Before h.used x.used

later : (h u : PartUsage) (us : List PartUsage) → Ascending (h ∷ u ∷ us) → (h.used ≡ u.used → ⊥) → AllLater h (u ∷ us)
later h u us a d x c =
    let first : Before h.used u.used = elim a.0.0 [ inl b ↦ b | inr q ↦ absurd (d q.0) ] in
    elim (front_or u us x c) [
      | inl e ↦ subst (λ (z : PartUsage). Before h.used z.used) e first
      | inr k ↦ elim (none_before u us x a.1.0 k) [ inl b ↦ onward h.used u.used x.used first b | inr q ↦ subst (Before h.used) q.0 first ]
    ]

pub more : {xs ys : List PartUsage} {n : Used} → ((x : PartUsage) → Contains xs x → Contains ys x) → Clash xs n → Clash ys n
more f c = record { first = c.first; second = c.second; has_first = f c.first c.has_first; has_second = f c.second c.has_second; by_first = c.by_first; by_second = c.by_second; changed = c.changed; apart = c.apart }

-- another thing begins: what came before it clashes with nothing that follows
drop_first : (h : PartUsage) (xs : List PartUsage) (n : Used) → AllLater h xs → Clash (h ∷ xs) n → Clash xs n
drop_first h xs n l c =
    let both : Contains xs c.first × Contains xs c.second = elim (front_or h xs c.first c.has_first) [
      | inl e ↦ elim (front_or h xs c.second c.has_second) [
        | inl f ↦ absurd (c.apart (ap (λ (z : PartUsage). z.part) (sym e ∙ f)))
        | inr k ↦ absurd (not_itself n (subst (λ m. Before m n) (ap (λ (z : PartUsage). z.used) e ∙ c.by_first) (subst (Before h.used) c.by_second (l c.second k))))
      ]
      | inr k ↦ elim (front_or h xs c.second c.has_second) [
        | inl f ↦ absurd (not_itself n (subst (λ m. Before m n) (ap (λ (z : PartUsage). z.used) f ∙ c.by_second) (subst (Before h.used) c.by_first (l c.first k))))
        | inr m ↦ (k, m)
      ]
    ] in
    record { first = c.first; second = c.second; has_first = both.0; has_second = both.1; by_first = c.by_first; by_second = c.by_second; changed = c.changed; apart = c.apart }

-- a use that the first one stands for
record StandsFor (xs : List PartUsage) (x : PartUsage) : Type 0 where
  by : PartUsage
  there : Contains xs by
  same : by.used ≡ x.used
  at : by.part ≡ x.part
  changes : x.reads ≡ false → by.reads ≡ false

itself : (xs : List PartUsage) (x : PartUsage) → Contains xs x → StandsFor xs x
itself xs x c = record { by = x; there = c; same = refl; at = refl; changes = λ e. e }

stand_in : (h u : PartUsage) (us : List PartUsage) → h.used ≡ u.used → h.reads ≡ false → h.part ≡ u.part → (x : PartUsage) → Contains (h ∷ u ∷ us) x → StandsFor (h ∷ us) x
stand_in h u us s r p x c =
    elim (front_or h (u ∷ us) x c) [
      | inl e ↦ itself (h ∷ us) x (subst (Contains (h ∷ us)) e (at_front h us))
      | inr k ↦ elim (front_or u us x k) [
        | inl e ↦ record { by = h; there = at_front h us; same = s ∙ ap (λ (z : PartUsage). z.used) e; at = p ∙ ap (λ (z : PartUsage). z.part) e; changes = λ _. r }
        | inr m ↦ itself (h ∷ us) x (behind h us x m)
      ]
    ]

by_stand_ins : (xs ys : List PartUsage) (n : Used) → ((x : PartUsage) → Contains xs x → StandsFor ys x) → Clash xs n → Clash ys n
by_stand_ins xs ys n f c =
    let a = f c.first c.has_first in
    let b = f c.second c.has_second in
    record { first = a.by; second = b.by; has_first = a.there; has_second = b.there; by_first = a.same ∙ c.by_first; by_second = b.same ∙ c.by_second; changed = a.changes c.changed; apart = λ e. c.apart (sym a.at ∙ e ∙ b.at) }

-- where the first of them isn't changed, none of the others is
all_read : (h : PartUsage) (xs : List PartUsage) (x : PartUsage) → AllNotBefore h xs → h.reads ≡ true → Contains (h ∷ xs) x → h.used ≡ x.used → x.reads ≡ false → ⊥
all_read h xs x a r c s f =
    elim (front_or h xs x c) [
      | inl e ↦ absurd (let z : true ≡ false = sym r ∙ ap (λ (y : PartUsage). y.reads) e ∙ f in cc)
      | inr k ↦ elim (none_before h xs x a k) [
        | inl b ↦ not_itself x.used (subst (λ m. Before m x.used) s b)
        | inr q ↦ absurd (let z : true ≡ false = sym r ∙ q.1 f in cc)
      ]
    ]

drop_read : (h u : PartUsage) (us : List PartUsage) (n : Used) → AllNotBefore h (u ∷ us) → h.used ≡ u.used → h.reads ≡ true → Clash (h ∷ u ∷ us) n → Clash (h ∷ us) n
drop_read h u us n a s r c =
    let other = λ (e : n ≡ h.used). all_read h (u ∷ us) c.first a r c.has_first (sym e ∙ sym c.by_first) c.changed in
    let keep : (x : PartUsage) → Contains (h ∷ u ∷ us) x → x.used ≡ n → Contains (h ∷ us) x = λ x k e. elim (front_or h (u ∷ us) x k) [
      | inl f ↦ subst (Contains (h ∷ us)) f (at_front h us)
      | inr m ↦ elim (front_or u us x m) [
        | inl f ↦ absurd (other (sym e ∙ sym (ap (λ (z : PartUsage). z.used) f) ∙ sym s))
        | inr l ↦ behind h us x l
      ]
    ] in
    record { first = c.first; second = c.second; has_first = keep c.first c.has_first c.by_first; has_second = keep c.second c.has_second c.by_second; by_first = c.by_first; by_second = c.by_second; changed = c.changed; apart = c.apart }

same_number : (a b : ℕ) → ((a ≡ b → ⊥) → ⊥) → a ≡ b
same_number a b h = go (eqb a b) refl
  where
    go : (t : Bool) → eqb a b ≡ t → a ≡ b
    go true e = grind (arith, nat_tests)
    go false e = absurd (h (λ q. grind (arith, nat_tests)))

-- the uses that are left, behind the first of those of the same thing, clash as all do
pub record Narrowed (all : List PartUsage) (h : PartUsage) (rest : List PartUsage) : Type 0 where
  pub in_order : Ascending (h ∷ rest)
  pub fewer : (n : Used) → Clash all n → Clash (h ∷ rest) n
  pub enough : (n : Used) → Clash (h ∷ rest) n → Clash all n

abbrev IsFirst : PartUsage → PartUsage → PartUsage → Type 0
IsFirst h u r = ((h.used ≡ u.used) × (r ≡ h)) ⊎ ((h.used ≡ u.used → ⊥) × (r ≡ u))

pub on_next : (all : List PartUsage) (h u : PartUsage) (us : List PartUsage) → (Clashes h u → ⊥) → Narrowed all h (u ∷ us) → (r : PartUsage) → IsFirst h u r → Narrowed all r us
on_next all h u us apart w r (inl q) =
    let a = w.in_order in
    let past = λ (n : Used) (c : Clash (h ∷ u ∷ us) n). split n c h.reads refl in
    subst (λ z. Narrowed all z us) (sym q.1) (record {
      in_order = (a.0.1, a.1.1);
      fewer = λ n c. past n (w.fewer n c);
      enough = λ n c. w.enough n (more (λ x k. elim (front_or h us x k) [ inl e ↦ subst (Contains (h ∷ u ∷ us)) e (at_front h (u ∷ us)) | inr m ↦ behind h (u ∷ us) x (behind u us x m) ]) c);
    })
  where
    split : (n : Used) → Clash (h ∷ u ∷ us) n → (b : Bool) → h.reads ≡ b → Clash (h ∷ us) n
    split n c true e = drop_read h u us n w.in_order.0 q.0 e c
    split n c false e = by_stand_ins (h ∷ u ∷ us) (h ∷ us) n (stand_in h u us q.0 e (same_number h.part u.part (λ p. apart (q.0, e, p)))) c
on_next all h u us apart w r (inr q) =
    let l = later h u us w.in_order q.0 in
    subst (λ z. Narrowed all z us) (sym q.1) (record {
      in_order = w.in_order.1;
      fewer = λ n c. drop_first h (u ∷ us) n l (w.fewer n c);
      enough = λ n c. w.enough n (more (behind h (u ∷ us)) c);
    })

-- at first all are left, behind the first of all
pub at_first : (all : List PartUsage) (h : PartUsage) → Ascending all → slice_get all 0 ≡ Some h → Narrowed all h all
at_first [] h a e = absurd cc
at_first (x ∷ xs) h a e =
    let s : x ≡ h = cc in
    subst (λ z. Narrowed (x ∷ xs) z (x ∷ xs)) s (record {
      in_order = ((inr (refl, λ k. k), a.0), a);
      fewer = λ n c. more (behind x (x ∷ xs)) c;
      enough = λ n c. more (λ y k. elim (front_or x (x ∷ xs) y k) [ inl f ↦ subst (Contains (x ∷ xs)) f (at_front x xs) | inr m ↦ m ]) c;
    })

-- a clash with the first is the first clash
pub told : (all : List PartUsage) (h u : PartUsage) (us : List PartUsage) → Narrowed all h (u ∷ us) → Clashes h u → IsFirstClash all (Some h.used)
told all h u us w q = (
  w.enough h.used (record { first = h; second = u; has_first = at_front h (u ∷ us); has_second = behind h (u ∷ us) u (at_front u us); by_first = refl; by_second = sym q.0; changed = q.1; apart = q.2 }),
  λ m b c.
      let k = w.fewer m c in
      let least : Before m h.used → ⊥ = λ e. elim (front_or h (u ∷ us) k.first k.has_first) [
        | inl f ↦ not_itself m (subst (Before m) (ap (λ (z : PartUsage). z.used) f ∙ k.by_first) e)
        | inr l ↦ elim (none_before h (u ∷ us) k.first w.in_order.0 l) [
          | inl g ↦ not_itself m (onward m h.used m e (subst (Before h.used) k.by_first g))
          | inr g ↦ not_itself m (subst (Before m) (g.0 ∙ k.by_first) e)
        ]
      ] in
      least b,
)

-- one use alone clashes with none
pub none_left : (all : List PartUsage) (h : PartUsage) → Narrowed all h [] → IsFirstClash all None
none_left all h w = λ n c.
    let k = w.fewer n c in
    k.apart (ap (λ (z : PartUsage). z.part) (sym (only h k.first k.has_first) ∙ only h k.second k.has_second))

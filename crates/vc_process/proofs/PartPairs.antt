-- Two parts of a PAR share something exactly where the list of their uses has a clash.
use Rattle.std.proofs.Common.{◌≡◌, ℕ, ◌<◌, Bool, true, false, ◌||◌, ◌&&◌, refl, sym, ◌∙◌, ap, subst, eqb, List, [], ◌∷◌, ◌++◌, map, suc, arith, not, inl, inr, Option, Some, None, Err}
use Rattle.std.proofs.lemmas.Bool.Decides.{nat_tests}
use Rattle.std.specs.List.{Contains, list_any}
use Rattle.std.specs.List.Sorted.{IsPermutation}
use Rattle.std.proofs.lemmas.List.Elements.{Contains-append_left, Contains-append_right, Contains-append_cases}
use Rattle.std.proofs.lemmas.List.Sorted.{Contains-permutation, IsPermutation-sym}
use Rattle.vc_process.specs.declared.used.Used.{Used}
use Rattle.vc_process.specs.declared.used.Used.TheVariants as of
use Rattle.vc_process.specs.declared.used.Usage.{Usage}
use Rattle.vc_process.specs.declared.used.PartUsage.{PartUsage}
use Rattle.vc_process.specs.Lawful as told
use Rattle.vc_process.specs.Lawful.{With, Shared, Offends, by_output, by_input, by_variable, SideBySide, outputs, inputs}
use Rattle.vc_process.specs.Private.Clashes.{Clash, IsFirstClash, Judges, fault_of}
use Rattle.vc_process.specs.Syntax.{Proc, Procs, no_parts, part}
use Rattle.vc_process.specs.Usage.{Set, changes, uses}
use Rattle.vc_process.specs.Private.Usages.{by_part, part_usages, usages}
use Rattle.vc_process.proofs.Clashes.{more}
use Rattle.vc_process.proofs.Lists.{at_front, behind, front_or, none}
use Rattle.vc_process.proofs.Shares.{outputs_listed, inputs_listed, changes_listed, uses_listed}

-- what a list has that passes a test
record Passes {X : Type 0} (t : X → Bool) (xs : List X) : Type 0 where
  one : X
  there : Contains xs one
  passes : t one ≡ true

found : {X : Type 0} (t : X → Bool) (xs : List X) → list_any t xs ≡ true → Passes t xs
found t [] h = absurd (let z : false ≡ true = h in cc)
found t (x ∷ xs) h = go (t x) refl h (found t xs)
  where
    go : (b : Bool) → t x ≡ b → (b || list_any t xs) ≡ true → (list_any t xs ≡ true → Passes t xs) → Passes t (x ∷ xs)
    go true e k f = record { one = x; there = at_front x xs; passes = e }
    go false e k f = let r = f k in record { one = r.one; there = behind x xs r.one r.there; passes = r.passes }

or_later : (b c : Bool) → c ≡ true → (b || c) ≡ true
or_later true c h = refl
or_later false c h = h

finds : {X : Type 0} (t : X → Bool) (xs : List X) (x : X) → Contains xs x → t x ≡ true → list_any t xs ≡ true
finds t [] x c h = absurd (none x c)
finds t (y ∷ xs) x c h = elim (front_or y xs x c) [ inl e ↦ ap (λ b. b || list_any t xs) (ap t e ∙ h) | inr k ↦ or_later (t y) (list_any t xs) (finds t xs x k h) ]

-- uses of one thing, and changes of it
abbrev same : Used → Used → Bool
same (of.Output c) (of.Output d) = eqb c d
same (of.Input c) (of.Input d) = eqb c d
same (of.Variable v) (of.Variable w) = eqb v w
same n m = false

abbrev uses_it : Used → Usage → Bool
uses_it n u = same n u.used

abbrev changes_it : Used → Usage → Bool
changes_it n u = same n u.used && not u.reads

is_same : (n m : Used) → same n m ≡ true → m ≡ n
is_same (of.Output c) (of.Output d) h = ap of.Output (grind (arith, nat_tests))
is_same (of.Output c) (of.Input d) h = absurd (let z : false ≡ true = h in cc)
is_same (of.Output c) (of.Variable d) h = absurd (let z : false ≡ true = h in cc)
is_same (of.Input c) (of.Output d) h = absurd (let z : false ≡ true = h in cc)
is_same (of.Input c) (of.Input d) h = ap of.Input (grind (arith, nat_tests))
is_same (of.Input c) (of.Variable d) h = absurd (let z : false ≡ true = h in cc)
is_same (of.Variable c) (of.Output d) h = absurd (let z : false ≡ true = h in cc)
is_same (of.Variable c) (of.Input d) h = absurd (let z : false ≡ true = h in cc)
is_same (of.Variable c) (of.Variable d) h = ap of.Variable (grind (arith, nat_tests))

same_itself : (n : Used) → same n n ≡ true
same_itself (of.Output c) = grind (arith, nat_tests)
same_itself (of.Input c) = grind (arith, nat_tests)
same_itself (of.Variable v) = grind (arith, nat_tests)

uses_this : (n : Used) (u : Usage) → u.used ≡ n → uses_it n u ≡ true
uses_this n u e = ap (same n) e ∙ same_itself n

changes_this : (n : Used) (u : Usage) → u.used ≡ n → u.reads ≡ false → changes_it n u ≡ true
changes_this n u e r = ap (λ b. b && not u.reads) (uses_this n u e) ∙ ap not r

both : (a b : Bool) → (a && b) ≡ true → (a ≡ true) × (b ≡ true)
both true b h = (refl, h)
both false b h = absurd (let z : false ≡ true = h in cc)

is_not : (b : Bool) → not b ≡ true → b ≡ false
is_not true h = absurd (let z : false ≡ true = h in cc)
is_not false h = refl

-- what a part's list has is used by it
record FromPart (k : ℕ) (us : List Usage) (x : PartUsage) : Type 0 where
  usage : Usage
  used : Contains us usage
  is : x ≡ by_part k usage

from_part : (k : ℕ) (us : List Usage) (x : PartUsage) → Contains (map (by_part k) us) x → FromPart k us x
from_part k [] x c = absurd (none x c)
from_part k (u ∷ us) x c = elim (front_or (by_part k u) (map (by_part k) us) x c) [
  | inl e ↦ record { usage = u; used = at_front u us; is = sym e }
  | inr m ↦ let r = from_part k us x m in record { usage = r.usage; used = behind u us r.usage r.used; is = r.is }
]

to_part : (k : ℕ) (us : List Usage) (u : Usage) → Contains us u → Contains (map (by_part k) us) (by_part k u)
to_part k [] u c = absurd (none u c)
to_part k (w ∷ us) u c = elim (front_or w us u c) [
  | inl e ↦ subst (λ z. Contains (map (by_part k) (w ∷ us)) (by_part k z)) e (at_front (by_part k w) (map (by_part k) us))
  | inr m ↦ behind (by_part k w) (map (by_part k) us) (by_part k u) (to_part k us u m)
]

and_or : (a b c d : Bool) → a ≡ true → b ≡ true → ((a && b) || (c && d)) ≡ true
and_or true true c d e f = refl
and_or true false c d e f = absurd (let z : false ≡ true = f in cc)
and_or false b c d e f = absurd (let z : false ≡ true = e in cc)

or_and : (a b c d : Bool) → c ≡ true → d ≡ true → ((a && b) || (c && d)) ≡ true
or_and a b c d e f = or_later (a && b) (c && d) (ap (λ x. x && d) e ∙ f)

-- one thing that is used, the set of what changes it, and the set of what uses it
module _ (n : Used) (f g : Proc → Set) (k : ℕ) (listed_f : (p : Proc) → list_any (changes_it n) (usages p) ≡ f p k) (listed_g : (p : Proc) → list_any (uses_it n) (usages p) ≡ g p k) where
  -- what stands in the list of a part
  part_uses : (m : ℕ) (p : Proc) (x : PartUsage) → Contains (map (by_part m) (usages p)) x → x.used ≡ n → g p k ≡ true
  part_uses m p x c e =
      let r = from_part m (usages p) x c in
      sym (listed_g p) ∙ finds (uses_it n) (usages p) r.usage r.used (uses_this n r.usage (ap (λ (z : PartUsage). z.used) (sym r.is) ∙ e))

  part_changes : (m : ℕ) (p : Proc) (x : PartUsage) → Contains (map (by_part m) (usages p)) x → x.used ≡ n → x.reads ≡ false → f p k ≡ true
  part_changes m p x c e h =
      let r = from_part m (usages p) x c in
      sym (listed_f p) ∙ finds (changes_it n) (usages p) r.usage r.used (changes_this n r.usage (ap (λ (z : PartUsage). z.used) (sym r.is) ∙ e) (ap (λ (z : PartUsage). z.reads) (sym r.is) ∙ h))

  with_use : (m : ℕ) (p : Proc) (ps : Procs) (x : PartUsage) → f p k ≡ true → Contains (part_usages m ps) x → x.used ≡ n → With f g k p ps
  with_use m p no_parts x h c e = absurd (none x c)
  with_use m p (part q ps) x h c e = elim (Contains-append_cases (map (by_part m) (usages q)) (part_usages (suc m) ps) x c) [
    | inl l ↦ inl (and_or (f p k) (g q k) (g p k) (f q k) h (part_uses m q x l e))
    | inr r ↦ inr (with_use (suc m) p ps x h r e)
  ]

  with_change : (m : ℕ) (p : Proc) (ps : Procs) (x : PartUsage) → g p k ≡ true → Contains (part_usages m ps) x → x.used ≡ n → x.reads ≡ false → With f g k p ps
  with_change m p no_parts x h c e d = absurd (none x c)
  with_change m p (part q ps) x h c e d = elim (Contains-append_cases (map (by_part m) (usages q)) (part_usages (suc m) ps) x c) [
    | inl l ↦ inl (or_and (f p k) (g q k) (g p k) (f q k) h (part_changes m q x l e d))
    | inr r ↦ inr (with_change (suc m) p ps x h r e d)
  ]

  pub clash_shares : (m : ℕ) (ps : Procs) → Clash (part_usages m ps) n → Shared f g k ps
  clash_shares m no_parts c = absurd (none c.first c.has_first)
  clash_shares m (part p ps) c =
      let us = map (by_part m) (usages p) in
      let rest = part_usages (suc m) ps in
      elim (Contains-append_cases us rest c.first c.has_first) [
        | inl a ↦ elim (Contains-append_cases us rest c.second c.has_second) [
          | inl b ↦ absurd (c.apart (ap (λ (z : PartUsage). z.part) (from_part m (usages p) c.first a).is ∙ sym (ap (λ (z : PartUsage). z.part) (from_part m (usages p) c.second b).is)))
          | inr b ↦ inl (with_use (suc m) p ps c.second (part_changes m p c.first a c.by_first c.changed) b c.by_second)
        ]
        | inr a ↦ elim (Contains-append_cases us rest c.second c.has_second) [
          | inl b ↦ inl (with_change (suc m) p ps c.first (part_uses m p c.second b c.by_second) a c.by_first c.changed)
          | inr b ↦ inr (clash_shares (suc m) ps (record { first = c.first; second = c.second; has_first = a; has_second = b; by_first = c.by_first; by_second = c.by_second; changed = c.changed; apart = c.apart }))
        ]
      ]

  -- a use in the list of a part, and a change
  record Uses (m : ℕ) (p : Proc) : Type 0 where
    by : PartUsage
    there : Contains (map (by_part m) (usages p)) by
    same : by.used ≡ n
    at : by.part ≡ m

  uses_in : (m : ℕ) (p : Proc) → g p k ≡ true → Uses m p
  uses_in m p h =
      let r = found (uses_it n) (usages p) (listed_g p ∙ h) in
      record { by = by_part m r.one; there = to_part m (usages p) r.one r.there; same = is_same n r.one.used r.passes; at = refl }

  record Changes (m : ℕ) (p : Proc) : Type 0 where
    by : PartUsage
    there : Contains (map (by_part m) (usages p)) by
    same : by.used ≡ n
    at : by.part ≡ m
    changed : by.reads ≡ false

  changes_in : (m : ℕ) (p : Proc) → f p k ≡ true → Changes m p
  changes_in m p h =
      let r = found (changes_it n) (usages p) (listed_f p ∙ h) in
      let t = both (same n r.one.used) (not r.one.reads) r.passes in
      record { by = by_part m r.one; there = to_part m (usages p) r.one r.there; same = is_same n r.one.used t.0; at = refl; changed = is_not r.one.reads t.1 }

  -- the clash of a part with one of those from another place on
  with_clash : (m l : ℕ) (p : Proc) (ps : Procs) → m < l → With f g k p ps → Clash (map (by_part m) (usages p) ++ part_usages l ps) n
  with_clash m l p no_parts s w = absurd w
  with_clash m l p (part q ps) s (inl w) = go (f p k) (g q k) (g p k) (f q k) refl refl refl refl w
    where
      us : List PartUsage
      us = map (by_part m) (usages p)

      ws : List PartUsage
      ws = map (by_part l) (usages q)

      rest : List PartUsage
      rest = part_usages (suc l) ps

      left : (x : PartUsage) → Contains (map (by_part m) (usages p)) x → Contains (map (by_part m) (usages p) ++ part_usages l (part q ps)) x
      left x c = Contains-append_left (map (by_part m) (usages p)) (part_usages l (part q ps)) x c

      right : (x : PartUsage) → Contains (map (by_part l) (usages q)) x → Contains (map (by_part m) (usages p) ++ part_usages l (part q ps)) x
      right x c = Contains-append_right (map (by_part m) (usages p)) (part_usages l (part q ps)) x (Contains-append_left (map (by_part l) (usages q)) (part_usages (suc l) ps) x c)

      go : (a b c d : Bool) → f p k ≡ a → g q k ≡ b → g p k ≡ c → f q k ≡ d → ((a && b) || (c && d)) ≡ true → Clash (map (by_part m) (usages p) ++ part_usages l (part q ps)) n
      go true true c d ea eb ec ed h =
          let x = changes_in m p ea in
          let y = uses_in l q eb in
          record { first = x.by; second = y.by; has_first = left x.by x.there; has_second = right y.by y.there; by_first = x.same; by_second = y.same; changed = x.changed; apart = λ e. let z : m ≡ l = sym x.at ∙ e ∙ y.at in omega arith }
      go a b true true ea eb ec ed h =
          let x = changes_in l q ed in
          let y = uses_in m p ec in
          record { first = x.by; second = y.by; has_first = right x.by x.there; has_second = left y.by y.there; by_first = x.same; by_second = y.same; changed = x.changed; apart = λ e. let z : l ≡ m = sym x.at ∙ e ∙ y.at in omega arith }
      go true false true false ea eb ec ed h = absurd (let z : false ≡ true = h in cc)
      go true false false d ea eb ec ed h = absurd (let z : false ≡ true = h in cc)
      go false b true false ea eb ec ed h = absurd (let z : false ≡ true = h in cc)
      go false b false d ea eb ec ed h = absurd (let z : false ≡ true = h in cc)
  with_clash m l p (part q ps) s (inr w) =
      more (λ x c. elim (Contains-append_cases (map (by_part m) (usages p)) (part_usages (suc l) ps) x c) [
        | inl a ↦ Contains-append_left (map (by_part m) (usages p)) (part_usages l (part q ps)) x a
        | inr b ↦ Contains-append_right (map (by_part m) (usages p)) (part_usages l (part q ps)) x (Contains-append_right (map (by_part l) (usages q)) (part_usages (suc l) ps) x b)
      ]) (with_clash m (suc l) p ps (omega arith) w)

  pub shares_clash : (m : ℕ) (ps : Procs) → Shared f g k ps → Clash (part_usages m ps) n
  shares_clash m no_parts s = absurd s
  shares_clash m (part p ps) (inl w) = with_clash m (suc m) p ps (omega arith) w
  shares_clash m (part p ps) (inr s) = more (λ x c. Contains-append_right (map (by_part m) (usages p)) (part_usages (suc m) ps) x c) (shares_clash (suc m) ps s)

and_true : (b : Bool) → (b && true) ≡ b
and_true true = refl
and_true false = refl

outputs_changed : (c : ℕ) (p : Proc) → list_any (changes_it (of.Output c)) (usages p) ≡ outputs p c
outputs_changed c = outputs_listed (changes_it (of.Output c)) c (λ d. and_true (eqb c d)) (λ d. refl) (λ v. refl) (λ v. refl)

outputs_used : (c : ℕ) (p : Proc) → list_any (uses_it (of.Output c)) (usages p) ≡ outputs p c
outputs_used c = outputs_listed (uses_it (of.Output c)) c (λ d. refl) (λ d. refl) (λ v. refl) (λ v. refl)

inputs_changed : (c : ℕ) (p : Proc) → list_any (changes_it (of.Input c)) (usages p) ≡ inputs p c
inputs_changed c = inputs_listed (changes_it (of.Input c)) c (λ d. refl) (λ d. and_true (eqb c d)) (λ v. refl) (λ v. refl)

inputs_used : (c : ℕ) (p : Proc) → list_any (uses_it (of.Input c)) (usages p) ≡ inputs p c
inputs_used c = inputs_listed (uses_it (of.Input c)) c (λ d. refl) (λ d. refl) (λ v. refl) (λ v. refl)

and_false : (b : Bool) → (b && false) ≡ false
and_false true = refl
and_false false = refl

variables_changed : (v : ℕ) (p : Proc) → list_any (changes_it (of.Variable v)) (usages p) ≡ changes p v
variables_changed v = changes_listed (changes_it (of.Variable v)) v (λ d. refl) (λ d. refl) (λ w. and_true (eqb v w)) (λ w. and_false (eqb v w))

variables_used : (v : ℕ) (p : Proc) → list_any (uses_it (of.Variable v)) (usages p) ≡ uses p v
variables_used v = uses_listed (uses_it (of.Variable v)) v (λ d. refl) (λ d. refl) (λ w. refl) (λ w. refl)

-- what is answered where this is the first clash
abbrev pub Judged : Option Used → Procs → Type 0
Judged None ps = SideBySide ps
Judged (Some (of.Output c)) ps = Offends ps (told.channel c)
Judged (Some (of.Input c)) ps = Offends ps (told.channel c)
Judged (Some (of.Variable v)) ps = Offends ps (told.variable v)

pub judged : (ps : Procs) (xs : List PartUsage) → IsPermutation (part_usages 0 ps) xs → (r : Option Used) → IsFirstClash xs r → Judged r ps
judged ps xs h = of_first
  where
    here : {n : Used} → Clash (part_usages 0 ps) n → Clash xs n
    here c = more (λ x k. Contains-permutation (part_usages 0 ps) xs x h k) c

    back : {n : Used} → Clash xs n → Clash (part_usages 0 ps) n
    back c = more (λ x k. Contains-permutation xs (part_usages 0 ps) x (IsPermutation-sym (part_usages 0 ps) xs h) k) c

    output : (c : ℕ) → Shared outputs outputs c ps → Clash xs (of.Output c)
    output c s = here (shares_clash (of.Output c) outputs outputs c (outputs_changed c) (outputs_used c) 0 ps s)

    input : (c : ℕ) → Shared inputs inputs c ps → Clash xs (of.Input c)
    input c s = here (shares_clash (of.Input c) inputs inputs c (inputs_changed c) (inputs_used c) 0 ps s)

    variable : (v : ℕ) → Shared changes uses v ps → Clash xs (of.Variable v)
    variable v s = here (shares_clash (of.Variable v) changes uses v (variables_changed v) (variables_used v) 0 ps s)

    of_first : (r : Option Used) → IsFirstClash xs r → Judged r ps
    of_first None f = (λ c s. f (of.Output c) (output c s), λ c s. f (of.Input c) (input c s), λ v s. f (of.Variable v) (variable v s))
    of_first (Some (of.Output c)) f = by_output (clash_shares (of.Output c) outputs outputs c (outputs_changed c) (outputs_used c) 0 ps (back f.0), λ j l s. f.1 (of.Output j) l (output j s))
    of_first (Some (of.Input c)) f = by_input (λ j s. f.1 (of.Output j) tt (output j s)) (clash_shares (of.Input c) inputs inputs c (inputs_changed c) (inputs_used c) 0 ps (back f.0), λ j l s. f.1 (of.Input j) l (input j s))
    of_first (Some (of.Variable v)) f = by_variable (λ j s. f.1 (of.Output j) tt (output j s)) (λ j s. f.1 (of.Input j) tt (input j s)) (clash_shares (of.Variable v) changes uses v (variables_changed v) (variables_used v) 0 ps (back f.0), λ j l s. f.1 (of.Variable j) l (variable j s))

-- what is told of the first clash
pub judges_fault : (ps : Procs) (n : Used) → Judged (Some n) ps → Judges (Err (fault_of n)) (SideBySide ps) (Offends ps)
judges_fault ps (of.Output c) j = j
judges_fault ps (of.Input c) j = j
judges_fault ps (of.Variable v) j = j

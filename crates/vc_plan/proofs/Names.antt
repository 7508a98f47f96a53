-- Where the names of a process fit, what it uses unlawfully is there: a channel of the plan, or a variable of its node.
use Rattle.std.proofs.Common.{◌≡◌, ℕ, ◌<◌, Bool, true, false, ◌&&◌, ◌||◌, List, length, Option, Some, None, refl, subst, sym, inl, inr, ◌⊎◌, eqb-true, arith}
use Rattle.std.proofs.lemmas.Bool.{ltb-true}
use Rattle.std.proofs.lemmas.Bool.Decides.{nat_tests}
use Rattle.std.proofs.lemmas.Option.{slice_get_within}
use Rattle.std.specs.Prelude.{nat_lt, slice_get}
use Rattle.vc_process.specs.declared.value_kind.ValueKind.{ValueKind}
use Rattle.vc_process.specs.declared.value_kind.ValueKind.TheVariants as of
use Rattle.vc_process.specs.Lawful.{outputs, outputs_all, outputs_branches, outputs_guards, inputs, inputs_all, inputs_branches, inputs_guards, With, Shared, Offence, channel, variable, Offends, by_output, by_input, by_variable, FirstOffence, in_seq, at_par, in_par, in_if, in_while, at_count, in_count, in_alt, FirstOfAll, this_part, later_part, FirstOfBranches, this_branch, later_branch, FirstOfGuards, this_guard, later_guard}
use Rattle.vc_process.specs.Limits.{exp_fits, given_fits, given_kind, holds_kind, is_kind}
use Rattle.vc_process.specs.ProcessLimits.{names_fit, parts_names_fit, branches_names_fit, guards_names_fit, test_fits}
use Rattle.vc_process.specs.Syntax.{Proc, SKIP, STOP, Assign, Output, Input, StopChan, SEQ, PAR, IF, WHILE, COUNT, ALT, Procs, no_parts, part, Branches, no_branches, branch, Guards, no_guards, guard}
use Rattle.vc_process.specs.Usage.{Set, nothing, just, ◌∪◌, changes, changes_all, changes_branches, changes_guards, uses}
use Rattle.vc_plan.proofs.Limits.{both}

-- each number of the set is less than m
abbrev Below : Set → ℕ → Type 0
Below a m = (k : ℕ) → a k ≡ true → k < m

no_number : (m : ℕ) → Below nothing m
no_number m k h = absurd (let z : false ≡ true = h in cc)

one_number : (v m : ℕ) → v < m → Below (just v) m
one_number v m l k h = subst (λ j. j < m) (sym (eqb-true k v h)) l

either : (a b : Bool) → (a || b) ≡ true → (a ≡ true) ⊎ (b ≡ true)
either true b h = inl refl
either false b h = inr h

index_itself : (v : ℕ) (b : Bool) → (just v v || b) ≡ true
index_itself v b = grind (arith, nat_tests)

joined : (a b : Set) (m : ℕ) → Below a m → Below b m → Below (a ∪ b) m
joined a b m x y k h = elim (either (a k) (b k) h) [ inl l ↦ x k l | inr r ↦ y k r ]

is_there : (kinds : List ValueKind) (v : ℕ) (k : ValueKind) (o : Option ValueKind) → slice_get kinds v ≡ o → is_kind o k ≡ true → v < length kinds
is_there kinds v k None e h = absurd (let z : false ≡ true = h in cc)
is_there kinds v k (Some j) e h = slice_get_within kinds v j e

held : (kinds : List ValueKind) (v : ℕ) (k : ValueKind) → holds_kind kinds v k ≡ true → v < length kinds
held kinds v k h = is_there kinds v k (slice_get kinds v) refl h

module _ (kinds : List ValueKind) (n : ℕ) where
  -- the channels that a process outputs on, those that it inputs on, and the variables that it changes
  record Bounded (a b c : Set) : Type 0 where
    outs : Below a n
    ins : Below b n
    vars : Below c (length kinds)

  none : Bounded nothing nothing nothing
  none = record { outs = no_number n; ins = no_number n; vars = no_number (length kinds) }

  joins : (a b c d e f : Set) → Bounded a b c → Bounded d e f → Bounded (a ∪ d) (b ∪ e) (c ∪ f)
  joins a b c d e f x y = record {
    outs = joined a d n x.outs y.outs;
    ins = joined b e n x.ins y.ins;
    vars = joined c f (length kinds) x.vars y.vars;
  }

  abbrev Bound : Proc → Type 0
  Bound p = Bounded (outputs p) (inputs p) (changes p)

  mutual
    bounded : (p : Proc) → names_fit p kinds n ≡ true → Bound p
    bounded (SKIP i) f = none
    bounded (STOP i) f = none
    bounded (Assign i v a) f =
        record { outs = no_number n; ins = no_number n; vars = one_number v (length kinds) (held kinds v (given_kind a) (both (holds_kind kinds v (given_kind a)) (given_fits a kinds) f).0) }
    bounded (Output i c a) f =
        record { outs = one_number c n (ltb-true c n (both (nat_lt c n) (given_fits a kinds) f).0); ins = no_number n; vars = no_number (length kinds) }
    bounded (Input i c v) f =
        let t = both (nat_lt c n) (nat_lt v (length kinds)) f in
        record { outs = no_number n; ins = one_number c n (ltb-true c n t.0); vars = one_number v (length kinds) (ltb-true v (length kinds) t.1) }
    bounded (StopChan i c) f = record { outs = no_number n; ins = one_number c n (ltb-true c n f); vars = no_number (length kinds) }
    bounded (SEQ i ps) f = all_bounded ps f
    bounded (PAR i ps) f = all_bounded ps f
    bounded (IF i bs) f = branches_bounded bs f
    bounded (WHILE i t p) f = bounded p (both (test_fits t kinds) (names_fit p kinds n) f).1
    bounded (COUNT i v a k p) f =
        let b = bounded p (both (holds_kind kinds v of.Int && exp_fits a kinds && exp_fits k kinds) (names_fit p kinds n) f).1 in
        record { outs = b.outs; ins = b.ins; vars = joined (just v) (changes p) (length kinds) (one_number v (length kinds) (index_there v a k p f)) b.vars }
      where
        index_there : (v : ℕ) (a k : _) (p : Proc) → (holds_kind kinds v of.Int && exp_fits a kinds && exp_fits k kinds && names_fit p kinds n) ≡ true → v < length kinds
        index_there v a k p f =
            let x = both (holds_kind kinds v of.Int && exp_fits a kinds && exp_fits k kinds) (names_fit p kinds n) f in
            let y = both (holds_kind kinds v of.Int && exp_fits a kinds) (exp_fits k kinds) x.0 in
            held kinds v of.Int (both (holds_kind kinds v of.Int) (exp_fits a kinds) y.0).0
    bounded (ALT i gs) f = guards_bounded gs f

    all_bounded : (ps : Procs) → parts_names_fit ps kinds n ≡ true → Bounded (outputs_all ps) (inputs_all ps) (changes_all ps)
    all_bounded no_parts f = none
    all_bounded (part p ps) f =
        let t = both (names_fit p kinds n) (parts_names_fit ps kinds n) f in
        joins (outputs p) (inputs p) (changes p) (outputs_all ps) (inputs_all ps) (changes_all ps) (bounded p t.0) (all_bounded ps t.1)

    branches_bounded : (bs : Branches) → branches_names_fit bs kinds n ≡ true → Bounded (outputs_branches bs) (inputs_branches bs) (changes_branches bs)
    branches_bounded no_branches f = none
    branches_bounded (branch t p bs) f =
        let x = both (test_fits t kinds && names_fit p kinds n) (branches_names_fit bs kinds n) f in
        let y = both (test_fits t kinds) (names_fit p kinds n) x.0 in
        joins (outputs p) (inputs p) (changes p) (outputs_branches bs) (inputs_branches bs) (changes_branches bs) (bounded p y.1) (branches_bounded bs x.1)

    guards_bounded : (gs : Guards) → guards_names_fit gs kinds n ≡ true → Bounded (outputs_guards gs) (inputs_guards gs) (changes_guards gs)
    guards_bounded no_guards f = none
    guards_bounded (guard t c v p gs) f =
        let x = both (test_fits t kinds && nat_lt c n && nat_lt v (length kinds) && names_fit p kinds n) (guards_names_fit gs kinds n) f in
        let y = both (test_fits t kinds && nat_lt c n && nat_lt v (length kinds)) (names_fit p kinds n) x.0 in
        let z = both (test_fits t kinds && nat_lt c n) (nat_lt v (length kinds)) y.0 in
        let w = both (test_fits t kinds) (nat_lt c n) z.0 in
        let b = bounded p y.1 in
        let r = guards_bounded gs x.1 in
        record {
          outs = joined (outputs p) (outputs_guards gs) n b.outs r.outs;
          ins = joined (just c ∪ inputs p) (inputs_guards gs) n (joined (just c) (inputs p) n (one_number c n (ltb-true c n w.1)) b.ins) r.ins;
          vars = joined (just v ∪ changes p) (changes_guards gs) (length kinds) (joined (just v) (changes p) (length kinds) (one_number v (length kinds) (ltb-true v (length kinds) z.1)) b.vars) r.vars;
        }

  -- what two parts share is in the first set of one of them
  abbrev AllBelow : (Proc → Set) → ℕ → Procs → Type 0
  AllBelow f m no_parts = Unit {0}
  AllBelow f m (part p ps) = Below (f p) m × AllBelow f m ps

  all_below : (f : Proc → Set) (m : ℕ) → ((p : Proc) → names_fit p kinds n ≡ true → Below (f p) m) → (ps : Procs) → parts_names_fit ps kinds n ≡ true → AllBelow f m ps
  all_below f m each no_parts h = tt
  all_below f m each (part p ps) h =
      let t = both (names_fit p kinds n) (parts_names_fit ps kinds n) h in
      (each p t.0, all_below f m each ps t.1)

  of_two : (f g : Proc → Set) (m k : ℕ) (p q : Proc) → Below (f p) m → Below (f q) m → ((f p k && g q k) || (g p k && f q k)) ≡ true → k < m
  of_two f g m k p q x y h = elim (either (f p k && g q k) (g p k && f q k) h) [
    | inl l ↦ x k (both (f p k) (g q k) l).0
    | inr r ↦ y k (both (g p k) (f q k) r).1
  ]

  with_others : (f g : Proc → Set) (m k : ℕ) (p : Proc) (ps : Procs) → Below (f p) m → AllBelow f m ps → With f g k p ps → k < m
  with_others f g m k p no_parts x y h = absurd h
  with_others f g m k p (part q ps) x y (inl h) = of_two f g m k p q x y.0 h
  with_others f g m k p (part q ps) x y (inr h) = with_others f g m k p ps x y.1 h

  shared : (f g : Proc → Set) (m k : ℕ) (ps : Procs) → AllBelow f m ps → Shared f g k ps → k < m
  shared f g m k no_parts x h = absurd h
  shared f g m k (part p ps) x (inl h) = with_others f g m k p ps x.0 x.1 h
  shared f g m k (part p ps) x (inr h) = shared f g m k ps x.1 h

  abbrev pub IsThere : Offence → Type 0
  IsThere (channel c) = c < n
  IsThere (variable v) = v < length kinds

  parts_offend : {ps : Procs} {x : Offence} → Offends ps x → parts_names_fit ps kinds n ≡ true → IsThere x
  parts_offend (by_output {ps = ps} {k = k} l) f = shared outputs outputs n k ps (all_below outputs n (λ p h. (bounded p h).outs) ps f) l.0
  parts_offend (by_input {ps = ps} {k = k} o l) f = shared inputs inputs n k ps (all_below inputs n (λ p h. (bounded p h).ins) ps f) l.0
  parts_offend (by_variable {ps = ps} {k = k} o i l) f = shared changes uses (length kinds) k ps (all_below changes (length kinds) (λ p h. (bounded p h).vars) ps f) l.0

  mutual
    pub offence_there : {p : Proc} {x : Offence} → FirstOffence p x → names_fit p kinds n ≡ true → IsThere x
    offence_there (in_seq h) f = all_there h f
    offence_there (at_par o) f = parts_offend o f
    offence_there (in_par s h) f = all_there h f
    offence_there (in_if h) f = branches_there h f
    offence_there (in_while {t = t} {p = p} h) f = offence_there h (both (test_fits t kinds) (names_fit p kinds n) f).1
    offence_there (at_count {v = v} {a = a} {n = k} {p = p} c) f = (bounded (COUNT 0 v a k p) f).vars v (index_itself v (changes p v))
    offence_there (in_count {v = v} {a = a} {n = k} {p = p} c h) f =
        offence_there h (both (holds_kind kinds v of.Int && exp_fits a kinds && exp_fits k kinds) (names_fit p kinds n) f).1
    offence_there (in_alt h) f = guards_there h f

    all_there : {ps : Procs} {x : Offence} → FirstOfAll ps x → parts_names_fit ps kinds n ≡ true → IsThere x
    all_there (this_part {p = p} {ps = ps} h) f = offence_there h (both (names_fit p kinds n) (parts_names_fit ps kinds n) f).0
    all_there (later_part {p = p} {ps = ps} l h) f = all_there h (both (names_fit p kinds n) (parts_names_fit ps kinds n) f).1

    branches_there : {bs : Branches} {x : Offence} → FirstOfBranches bs x → branches_names_fit bs kinds n ≡ true → IsThere x
    branches_there (this_branch {t = t} {p = p} {bs = bs} h) f =
        offence_there h (both (test_fits t kinds) (names_fit p kinds n) (both (test_fits t kinds && names_fit p kinds n) (branches_names_fit bs kinds n) f).0).1
    branches_there (later_branch {t = t} {p = p} {bs = bs} l h) f = branches_there h (both (test_fits t kinds && names_fit p kinds n) (branches_names_fit bs kinds n) f).1

    guards_there : {gs : Guards} {x : Offence} → FirstOfGuards gs x → guards_names_fit gs kinds n ≡ true → IsThere x
    guards_there (this_guard {t = t} {c = c} {v = v} {p = p} {gs = gs} h) f =
        let x = both (test_fits t kinds && nat_lt c n && nat_lt v (length kinds) && names_fit p kinds n) (guards_names_fit gs kinds n) f in
        offence_there h (both (test_fits t kinds && nat_lt c n && nat_lt v (length kinds)) (names_fit p kinds n) x.0).1
    guards_there (later_guard {t = t} {c = c} {v = v} {p = p} {gs = gs} l h) f =
        guards_there h (both (test_fits t kinds && nat_lt c n && nat_lt v (length kinds) && names_fit p kinds n) (guards_names_fit gs kinds n) f).1

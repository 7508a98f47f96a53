-- The variables that a process uses are there, and those that it changes.
use Rattle.std.proofs.Common.{◌≡◌, ℕ, suc, ◌<◌, Bool, true, false, ◌&&◌, ◌||◌, List, [], ◌∷◌, length, map, refl, ap, sym, subst, ◌∙◌, eqb-true}
use Rattle.std.proofs.lemmas.Bool.{and_parts, ltb-true}
use Rattle.std.specs.Prelude.{nat_lt}
use Rattle.vc_process.specs.declared.value_kind.ValueKind.{ValueKind}
use Rattle.vc_process.specs.declared.value_kind.ValueKind.TheVariants as of
use Rattle.vc_process.specs.declared.datum.Datum.{Datum}
use Rattle.vc_occam.specs.Opening.{empty_of}
use Rattle.vc_process.specs.Limits.{exp_fits, given_fits, given_kind, holds_kind}
use Rattle.vc_process.specs.ProcessLimits.{names_fit, parts_names_fit, branches_names_fit, guards_names_fit, test_fits}
use Rattle.vc_process.specs.Syntax.{Exp, Number, Variable, Binary, SizeOf, Test, Constant, Compare, Both, Either, Negate, Literal, Contents, Filled, Given, Whole, Bytes, Proc, Assign, Output, Input, SEQ, PAR, IF, WHILE, COUNT, ALT, Procs, no_parts, part, Branches, no_branches, branch, Guards, no_guards, guard}
use Rattle.vc_process.specs.Usage.{Set, ◌∪◌, just, in_exp, in_test, in_given, uses, uses_all, uses_branches, uses_guards}
use Rattle.vc_occam.specs.Private.Frames.{HasVariables}
use Rattle.vc_process.proofs.Held.{held_there}
use Rattle.vc_occam.proofs.Changes.{changed_used}

-- a process uses variables that are there alone
module _ (kinds : List ValueKind) where
  abbrev There : Set → Type 0
  There s = (v : ℕ) → s v ≡ true → v < length kinds

  cases_or : (a b : Set) → There a → There b → There (a ∪ b)
  cases_or a b f g v h = at (a v) (b v) (f v) (g v) h
    where
      at : (p q : Bool) → (p ≡ true → v < length kinds) → (q ≡ true → v < length kinds) → (p || q) ≡ true → v < length kinds
      at true q i j k = i refl
      at false q i j k = j k

  none_there : There (λ v. false)
  none_there v h = absurd (cc)

  just_there : (w : ℕ) → w < length kinds → There (just w)
  just_there w l v h = let e : v ≡ w = eqb-true v w h in subst (λ z. z < length kinds) (sym e) l

  exp_there : (a : Exp) → exp_fits a kinds ≡ true → There (in_exp a)
  exp_there (Number z) h = none_there
  exp_there (Variable v) h = just_there v (held_there kinds v of.Int h)
  exp_there (SizeOf v) h = just_there v (held_there kinds v of.Bytes h)
  exp_there (Binary op a b) h = let n = and_parts (exp_fits a kinds) (exp_fits b kinds) h in cases_or (in_exp a) (in_exp b) (exp_there a n.0) (exp_there b n.1)

  given_there : (a : Given) → given_fits a kinds ≡ true → There (in_given a)
  given_there (Whole a) h = exp_there a h
  given_there (Bytes (Literal xs)) h = none_there
  given_there (Bytes (Contents v)) h = just_there v (held_there kinds v of.Bytes h)
  given_there (Bytes (Filled b n)) h = none_there

  test_there : (a : Test) → test_fits a kinds ≡ true → There (in_test a)
  test_there (Constant b) h = none_there
  test_there (Compare rel a b) h = let n = and_parts (exp_fits a kinds) (exp_fits b kinds) h in cases_or (in_exp a) (in_exp b) (exp_there a n.0) (exp_there b n.1)
  test_there (Both a b) h = let n = and_parts (test_fits a kinds) (test_fits b kinds) h in cases_or (in_test a) (in_test b) (test_there a n.0) (test_there b n.1)
  test_there (Either a b) h = let n = and_parts (test_fits a kinds) (test_fits b kinds) h in cases_or (in_test a) (in_test b) (test_there a n.0) (test_there b n.1)
  test_there (Negate a) h = test_there a h

  mutual
    pub uses_there : (p : Proc) (n : ℕ) → names_fit p kinds n ≡ true → There (uses p)
    uses_there (Assign i v a) n h = let m = and_parts (holds_kind kinds v (given_kind a)) (given_fits a kinds) h in cases_or (just v) (in_given a) (just_there v (held_there kinds v (given_kind a) m.0)) (given_there a m.1)
    uses_there (Output i c a) n h = given_there a (and_parts (nat_lt c n) (given_fits a kinds) h).1
    uses_there (Input i c v) n h = just_there v (ltb-true v (length kinds) (and_parts (nat_lt c n) (nat_lt v (length kinds)) h).1)
    uses_there (SEQ i ps) n h = all_there ps n h
    uses_there (PAR i ps) n h = all_there ps n h
    uses_there (IF i bs) n h = branches_there bs n h
    uses_there (WHILE i t p) n h = let m = and_parts (test_fits t kinds) (names_fit p kinds n) h in cases_or (in_test t) (uses p) (test_there t m.0) (uses_there p n m.1)
    uses_there (COUNT i v a k p) n h =
        let m = and_parts (holds_kind kinds v of.Int && exp_fits a kinds && exp_fits k kinds) (names_fit p kinds n) h in
        let l = and_parts (holds_kind kinds v of.Int && exp_fits a kinds) (exp_fits k kinds) m.0 in
        let o = and_parts (holds_kind kinds v of.Int) (exp_fits a kinds) l.0 in
        cases_or (just v ∪ (in_exp a ∪ in_exp k)) (uses p) (cases_or (just v) (in_exp a ∪ in_exp k) (just_there v (held_there kinds v of.Int o.0)) (cases_or (in_exp a) (in_exp k) (exp_there a o.1) (exp_there k l.1))) (uses_there p n m.1)
    uses_there (ALT i gs) n h = guards_there gs n h
    uses_there p n h = none_there

    all_there : (ps : Procs) (n : ℕ) → parts_names_fit ps kinds n ≡ true → There (uses_all ps)
    all_there no_parts n h = none_there
    all_there (part p ps) n h = let m = and_parts (names_fit p kinds n) (parts_names_fit ps kinds n) h in cases_or (uses p) (uses_all ps) (uses_there p n m.0) (all_there ps n m.1)

    branches_there : (bs : Branches) (n : ℕ) → branches_names_fit bs kinds n ≡ true → There (uses_branches bs)
    branches_there no_branches n h = none_there
    branches_there (branch t p bs) n h =
        let m = and_parts (test_fits t kinds && names_fit p kinds n) (branches_names_fit bs kinds n) h in
        let l = and_parts (test_fits t kinds) (names_fit p kinds n) m.0 in
        cases_or (in_test t ∪ uses p) (uses_branches bs) (cases_or (in_test t) (uses p) (test_there t l.0) (uses_there p n l.1)) (branches_there bs n m.1)

    guards_there : (gs : Guards) (n : ℕ) → guards_names_fit gs kinds n ≡ true → There (uses_guards gs)
    guards_there no_guards n h = none_there
    guards_there (guard t c v p gs) n h =
        let m = and_parts (test_fits t kinds && nat_lt c n && nat_lt v (length kinds) && names_fit p kinds n) (guards_names_fit gs kinds n) h in
        let l = and_parts (test_fits t kinds && nat_lt c n && nat_lt v (length kinds)) (names_fit p kinds n) m.0 in
        let o = and_parts (test_fits t kinds && nat_lt c n) (nat_lt v (length kinds)) l.0 in
        cases_or (just v ∪ in_test t ∪ uses p) (uses_guards gs)
        (cases_or (just v ∪ in_test t) (uses p) (cases_or (just v) (in_test t) (just_there v (ltb-true v (length kinds) o.1)) (test_there t (and_parts (test_fits t kinds) (nat_lt c n) o.0).0)) (uses_there p n l.1))
        (guards_there gs n m.1)

-- so are those that it changes
pub fits_variables : (p : Proc) (kinds : List ValueKind) (n : ℕ) → names_fit p kinds n ≡ true → HasVariables p (length kinds)
fits_variables p kinds n h v k = uses_there kinds p n h v (changed_used p v k)

map_length : (kinds : List ValueKind) → length (map empty_of kinds) ≡ length kinds
map_length [] = refl
map_length (k ∷ kinds) = ap suc (map_length kinds)

pub kinds_length : (kinds : List ValueKind) (vars : List Datum) → vars ≡ map empty_of kinds → length vars ≡ length kinds
kinds_length kinds vars h = ap length h ∙ map_length kinds

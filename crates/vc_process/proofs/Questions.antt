-- What the questions come to.
use Rattle.std.proofs.Common.{◌≡◌, ℕ, Bool, true, false, ◌&&◌, ◌||◌, not, refl, ap, ◌∙◌, List}
use Rattle.std.specs.Prelude.{eqb, length, nat_lt}
use Rattle.vc_process.specs.declared.asked.Asked.TheVariants as asked
use Rattle.vc_process.specs.declared.value_kind.ValueKind.{ValueKind}
use Rattle.vc_process.specs.declared.value_kind.ValueKind.TheVariants as of
use Rattle.vc_process.specs.Private.Questions.{asking, everywhere, in_parts, in_branches, in_guards}
use Rattle.vc_process.specs.Limits.{exp_fits, exp_within, holds_kind}
use Rattle.vc_process.specs.ProcessLimits.{exps_within, parts_exps_within, branches_exps_within, guards_exps_within, in_length, parts_in_length, branches_in_length, guards_in_length, names_fit, parts_names_fit, branches_names_fit, guards_names_fit, test_fits, test_within}
use Rattle.vc_process.specs.Syntax.{Proc, SKIP, STOP, Assign, Output, Input, StopChan, SEQ, PAR, IF, WHILE, COUNT, ALT, Procs, no_parts, part, Branches, no_branches, branch, Guards, no_guards, guard}
use Rattle.vc_process.specs.Usage.{changes, changes_all, changes_branches, changes_guards}

both : (a b c d : Bool) → a ≡ c → b ≡ d → (a && b) ≡ (c && d)
both a b c d h k = ap (λ x. x && b) h ∙ ap (λ x. c && x) k

and_true : (a : Bool) → (a && true) ≡ a
and_true true = refl
and_true false = refl

neither : (a b x y : Bool) → x ≡ not a → y ≡ not b → (x && y) ≡ not (a || b)
neither true b x y h k = ap (λ z. z && y) h
neither false b x y h k = ap (λ z. z && y) h ∙ k

module _ (kinds : List ValueKind) where
  module _ (n : ℕ) where
    mutual
      pub within_is : (p : Proc) → everywhere (asking (asked.Expressions n) kinds) p ≡ exps_within p n
      within_is (SKIP i) = refl
      within_is (STOP i) = refl
      within_is (Assign i v a) = refl
      within_is (Output i c a) = refl
      within_is (Input i c v) = refl
      within_is (StopChan i c) = refl
      within_is (SEQ i ps) = parts_within_is ps
      within_is (PAR i ps) = parts_within_is ps
      within_is (IF i bs) = branches_within_is bs
      within_is (WHILE i t p) = ap (λ x. test_within t n && x) (within_is p)
      within_is (COUNT i v a k p) = ap (λ x. exp_within a n && exp_within k n && x) (within_is p)
      within_is (ALT i gs) = guards_within_is gs

      parts_within_is : (ps : Procs) → in_parts (asking (asked.Expressions n) kinds) ps ≡ parts_exps_within ps n
      parts_within_is no_parts = refl
      parts_within_is (part p ps) = both _ _ _ _ (within_is p) (parts_within_is ps)

      branches_within_is : (bs : Branches) → in_branches (asking (asked.Expressions n) kinds) bs ≡ branches_exps_within bs n
      branches_within_is no_branches = refl
      branches_within_is (branch t p bs) = both _ _ _ _ (ap (λ x. test_within t n && x) (within_is p)) (branches_within_is bs)

      guards_within_is : (gs : Guards) → in_guards (asking (asked.Expressions n) kinds) gs ≡ guards_exps_within gs n
      guards_within_is no_guards = refl
      guards_within_is (guard t c v p gs) = both _ _ _ _ (both _ _ _ _ (and_true (test_within t n && true) ∙ and_true (test_within t n)) (within_is p)) (guards_within_is gs)

    mutual
      pub names_is : (p : Proc) → everywhere (asking (asked.Names n) kinds) p ≡ names_fit p kinds n
      names_is (SKIP i) = refl
      names_is (STOP i) = refl
      names_is (Assign i v a) = refl
      names_is (Output i c a) = refl
      names_is (Input i c v) = refl
      names_is (StopChan i c) = refl
      names_is (SEQ i ps) = parts_names_is ps
      names_is (PAR i ps) = parts_names_is ps
      names_is (IF i bs) = branches_names_is bs
      names_is (WHILE i t p) = ap (λ x. test_fits t kinds && x) (names_is p)
      names_is (COUNT i v a k p) = ap (λ x. holds_kind kinds v of.Int && exp_fits a kinds && exp_fits k kinds && x) (names_is p)
      names_is (ALT i gs) = guards_names_is gs

      parts_names_is : (ps : Procs) → in_parts (asking (asked.Names n) kinds) ps ≡ parts_names_fit ps kinds n
      parts_names_is no_parts = refl
      parts_names_is (part p ps) = both _ _ _ _ (names_is p) (parts_names_is ps)

      branches_names_is : (bs : Branches) → in_branches (asking (asked.Names n) kinds) bs ≡ branches_names_fit bs kinds n
      branches_names_is no_branches = refl
      branches_names_is (branch t p bs) = both _ _ _ _ (ap (λ x. test_fits t kinds && x) (names_is p)) (branches_names_is bs)

      guards_names_is : (gs : Guards) → in_guards (asking (asked.Names n) kinds) gs ≡ guards_names_fit gs kinds n
      guards_names_is no_guards = refl
      guards_names_is (guard t c v p gs) = both _ _ _ _ (ap (λ x. test_fits t kinds && nat_lt c n && nat_lt v (length kinds) && x) (names_is p)) (guards_names_is gs)

    mutual
      pub keeps_is : (p : Proc) → everywhere (asking (asked.Keeps n) kinds) p ≡ not (changes p n)
      keeps_is (SKIP i) = refl
      keeps_is (STOP i) = refl
      keeps_is (Assign i v a) = refl
      keeps_is (Output i c a) = refl
      keeps_is (Input i c v) = refl
      keeps_is (StopChan i c) = refl
      keeps_is (SEQ i ps) = parts_keep_is ps
      keeps_is (PAR i ps) = parts_keep_is ps
      keeps_is (IF i bs) = branches_keep_is bs
      keeps_is (WHILE i t p) = keeps_is p
      keeps_is (COUNT i v a k p) = neither (eqb n v) (changes p n) _ _ refl (keeps_is p)
      keeps_is (ALT i gs) = guards_keep_is gs

      parts_keep_is : (ps : Procs) → in_parts (asking (asked.Keeps n) kinds) ps ≡ not (changes_all ps n)
      parts_keep_is no_parts = refl
      parts_keep_is (part p ps) = neither (changes p n) (changes_all ps n) _ _ (keeps_is p) (parts_keep_is ps)

      branches_keep_is : (bs : Branches) → in_branches (asking (asked.Keeps n) kinds) bs ≡ not (changes_branches bs n)
      branches_keep_is no_branches = refl
      branches_keep_is (branch t p bs) = neither (changes p n) (changes_branches bs n) _ _ (keeps_is p) (branches_keep_is bs)

      guards_keep_is : (gs : Guards) → in_guards (asking (asked.Keeps n) kinds) gs ≡ not (changes_guards gs n)
      guards_keep_is no_guards = refl
      guards_keep_is (guard t c v p gs) = neither (eqb n v || changes p n) (changes_guards gs n) _ _ (neither (eqb n v) (changes p n) _ _ refl (keeps_is p)) (guards_keep_is gs)

  mutual
    pub length_is : (p : Proc) → everywhere (asking asked.Length kinds) p ≡ in_length p
    length_is (SKIP i) = refl
    length_is (STOP i) = refl
    length_is (Assign i v a) = refl
    length_is (Output i c a) = refl
    length_is (Input i c v) = refl
    length_is (StopChan i c) = refl
    length_is (SEQ i ps) = parts_length_is ps
    length_is (PAR i ps) = parts_length_is ps
    length_is (IF i bs) = branches_length_is bs
    length_is (WHILE i t p) = length_is p
    length_is (COUNT i v a k p) = length_is p
    length_is (ALT i gs) = guards_length_is gs

    parts_length_is : (ps : Procs) → in_parts (asking asked.Length kinds) ps ≡ parts_in_length ps
    parts_length_is no_parts = refl
    parts_length_is (part p ps) = both _ _ _ _ (length_is p) (parts_length_is ps)

    branches_length_is : (bs : Branches) → in_branches (asking asked.Length kinds) bs ≡ branches_in_length bs
    branches_length_is no_branches = refl
    branches_length_is (branch t p bs) = both _ _ _ _ (length_is p) (branches_length_is bs)

    guards_length_is : (gs : Guards) → in_guards (asking asked.Length kinds) gs ≡ guards_in_length gs
    guards_length_is no_guards = refl
    guards_length_is (guard t c v p gs) = both _ _ _ _ (length_is p) (guards_length_is gs)

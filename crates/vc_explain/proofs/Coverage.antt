-- There is a place where a process has what is wanted exactly where the sets of its channels and variables say so.
use Rattle.std.proofs.Common.{◌≡◌, ℕ, suc, Bool, true, false, ◌||◌, if◌then◌else◌, refl, ap, sym, ◌∙◌, List, [], ◌∷◌, ◌++◌, Option, Some, None, slice_get}
use Rattle.std.specs.List.{list_any}
use Rattle.std.specs.Option.{is_some, option_or}
use Rattle.vc_process.specs.Limits.{given_kind}
use Rattle.vc_process.specs.Syntax.{Exp, Test, Given, Proc, SKIP, STOP, Assign, Output, Input, StopChan, SEQ, PAR, IF, WHILE, COUNT, ALT, Procs, no_parts, part, Branches, no_branches, branch, Guards, no_guards, guard}
use Rattle.vc_process.specs.Usage.{in_exp, in_given, in_test}
use Rattle.vc_process.specs.declared.value_kind.ValueKind.{ValueKind}
use Rattle.vc_reader.specs.declared.path.Step.{Step}
use Rattle.vc_reader.specs.declared.path.Step.TheVariants.{Field, Index}
use Rattle.vc_reader.specs.declared.word.Word.{Word}
use Rattle.vc_reader.specs.declared.word.Word.TheVariants as word
use Rattle.vc_explain.specs.declared.wanted.Wanted.{Wanted}
use Rattle.vc_explain.specs.Uses.{Use, branch_uses, change, expression, first_of, guard_uses, input, items_at, output, own_place, place, place_if, wants, within, within_branches, within_guards, within_parts}
use Rattle.vc_explain.proofs.Sought.{first_append}

pub some_or : {B : Type 0} (x y : Option B) → is_some (option_or x y) ≡ (is_some x || is_some y)
some_or None y = refl
some_or (Some b) y = refl

pub some_append : {A B : Type 0} (f : A → Option B) (xs ys : List A) → is_some (first_of f (xs ++ ys)) ≡ (is_some (first_of f xs) || is_some (first_of f ys))
some_append f xs ys = ap is_some (first_append f xs ys) ∙ some_or (first_of f xs) (first_of f ys)

some_if : {B : Type 0} (b : Bool) (x : B) → is_some (if b then Some x else None) ≡ b
some_if true x = refl
some_if false x = refl

alone : {B : Type 0} (x : Option B) → is_some (option_or x None) ≡ is_some x
alone None = refl
alone (Some b) = refl

exchange : (a b c d : Bool) → ((a || b) || (c || d)) ≡ ((a || c) || (b || d))
exchange true b c d = refl
exchange false true true d = refl
exchange false true false d = refl
exchange false false c d = refl

pub both_or : {a b c d : Bool} → a ≡ b → c ≡ d → (a || c) ≡ (b || d)
both_or {b = b} {c = c} e f = ap (λ x. x || c) e ∙ ap (λ y. b || y) f

pub some_items : (w : Wanted) (list : List Step) (k : ℕ) (us : List Use) → is_some (first_of (place_if w) (items_at list k us)) ≡ list_any (wants w) us
some_items w list k [] = refl
some_items w list k (u ∷ us) =
    some_or (if wants w u then Some (list ++ Index k ∷ []) else None) (first_of (place_if w) (items_at list (suc k) us)) ∙ both_or (some_if (wants w u) (list ++ Index k ∷ [])) (some_items w list (suc k) us)

-- sets that hold of a process, of parts, of branches and of guards what is wanted of their uses
pub record Covers (w : Wanted) (kinds : List ValueKind) (one : Proc → Bool) (parts : Procs → Bool) (branches : Branches → Bool) (guards : Guards → Bool) : Type 0 where
  pub skip : (i : ℕ) → one (SKIP i) ≡ false
  pub stop : (i : ℕ) → one (STOP i) ≡ false
  pub assign : (i v : ℕ) (a : Given) → one (Assign i v a) ≡ list_any (wants w) (change v ∷ expression (in_given a) ∷ [])
  pub outputs : (i c : ℕ) (a : Given) → one (Output i c a) ≡ list_any (wants w) (output c (given_kind a) ∷ expression (in_given a) ∷ [])
  pub inputs : (i c v : ℕ) → one (Input i c v) ≡ list_any (wants w) (input c (slice_get kinds v) ∷ change v ∷ [])
  pub stops : (i c : ℕ) → one (StopChan i c) ≡ wants w (input c None)
  pub seq : (i : ℕ) (ps : Procs) → one (SEQ i ps) ≡ parts ps
  pub par : (i : ℕ) (ps : Procs) → one (PAR i ps) ≡ parts ps
  pub choice : (i : ℕ) (bs : Branches) → one (IF i bs) ≡ branches bs
  pub loop : (i : ℕ) (t : Test) (p : Proc) → one (WHILE i t p) ≡ (list_any (wants w) (expression (in_test t) ∷ []) || one p)
  pub count : (i v : ℕ) (a n : Exp) (p : Proc) → one (COUNT i v a n p) ≡ (list_any (wants w) (change v ∷ expression (in_exp a) ∷ expression (in_exp n) ∷ []) || one p)
  pub alt : (i : ℕ) (gs : Guards) → one (ALT i gs) ≡ guards gs
  pub no_part : parts no_parts ≡ false
  pub a_part : (p : Proc) (ps : Procs) → parts (part p ps) ≡ (one p || parts ps)
  pub no_branch : branches no_branches ≡ false
  pub a_branch : (t : Test) (p : Proc) (bs : Branches) → branches (branch t p bs) ≡ ((list_any (wants w) (expression (in_test t) ∷ []) || one p) || branches bs)
  pub no_guard : guards no_guards ≡ false
  pub a_guard : (t : Test) (c v : ℕ) (p : Proc) (gs : Guards) → guards (guard t c v p gs) ≡ ((list_any (wants w) (expression (in_test t) ∷ input c (slice_get kinds v) ∷ change v ∷ []) || one p) || guards gs)

module _ (w : Wanted) (kinds : List ValueKind) (one : Proc → Bool) (parts : Procs → Bool) (branches : Branches → Bool) (guards : Guards → Bool) (cover : Covers w kinds one parts branches guards) where
  mutual
    pub covered : (p : Proc) (at : List Step) → is_some (place w kinds p at) ≡ one p
    covered (SKIP i) at = sym (cover.skip i)
    covered (STOP i) at = sym (cover.stop i)
    covered (Assign i v a) at =
        let us = change v ∷ expression (in_given a) ∷ [] in
        alone (first_of (place_if w) (items_at (at ++ Field word.Set ∷ []) 0 us)) ∙ some_items w (at ++ Field word.Set ∷ []) 0 us ∙ sym (cover.assign i v a)
    covered (Output i c a) at =
        let us = output c (given_kind a) ∷ expression (in_given a) ∷ [] in
        alone (first_of (place_if w) (items_at (at ++ Field word.Out ∷ []) 0 us)) ∙ some_items w (at ++ Field word.Out ∷ []) 0 us ∙ sym (cover.outputs i c a)
    covered (Input i c v) at =
        let us = input c (slice_get kinds v) ∷ change v ∷ [] in
        alone (first_of (place_if w) (items_at (at ++ Field word.In ∷ []) 0 us)) ∙ some_items w (at ++ Field word.In ∷ []) 0 us ∙ sym (cover.inputs i c v)
    covered (StopChan i c) at =
        let here = if wants w (input c None) then Some (at ++ Field word.Stopch ∷ []) else None in
        alone (option_or here None) ∙ alone here ∙ some_if (wants w (input c None)) (at ++ Field word.Stopch ∷ []) ∙ sym (cover.stops i c)
    covered (SEQ i ps) at = covered_parts word.Seq at 0 ps ∙ sym (cover.seq i ps)
    covered (PAR i ps) at = covered_parts word.Par at 0 ps ∙ sym (cover.par i ps)
    covered (IF i bs) at =
        some_or (first_of (place_if w) (branch_uses at 0 bs)) (first_of (own_place w kinds) (within_branches at 0 bs)) ∙ covered_branches at 0 bs ∙ sym (cover.choice i bs)
    covered (WHILE i t p) at =
        let us = expression (in_test t) ∷ [] in
        let inner = at ++ Field word.While ∷ Index 1 ∷ [] in
        some_or (first_of (place_if w) (items_at (at ++ Field word.While ∷ []) 0 us)) (first_of (own_place w kinds) (within p inner)) ∙ both_or (some_items w (at ++ Field word.While ∷ []) 0 us) (covered p inner) ∙ sym (cover.loop i t p)
    covered (COUNT i v a n p) at =
        let us = change v ∷ expression (in_exp a) ∷ expression (in_exp n) ∷ [] in
        let inner = at ++ Field word.For ∷ Index 3 ∷ [] in
        some_or (first_of (place_if w) (items_at (at ++ Field word.For ∷ []) 0 us)) (first_of (own_place w kinds) (within p inner)) ∙ both_or (some_items w (at ++ Field word.For ∷ []) 0 us) (covered p inner) ∙ sym (cover.count i v a n p)
    covered (ALT i gs) at =
        some_or (first_of (place_if w) (guard_uses kinds at 0 gs)) (first_of (own_place w kinds) (within_guards at 0 gs)) ∙ covered_guards at 0 gs ∙ sym (cover.alt i gs)

    pub covered_parts : (l : Word) (at : List Step) (k : ℕ) (ps : Procs) → is_some (first_of (own_place w kinds) (within_parts l at k ps)) ≡ parts ps
    covered_parts l at k no_parts = sym cover.no_part
    covered_parts l at k (part p ps) =
        let inner = at ++ Field l ∷ Index k ∷ [] in
        some_append (own_place w kinds) (within p inner) (within_parts l at (suc k) ps) ∙ both_or (covered p inner) (covered_parts l at (suc k) ps) ∙ sym (cover.a_part p ps)

    covered_branches : (at : List Step) (k : ℕ) (bs : Branches) → (is_some (first_of (place_if w) (branch_uses at k bs)) || is_some (first_of (own_place w kinds) (within_branches at k bs))) ≡ branches bs
    covered_branches at k no_branches = sym cover.no_branch
    covered_branches at k (branch t p bs) =
        let us = expression (in_test t) ∷ [] in
        let list = at ++ Field word.If ∷ Index k ∷ [] in
        let inner = at ++ Field word.If ∷ Index k ∷ Index 1 ∷ [] in
        let conditions = is_some (first_of (place_if w) (branch_uses at (suc k) bs)) in
        let bodies = is_some (first_of (own_place w kinds) (within_branches at (suc k) bs)) in
        both_or (some_append (place_if w) (items_at list 0 us) (branch_uses at (suc k) bs)) (some_append (own_place w kinds) (within p inner) (within_branches at (suc k) bs)) ∙ exchange (is_some (first_of (place_if w) (items_at list 0 us))) conditions (is_some (place w kinds p inner)) bodies ∙
        both_or (both_or (some_items w list 0 us) (covered p inner)) (covered_branches at (suc k) bs) ∙ sym (cover.a_branch t p bs)

    covered_guards : (at : List Step) (k : ℕ) (gs : Guards) → (is_some (first_of (place_if w) (guard_uses kinds at k gs)) || is_some (first_of (own_place w kinds) (within_guards at k gs))) ≡ guards gs
    covered_guards at k no_guards = sym cover.no_guard
    covered_guards at k (guard t c v p gs) =
        let us = expression (in_test t) ∷ input c (slice_get kinds v) ∷ change v ∷ [] in
        let list = at ++ Field word.Alt ∷ Index k ∷ [] in
        let inner = at ++ Field word.Alt ∷ Index k ∷ Index 3 ∷ [] in
        let own_ones = is_some (first_of (place_if w) (guard_uses kinds at (suc k) gs)) in
        let bodies = is_some (first_of (own_place w kinds) (within_guards at (suc k) gs)) in
        both_or (some_append (place_if w) (items_at list 0 us) (guard_uses kinds at (suc k) gs)) (some_append (own_place w kinds) (within p inner) (within_guards at (suc k) gs)) ∙ exchange (is_some (first_of (place_if w) (items_at list 0 us))) own_ones (is_some (place w kinds p inner)) bodies ∙
        both_or (both_or (some_items w list 0 us) (covered p inner)) (covered_guards at (suc k) gs) ∙ sym (cover.a_guard t c v p gs)

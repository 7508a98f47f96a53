-- What the list of a process's uses has is what the process outputs on, inputs on, changes and uses.
use Rattle.std.proofs.Common.{◌≡◌, ℕ, Bool, true, false, ◌||◌, refl, ◌∙◌, ap, eqb, List, ◌∷◌, ◌++◌}
use Rattle.std.specs.List.{list_any}
use Rattle.std.proofs.lemmas.List.Folds.{list_any-append}
use Rattle.vc_process.specs.declared.used.Used.TheVariants as of
use Rattle.vc_process.specs.declared.used.Usage.{Usage}
use Rattle.vc_process.specs.Lawful.{outputs, outputs_all, outputs_branches, outputs_guards, inputs, inputs_all, inputs_branches, inputs_guards}
use Rattle.vc_process.specs.Syntax.{Exp, Number, Variable, Binary, SizeOf, Test, Constant, Compare, Both, Either, Negate, Literal, Contents, Filled, Given, Whole, Bytes, Proc, SKIP, STOP, Assign, Output, Input, StopChan, SEQ, PAR, IF, WHILE, COUNT, ALT, Procs, no_parts, part, Branches, no_branches, branch, Guards, no_guards, guard}
use Rattle.vc_process.specs.Usage.{in_exp, in_test, in_given, changes, changes_all, changes_branches, changes_guards, uses, uses_all, uses_branches, uses_guards}
use Rattle.vc_process.specs.Private.Usages.{changing, reading, exp_usages, given_usages, input_usages, test_usages, usages, usages_of_parts, usages_of_branches, usages_of_guards}

joins : (t : Usage → Bool) (xs ys : List Usage) {a b : Bool} → list_any t xs ≡ a → list_any t ys ≡ b → list_any t (xs ++ ys) ≡ (a || b)
joins t xs ys {a = a} e f = list_any-append t xs ys ∙ ap (λ x. x || list_any t ys) e ∙ ap (λ y. a || y) f

or_false : (a : Bool) → (a || false) ≡ a
or_false true = refl
or_false false = refl

adds : {a b c d : Bool} → a ≡ b → c ≡ d → (a || c) ≡ (b || d)
adds {b = b} {c = c} e f = ap (λ x. x || c) e ∙ ap (λ y. b || y) f

-- a test that passes no variable that only stands in an expression
module _ (t : Usage → Bool) (none : (v : ℕ) → t (reading v) ≡ false) where
  pub exp_none : (a : Exp) → list_any t (exp_usages a) ≡ false
  exp_none (Number z) = refl
  exp_none (Variable v) = adds (none v) refl
  exp_none (Binary op a b) = joins t (exp_usages a) (exp_usages b) (exp_none a) (exp_none b)
  exp_none (SizeOf v) = adds (none v) refl

  pub test_none : (a : Test) → list_any t (test_usages a) ≡ false
  test_none (Constant b) = refl
  test_none (Compare rel a b) = joins t (exp_usages a) (exp_usages b) (exp_none a) (exp_none b)
  test_none (Both a b) = joins t (test_usages a) (test_usages b) (test_none a) (test_none b)
  test_none (Either a b) = joins t (test_usages a) (test_usages b) (test_none a) (test_none b)
  test_none (Negate a) = test_none a

  pub given_none : (a : Given) → list_any t (given_usages a) ≡ false
  given_none (Whole a) = exp_none a
  given_none (Bytes (Literal xs)) = refl
  given_none (Bytes (Contents v)) = adds (none v) refl
  given_none (Bytes (Filled b n)) = refl

-- a test of outputs on this channel
module _ (t : Usage → Bool) (k : ℕ) (out : (c : ℕ) → t (changing (of.Output c)) ≡ eqb k c) (input : (c : ℕ) → t (changing (of.Input c)) ≡ false) (var : (v : ℕ) → t (changing (of.Variable v)) ≡ false) (read : (v : ℕ) → t (reading v) ≡ false) where
  mutual
    pub outputs_listed : (p : Proc) → list_any t (usages p) ≡ outputs p k
    outputs_listed (SKIP i) = refl
    outputs_listed (STOP i) = refl
    outputs_listed (Assign i v a) = adds (var v) (given_none t read a)
    outputs_listed (Output i c a) = adds (out c) (given_none t read a) ∙ or_false (eqb k c)
    outputs_listed (Input i c v) = adds (input c) (adds (var v) refl)
    outputs_listed (StopChan i c) = adds (input c) refl
    outputs_listed (SEQ i ps) = outputs_of_parts ps
    outputs_listed (PAR i ps) = outputs_of_parts ps
    outputs_listed (IF i bs) = outputs_of_branches bs
    outputs_listed (WHILE i a p) = joins t (test_usages a) (usages p) (test_none t read a) (outputs_listed p)
    outputs_listed (COUNT i v a n p) = joins t (changing (of.Variable v) ∷ exp_usages a ++ exp_usages n) (usages p) (adds (var v) (joins t (exp_usages a) (exp_usages n) (exp_none t read a) (exp_none t read n))) (outputs_listed p)
    outputs_listed (ALT i gs) = outputs_of_guards gs

    outputs_of_parts : (ps : Procs) → list_any t (usages_of_parts ps) ≡ outputs_all ps k
    outputs_of_parts no_parts = refl
    outputs_of_parts (part p ps) = joins t (usages p) (usages_of_parts ps) (outputs_listed p) (outputs_of_parts ps)

    outputs_of_branches : (bs : Branches) → list_any t (usages_of_branches bs) ≡ outputs_branches bs k
    outputs_of_branches no_branches = refl
    outputs_of_branches (branch a p bs) = joins t (test_usages a ++ usages p) (usages_of_branches bs) (joins t (test_usages a) (usages p) (test_none t read a) (outputs_listed p)) (outputs_of_branches bs)

    outputs_of_guards : (gs : Guards) → list_any t (usages_of_guards gs) ≡ outputs_guards gs k
    outputs_of_guards no_guards = refl
    outputs_of_guards (guard a c v p gs) =
        joins t ((input_usages c v ++ test_usages a) ++ usages p) (usages_of_guards gs)
        (joins t (input_usages c v ++ test_usages a) (usages p) (joins t (input_usages c v) (test_usages a) (adds (input c) (adds (var v) refl)) (test_none t read a)) (outputs_listed p))
        (outputs_of_guards gs)

-- a test of inputs, guards and stops on this channel
module _ (t : Usage → Bool) (k : ℕ) (out : (c : ℕ) → t (changing (of.Output c)) ≡ false) (input : (c : ℕ) → t (changing (of.Input c)) ≡ eqb k c) (var : (v : ℕ) → t (changing (of.Variable v)) ≡ false) (read : (v : ℕ) → t (reading v) ≡ false) where
  by_input : (c v : ℕ) → list_any t (input_usages c v) ≡ eqb k c
  by_input c v = adds (input c) (adds (var v) refl) ∙ or_false (eqb k c)

  mutual
    pub inputs_listed : (p : Proc) → list_any t (usages p) ≡ inputs p k
    inputs_listed (SKIP i) = refl
    inputs_listed (STOP i) = refl
    inputs_listed (Assign i v a) = adds (var v) (given_none t read a)
    inputs_listed (Output i c a) = adds (out c) (given_none t read a)
    inputs_listed (Input i c v) = by_input c v
    inputs_listed (StopChan i c) = adds (input c) refl ∙ or_false (eqb k c)
    inputs_listed (SEQ i ps) = inputs_of_parts ps
    inputs_listed (PAR i ps) = inputs_of_parts ps
    inputs_listed (IF i bs) = inputs_of_branches bs
    inputs_listed (WHILE i a p) = joins t (test_usages a) (usages p) (test_none t read a) (inputs_listed p)
    inputs_listed (COUNT i v a n p) = joins t (changing (of.Variable v) ∷ exp_usages a ++ exp_usages n) (usages p) (adds (var v) (joins t (exp_usages a) (exp_usages n) (exp_none t read a) (exp_none t read n))) (inputs_listed p)
    inputs_listed (ALT i gs) = inputs_of_guards gs

    inputs_of_parts : (ps : Procs) → list_any t (usages_of_parts ps) ≡ inputs_all ps k
    inputs_of_parts no_parts = refl
    inputs_of_parts (part p ps) = joins t (usages p) (usages_of_parts ps) (inputs_listed p) (inputs_of_parts ps)

    inputs_of_branches : (bs : Branches) → list_any t (usages_of_branches bs) ≡ inputs_branches bs k
    inputs_of_branches no_branches = refl
    inputs_of_branches (branch a p bs) = joins t (test_usages a ++ usages p) (usages_of_branches bs) (joins t (test_usages a) (usages p) (test_none t read a) (inputs_listed p)) (inputs_of_branches bs)

    inputs_of_guards : (gs : Guards) → list_any t (usages_of_guards gs) ≡ inputs_guards gs k
    inputs_of_guards no_guards = refl
    inputs_of_guards (guard a c v p gs) =
        joins t ((input_usages c v ++ test_usages a) ++ usages p) (usages_of_guards gs)
        (joins t (input_usages c v ++ test_usages a) (usages p) (joins t (input_usages c v) (test_usages a) (by_input c v) (test_none t read a) ∙ or_false (eqb k c)) (inputs_listed p))
        (inputs_of_guards gs)

-- a test of changes of this variable
module _ (t : Usage → Bool) (k : ℕ) (out : (c : ℕ) → t (changing (of.Output c)) ≡ false) (input : (c : ℕ) → t (changing (of.Input c)) ≡ false) (var : (v : ℕ) → t (changing (of.Variable v)) ≡ eqb k v) (read : (v : ℕ) → t (reading v) ≡ false) where
  into : (c v : ℕ) → list_any t (input_usages c v) ≡ eqb k v
  into c v = adds (input c) (adds (var v) refl) ∙ or_false (eqb k v)

  mutual
    pub changes_listed : (p : Proc) → list_any t (usages p) ≡ changes p k
    changes_listed (SKIP i) = refl
    changes_listed (STOP i) = refl
    changes_listed (Assign i v a) = adds (var v) (given_none t read a) ∙ or_false (eqb k v)
    changes_listed (Output i c a) = adds (out c) (given_none t read a)
    changes_listed (Input i c v) = into c v
    changes_listed (StopChan i c) = adds (input c) refl
    changes_listed (SEQ i ps) = changes_of_parts ps
    changes_listed (PAR i ps) = changes_of_parts ps
    changes_listed (IF i bs) = changes_of_branches bs
    changes_listed (WHILE i a p) = joins t (test_usages a) (usages p) (test_none t read a) (changes_listed p)
    changes_listed (COUNT i v a n p) = joins t (changing (of.Variable v) ∷ exp_usages a ++ exp_usages n) (usages p) (adds (var v) (joins t (exp_usages a) (exp_usages n) (exp_none t read a) (exp_none t read n)) ∙ or_false (eqb k v)) (changes_listed p)
    changes_listed (ALT i gs) = changes_of_guards gs

    changes_of_parts : (ps : Procs) → list_any t (usages_of_parts ps) ≡ changes_all ps k
    changes_of_parts no_parts = refl
    changes_of_parts (part p ps) = joins t (usages p) (usages_of_parts ps) (changes_listed p) (changes_of_parts ps)

    changes_of_branches : (bs : Branches) → list_any t (usages_of_branches bs) ≡ changes_branches bs k
    changes_of_branches no_branches = refl
    changes_of_branches (branch a p bs) = joins t (test_usages a ++ usages p) (usages_of_branches bs) (joins t (test_usages a) (usages p) (test_none t read a) (changes_listed p)) (changes_of_branches bs)

    changes_of_guards : (gs : Guards) → list_any t (usages_of_guards gs) ≡ changes_guards gs k
    changes_of_guards no_guards = refl
    changes_of_guards (guard a c v p gs) =
        joins t ((input_usages c v ++ test_usages a) ++ usages p) (usages_of_guards gs)
        (joins t (input_usages c v ++ test_usages a) (usages p) (joins t (input_usages c v) (test_usages a) (into c v) (test_none t read a) ∙ or_false (eqb k v)) (changes_listed p))
        (changes_of_guards gs)

-- a test of uses of this variable
module _ (t : Usage → Bool) (k : ℕ) (out : (c : ℕ) → t (changing (of.Output c)) ≡ false) (input : (c : ℕ) → t (changing (of.Input c)) ≡ false) (var : (v : ℕ) → t (changing (of.Variable v)) ≡ eqb k v) (read : (v : ℕ) → t (reading v) ≡ eqb k v) where
  exp_listed : (a : Exp) → list_any t (exp_usages a) ≡ in_exp a k
  exp_listed (Number z) = refl
  exp_listed (Variable v) = adds (read v) refl ∙ or_false (eqb k v)
  exp_listed (Binary op a b) = joins t (exp_usages a) (exp_usages b) (exp_listed a) (exp_listed b)
  exp_listed (SizeOf v) = adds (read v) refl ∙ or_false (eqb k v)

  test_listed : (a : Test) → list_any t (test_usages a) ≡ in_test a k
  test_listed (Constant b) = refl
  test_listed (Compare rel a b) = joins t (exp_usages a) (exp_usages b) (exp_listed a) (exp_listed b)
  test_listed (Both a b) = joins t (test_usages a) (test_usages b) (test_listed a) (test_listed b)
  test_listed (Either a b) = joins t (test_usages a) (test_usages b) (test_listed a) (test_listed b)
  test_listed (Negate a) = test_listed a

  given_listed : (a : Given) → list_any t (given_usages a) ≡ in_given a k
  given_listed (Whole a) = exp_listed a
  given_listed (Bytes (Literal xs)) = refl
  given_listed (Bytes (Contents v)) = adds (read v) refl ∙ or_false (eqb k v)
  given_listed (Bytes (Filled b n)) = refl

  taken : (c v : ℕ) → list_any t (input_usages c v) ≡ eqb k v
  taken c v = adds (input c) (adds (var v) refl) ∙ or_false (eqb k v)

  mutual
    pub uses_listed : (p : Proc) → list_any t (usages p) ≡ uses p k
    uses_listed (SKIP i) = refl
    uses_listed (STOP i) = refl
    uses_listed (Assign i v a) = adds (var v) (given_listed a)
    uses_listed (Output i c a) = adds (out c) (given_listed a)
    uses_listed (Input i c v) = taken c v
    uses_listed (StopChan i c) = adds (input c) refl
    uses_listed (SEQ i ps) = uses_of_parts ps
    uses_listed (PAR i ps) = uses_of_parts ps
    uses_listed (IF i bs) = uses_of_branches bs
    uses_listed (WHILE i a p) = joins t (test_usages a) (usages p) (test_listed a) (uses_listed p)
    uses_listed (COUNT i v a n p) = joins t (changing (of.Variable v) ∷ exp_usages a ++ exp_usages n) (usages p) (adds (var v) (joins t (exp_usages a) (exp_usages n) (exp_listed a) (exp_listed n))) (uses_listed p)
    uses_listed (ALT i gs) = uses_of_guards gs

    uses_of_parts : (ps : Procs) → list_any t (usages_of_parts ps) ≡ uses_all ps k
    uses_of_parts no_parts = refl
    uses_of_parts (part p ps) = joins t (usages p) (usages_of_parts ps) (uses_listed p) (uses_of_parts ps)

    uses_of_branches : (bs : Branches) → list_any t (usages_of_branches bs) ≡ uses_branches bs k
    uses_of_branches no_branches = refl
    uses_of_branches (branch a p bs) = joins t (test_usages a ++ usages p) (usages_of_branches bs) (joins t (test_usages a) (usages p) (test_listed a) (uses_listed p)) (uses_of_branches bs)

    uses_of_guards : (gs : Guards) → list_any t (usages_of_guards gs) ≡ uses_guards gs k
    uses_of_guards no_guards = refl
    uses_of_guards (guard a c v p gs) =
        joins t ((input_usages c v ++ test_usages a) ++ usages p) (usages_of_guards gs)
        (joins t (input_usages c v ++ test_usages a) (usages p) (joins t (input_usages c v) (test_usages a) (taken c v) (test_listed a)) (uses_listed p))
        (uses_of_guards gs)

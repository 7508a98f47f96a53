-- Sets of numbers, and the variables that a process changes and uses.
use Rattle.std.specs.Prelude.{ℕ, Bool, false, ◌||◌, eqb, List, nat_eq}
use Rattle.std.specs.List.{list_any}
use Rattle.vc_process.specs.Syntax.{Exp, Number, Variable, Binary, SizeOf, Test, Constant, Compare, Both, Either, Negate, Literal, Contents, Filled, Given, Whole, Bytes, Proc, SKIP, STOP, Assign, Output, Input, StopChan, SEQ, PAR, IF, WHILE, COUNT, ALT, Procs, no_parts, part, Branches, no_branches, branch, Guards, no_guards, guard}

-- a set of numbers
abbrev pub Set : Type 0
Set = ℕ → Bool

abbrev pub nothing : Set
nothing = λ _. false

abbrev pub just : ℕ → Set
just v = λ k. eqb k v

-- the numbers of a list
abbrev pub among : List ℕ → Set
among ns = λ k. list_any (λ n. nat_eq n k) ns

infixl 20 ◌∪◌
abbrev pub ◌∪◌ : Set → Set → Set
a ∪ b = λ k. a k || b k

-- the variables that stand in an expression
abbrev pub in_exp : Exp → Set
in_exp (Number z) = nothing
in_exp (Variable v) = just v
in_exp (Binary op a b) = in_exp a ∪ in_exp b
in_exp (SizeOf v) = just v

abbrev pub in_test : Test → Set
in_test (Constant b) = nothing
in_test (Compare rel a b) = in_exp a ∪ in_exp b
in_test (Both a b) = in_test a ∪ in_test b
in_test (Either a b) = in_test a ∪ in_test b
in_test (Negate a) = in_test a

abbrev pub in_given : Given → Set
in_given (Whole a) = in_exp a
in_given (Bytes (Literal xs)) = nothing
in_given (Bytes (Contents v)) = just v
in_given (Bytes (Filled b n)) = nothing

-- the variables that a process changes
abbrev mutual
  pub changes : Proc → Set
  changes (SKIP i) = nothing
  changes (STOP i) = nothing
  changes (Assign i v a) = just v
  changes (Output i c a) = nothing
  changes (Input i c v) = just v
  changes (StopChan i c) = nothing
  changes (SEQ i ps) = changes_all ps
  changes (PAR i ps) = changes_all ps
  changes (IF i bs) = changes_branches bs
  changes (WHILE i t p) = changes p
  changes (COUNT i v a n p) = just v ∪ changes p
  changes (ALT i gs) = changes_guards gs

  pub changes_all : Procs → Set
  changes_all no_parts = nothing
  changes_all (part p ps) = changes p ∪ changes_all ps

  pub changes_branches : Branches → Set
  changes_branches no_branches = nothing
  changes_branches (branch t p bs) = changes p ∪ changes_branches bs

  pub changes_guards : Guards → Set
  changes_guards no_guards = nothing
  changes_guards (guard t c v p gs) = just v ∪ changes p ∪ changes_guards gs

-- the variables that a process uses: those that it changes, and those in its expressions
abbrev mutual
  pub uses : Proc → Set
  uses (SKIP i) = nothing
  uses (STOP i) = nothing
  uses (Assign i v a) = just v ∪ in_given a
  uses (Output i c a) = in_given a
  uses (Input i c v) = just v
  uses (StopChan i c) = nothing
  uses (SEQ i ps) = uses_all ps
  uses (PAR i ps) = uses_all ps
  uses (IF i bs) = uses_branches bs
  uses (WHILE i t p) = in_test t ∪ uses p
  uses (COUNT i v a n p) = just v ∪ (in_exp a ∪ in_exp n) ∪ uses p
  uses (ALT i gs) = uses_guards gs

  pub uses_all : Procs → Set
  uses_all no_parts = nothing
  uses_all (part p ps) = uses p ∪ uses_all ps

  pub uses_branches : Branches → Set
  uses_branches no_branches = nothing
  uses_branches (branch t p bs) = in_test t ∪ uses p ∪ uses_branches bs

  pub uses_guards : Guards → Set
  uses_guards no_guards = nothing
  uses_guards (guard t c v p gs) = just v ∪ in_test t ∪ uses p ∪ uses_guards gs

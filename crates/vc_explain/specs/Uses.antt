-- Where a process uses channels and variables in the network file.
use Rattle.std.specs.Prelude.{ℕ, suc, ◌==◌, ◌&&◌, Bool, false, not, if◌then◌else◌, List, [], ◌∷◌, ◌++◌, Option, Some, None, slice_get}
use Rattle.std.specs.Option.{option_or}
use Rattle.vc_plan.specs.Check.{kind_fits}
use Rattle.vc_process.specs.Limits.{given_kind}
use Rattle.vc_process.specs.Syntax.{Exp, Proc, Assign, Output, Input, StopChan, SEQ, PAR, IF, WHILE, COUNT, ALT, Procs, no_parts, part, Branches, no_branches, branch, Guards, no_guards, guard}
use Rattle.vc_process.specs.Usage.{Set, in_exp, in_given, in_test}
use Rattle.vc_process.specs.declared.value_kind.ValueKind.{ValueKind}
use Rattle.vc_reader.specs.declared.path.Step.{Step}
use Rattle.vc_reader.specs.declared.path.Step.TheVariants.{Field, Index}
use Rattle.vc_reader.specs.declared.word.Word.{Word}
use Rattle.vc_reader.specs.declared.word.Word.TheVariants as word
use Rattle.vc_explain.specs.declared.wanted.Wanted.{Wanted}
use Rattle.vc_explain.specs.declared.wanted.Wanted.TheVariants as wanted

-- an output of this kind on a channel; an input, a guard or a stop of one; a change of a variable; an expression with these variables
pub data Use : Type 0 where
  output : ℕ → ValueKind → Use
  input : ℕ → Option ValueKind → Use
  change : ℕ → Use
  expression : Set → Use

-- a use that is wanted
abbrev pub wants : Wanted → Use → Bool
wants (wanted.Output c) (output d k) = c == d
wants (wanted.Input c) (input d k) = c == d
wants (wanted.Change v) (change w) = v == w
wants (wanted.Use v) (change w) = v == w
wants (wanted.Use v) (expression set) = set v
wants (wanted.Misuse r) (output d k) = r.chan == d && not (r.may_output && kind_fits (Some k) r.kind)
wants (wanted.Misuse r) (input d k) = r.chan == d && not (r.may_input && kind_fits k r.kind)
wants w u = false

-- a use, and its path
abbrev pub Placed : Type 0
Placed = Use × List Step

-- the uses that stand in a list at this path, from its item k on
abbrev pub items_at : List Step → ℕ → List Use → List Placed
items_at list k [] = []
items_at list k (u ∷ us) = (u, list ++ Index k ∷ []) ∷ items_at list (suc k) us

-- the first item that is marked of a list at this path, from item k on
abbrev pub first_marked : List Step → ℕ → List Bool → Option (List Step)
first_marked list k [] = None
first_marked list k (b ∷ bs) = if b then Some (list ++ Index k ∷ []) else first_marked list (suc k) bs

-- the conditions of an IF at this path, from its branch k on
abbrev pub branch_uses : List Step → ℕ → Branches → List Placed
branch_uses at k no_branches = []
branch_uses at k (branch t p bs) = items_at (at ++ Field word.If ∷ Index k ∷ []) 0 (expression (in_test t) ∷ []) ++ branch_uses at (suc k) bs

-- the guards of an ALT at this path, from guard k on
abbrev pub guard_uses : List ValueKind → List Step → ℕ → Guards → List Placed
guard_uses kinds at k no_guards = []
guard_uses kinds at k (guard t c v p gs) =
    items_at (at ++ Field word.Alt ∷ Index k ∷ []) 0 (expression (in_test t) ∷ input c (slice_get kinds v) ∷ change v ∷ []) ++ guard_uses kinds at (suc k) gs

-- the index of a replicated SEQ, its base and its count
abbrev pub uses_of_count : ℕ → Exp → Exp → List Use
uses_of_count v a n = change v ∷ expression (in_exp a) ∷ expression (in_exp n) ∷ []

-- what a process uses apart from those within it, where it stands at this path and its node has variables of these kinds
abbrev pub own_uses : List ValueKind → Proc → List Step → List Placed
own_uses kinds (Assign i v a) at = items_at (at ++ Field word.Set ∷ []) 0 (change v ∷ expression (in_given a) ∷ [])
own_uses kinds (Output i c a) at = items_at (at ++ Field word.Out ∷ []) 0 (output c (given_kind a) ∷ expression (in_given a) ∷ [])
own_uses kinds (Input i c v) at = items_at (at ++ Field word.In ∷ []) 0 (input c (slice_get kinds v) ∷ change v ∷ [])
own_uses kinds (StopChan i c) at = (input c None, at ++ Field word.Stopch ∷ []) ∷ []
own_uses kinds (IF i bs) at = branch_uses at 0 bs
own_uses kinds (WHILE i t p) at = items_at (at ++ Field word.While ∷ []) 0 (expression (in_test t) ∷ [])
own_uses kinds (COUNT i v a n p) at = items_at (at ++ Field word.For ∷ []) 0 (uses_of_count v a n)
own_uses kinds (ALT i gs) at = guard_uses kinds at 0 gs
own_uses kinds p at = []

-- a process, and its path
abbrev pub Located : Type 0
Located = Proc × List Step

-- a process at this path and those within it, in order of site
abbrev mutual
  pub within : Proc → List Step → List Located
  within (SEQ i ps) at = (SEQ i ps, at) ∷ within_parts word.Seq at 0 ps
  within (PAR i ps) at = (PAR i ps, at) ∷ within_parts word.Par at 0 ps
  within (IF i bs) at = (IF i bs, at) ∷ within_branches at 0 bs
  within (WHILE i t p) at = (WHILE i t p, at) ∷ within p (at ++ Field word.While ∷ Index 1 ∷ [])
  within (COUNT i v a n p) at = (COUNT i v a n p, at) ∷ within p (at ++ Field word.For ∷ Index 3 ∷ [])
  within (ALT i gs) at = (ALT i gs, at) ∷ within_guards at 0 gs
  within p at = (p, at) ∷ []

  pub within_parts : Word → List Step → ℕ → Procs → List Located
  within_parts w at k no_parts = []
  within_parts w at k (part p ps) = within p (at ++ Field w ∷ Index k ∷ []) ++ within_parts w at (suc k) ps

  pub within_branches : List Step → ℕ → Branches → List Located
  within_branches at k no_branches = []
  within_branches at k (branch t p bs) = within p (at ++ Field word.If ∷ Index k ∷ Index 1 ∷ []) ++ within_branches at (suc k) bs

  pub within_guards : List Step → ℕ → Guards → List Located
  within_guards at k no_guards = []
  within_guards at k (guard t c v p gs) = within p (at ++ Field word.Alt ∷ Index k ∷ Index 3 ∷ []) ++ within_guards at (suc k) gs

-- what the first of a list gives that gives anything
abbrev pub first_of : {A B : Type 0} → (A → Option B) → List A → Option B
first_of f [] = None
first_of f (x ∷ xs) = option_or (f x) (first_of f xs)

abbrev pub place_if : Wanted → Placed → Option (List Step)
place_if w (u, at) = if wants w u then Some at else None

abbrev pub own_place : Wanted → List ValueKind → Located → Option (List Step)
own_place w kinds (p, at) = first_of (place_if w) (own_uses kinds p at)

-- the path of the first use, by site, that is wanted of a process at this path
abbrev pub place : Wanted → List ValueKind → Proc → List Step → Option (List Step)
place w kinds p at = first_of (own_place w kinds) (within p at)

-- The sites of a process, and of what remains of it: those of parts side by side differ.
use Rattle.std.specs.Prelude.{◌≡◌, ◌<◌, ℕ, true}
use Rattle.vc_process.specs.Syntax.{Proc, SEQ, PAR, IF, WHILE, COUNT, ALT, Procs, no_parts, part, Branches, no_branches, branch, Guards, no_guards, guard}
use Rattle.vc_process.specs.Usage.{Set, just}
use Rattle.vc_occam.specs.Sites.{sites, sites_all, sites_branches, sites_guards}

-- each number of the first set is less than each of the second
abbrev pub Precedes : Set → Set → Type 0
Precedes a b = (j k : ℕ) → a j ≡ true → b k ≡ true → j < k

-- sites in preorder: a process's own comes first, and those of a part come before those of the parts behind it
abbrev mutual
  pub InPreorder : Proc → Type 0
  InPreorder (SEQ i ps) = Precedes (just i) (sites_all ps) × PartsInPreorder ps
  InPreorder (PAR i ps) = Precedes (just i) (sites_all ps) × PartsInPreorder ps
  InPreorder (IF i bs) = Precedes (just i) (sites_branches bs) × BranchesInPreorder bs
  InPreorder (WHILE i b p) = Precedes (just i) (sites p) × InPreorder p
  InPreorder (COUNT i v a n p) = Precedes (just i) (sites p) × InPreorder p
  InPreorder (ALT i gs) = Precedes (just i) (sites_guards gs) × GuardsInPreorder gs
  InPreorder p = Unit {0}

  pub PartsInPreorder : Procs → Type 0
  PartsInPreorder no_parts = Unit {0}
  PartsInPreorder (part p ps) = Precedes (sites p) (sites_all ps) × InPreorder p × PartsInPreorder ps

  pub BranchesInPreorder : Branches → Type 0
  BranchesInPreorder no_branches = Unit {0}
  BranchesInPreorder (branch b p bs) = Precedes (sites p) (sites_branches bs) × InPreorder p × BranchesInPreorder bs

  pub GuardsInPreorder : Guards → Type 0
  GuardsInPreorder no_guards = Unit {0}
  GuardsInPreorder (guard b c v p gs) = Precedes (sites p) (sites_guards gs) × InPreorder p × GuardsInPreorder gs

-- The sites of a process, and of what remains of it: those of parts side by side differ.
use Rattle.std.specs.Prelude.{◌≡◌, ℕ, true, false}
use Rattle.vc_process.specs.Syntax.{Proc, SKIP, STOP, Assign, Output, Input, StopChan, SEQ, PAR, IF, WHILE, COUNT, ALT, Procs, no_parts, part, Branches, no_branches, branch, Guards, no_guards, guard}
use Rattle.vc_process.specs.Usage.{Set, nothing, just, ◌∪◌}
use Rattle.vc_occam.specs.Remains.{Rest, Done, Stopped, Fresh, Finishing, Getting, Then, Turns, Beside}

-- the sites of a process and of those within it
abbrev mutual
  pub sites : Proc → Set
  sites (SKIP i) = just i
  sites (STOP i) = just i
  sites (Assign i v a) = just i
  sites (Output i c a) = just i
  sites (Input i c v) = just i
  sites (StopChan i c) = just i
  sites (SEQ i ps) = just i ∪ sites_all ps
  sites (PAR i ps) = just i ∪ sites_all ps
  sites (IF i bs) = just i ∪ sites_branches bs
  sites (WHILE i b p) = just i ∪ sites p
  sites (COUNT i v a n p) = just i ∪ sites p
  sites (ALT i gs) = just i ∪ sites_guards gs

  pub sites_all : Procs → Set
  sites_all no_parts = nothing
  sites_all (part p ps) = sites p ∪ sites_all ps

  pub sites_branches : Branches → Set
  sites_branches no_branches = nothing
  sites_branches (branch b p bs) = sites p ∪ sites_branches bs

  pub sites_guards : Guards → Set
  sites_guards no_guards = nothing
  sites_guards (guard b c v p gs) = sites p ∪ sites_guards gs

-- a process's own site
abbrev pub site : Proc → ℕ
site (SKIP i) = i
site (STOP i) = i
site (Assign i v a) = i
site (Output i c a) = i
site (Input i c v) = i
site (StopChan i c) = i
site (SEQ i ps) = i
site (PAR i ps) = i
site (IF i bs) = i
site (WHILE i b p) = i
site (COUNT i v a n p) = i
site (ALT i gs) = i

-- two sets have no number in common
abbrev pub Disjoint : Set → Set → Type 0
Disjoint a b = (k : ℕ) → a k ≡ true → b k ≡ false

-- within a process, parts side by side have no site in common
abbrev mutual
  pub HasOwnSites : Proc → Type 0
  HasOwnSites (SEQ i ps) = AllHaveOwnSites ps
  HasOwnSites (PAR i ps) = PartsHaveOwnSites ps
  HasOwnSites (IF i bs) = BranchesHaveOwnSites bs
  HasOwnSites (WHILE i b p) = HasOwnSites p
  HasOwnSites (COUNT i v a n p) = HasOwnSites p
  HasOwnSites (ALT i gs) = GuardsHaveOwnSites gs
  HasOwnSites p = Unit {0}

  pub AllHaveOwnSites : Procs → Type 0
  AllHaveOwnSites no_parts = Unit {0}
  AllHaveOwnSites (part p ps) = HasOwnSites p × AllHaveOwnSites ps

  pub PartsHaveOwnSites : Procs → Type 0
  PartsHaveOwnSites no_parts = Unit {0}
  PartsHaveOwnSites (part p ps) = Disjoint (sites p) (sites_all ps) × HasOwnSites p × PartsHaveOwnSites ps

  pub BranchesHaveOwnSites : Branches → Type 0
  BranchesHaveOwnSites no_branches = Unit {0}
  BranchesHaveOwnSites (branch b p bs) = HasOwnSites p × BranchesHaveOwnSites bs

  pub GuardsHaveOwnSites : Guards → Type 0
  GuardsHaveOwnSites no_guards = Unit {0}
  GuardsHaveOwnSites (guard b c v p gs) = HasOwnSites p × GuardsHaveOwnSites gs

-- the sites of what remains
abbrev pub sites_rest : Rest → Set
sites_rest Done = nothing
sites_rest (Stopped i) = nothing
sites_rest (Fresh p) = sites p
sites_rest (Finishing s c) = just s
sites_rest (Getting s c v) = just s
sites_rest (Then r ps) = sites_rest r ∪ sites_all ps
sites_rest (Turns r v b n p) = sites_rest r ∪ sites p
sites_rest (Beside mine r q) = sites_rest r ∪ sites_rest q

-- side by side, what remains has no site in common
abbrev pub OwnSites : Rest → Type 0
OwnSites (Fresh p) = HasOwnSites p
OwnSites (Then r ps) = OwnSites r × AllHaveOwnSites ps
OwnSites (Turns r v b n p) = OwnSites r × HasOwnSites p
OwnSites (Beside mine r q) = Disjoint (sites_rest r) (sites_rest q) × OwnSites r × OwnSites q
OwnSites r = Unit {0}

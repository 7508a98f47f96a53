-- What is said of the sites and of the use of a process has one proof at most.
use denote.Struct.Props as logic
use Rattle.std.specs.Prelude.{◌≡◌, ℕ, false}
use Rattle.std.specs.Coded.{×_prop, Unit-prop}
use Rattle.vc_occam.specs.InUse.{UseApart, UsesLawfully}
use Rattle.vc_process.specs.Lawful.{Lawfully, LawfullyAll, LawfullyBranches, LawfullyGuards, SideBySide}
use Rattle.vc_occam.specs.Remains.{Rest, Fresh, Then, Turns, Beside, changes_rest}
use Rattle.vc_occam.specs.Sites.{Disjoint, HasOwnSites, AllHaveOwnSites, PartsHaveOwnSites, BranchesHaveOwnSites, GuardsHaveOwnSites, OwnSites}
use Rattle.vc_occam.specs.Private.Sites.{Precedes, InPreorder, PartsInPreorder, BranchesInPreorder, GuardsInPreorder}
use Rattle.vc_process.specs.Syntax.{Proc, SEQ, PAR, IF, WHILE, COUNT, ALT, Procs, no_parts, part, Branches, no_branches, branch, Guards, no_guards, guard}
use Rattle.vc_process.specs.Usage.{Set, changes}

three_prop : {A B C : Type 0} → IsProp A → IsProp B → IsProp C → IsProp (A × B × C)
three_prop a b c = Prim.hlevel (a, b, c)

four_prop : {A B C D : Type 0} → IsProp A → IsProp B → IsProp C → IsProp D → IsProp (A × B × C × D)
four_prop a b c d = Prim.hlevel (a, b, c, d)

Disjoint-prop : (a b : Set) → IsProp (Disjoint a b)
Disjoint-prop a b = Prim.hlevel logic.props

Precedes-prop : (a b : Set) → IsProp (Precedes a b)
Precedes-prop a b = Prim.hlevel logic.props

mutual
  pub InPreorder-prop : (p : Proc) → IsProp (InPreorder p)
  InPreorder-prop (SEQ i ps) = ×_prop (Precedes-prop _ _) (PartsInPreorder-prop ps)
  InPreorder-prop (PAR i ps) = ×_prop (Precedes-prop _ _) (PartsInPreorder-prop ps)
  InPreorder-prop (IF i bs) = ×_prop (Precedes-prop _ _) (BranchesInPreorder-prop bs)
  InPreorder-prop (WHILE i b p) = ×_prop (Precedes-prop _ _) (InPreorder-prop p)
  InPreorder-prop (COUNT i v a n p) = ×_prop (Precedes-prop _ _) (InPreorder-prop p)
  InPreorder-prop (ALT i gs) = ×_prop (Precedes-prop _ _) (GuardsInPreorder-prop gs)
  InPreorder-prop p = Unit-prop

  PartsInPreorder-prop : (ps : Procs) → IsProp (PartsInPreorder ps)
  PartsInPreorder-prop no_parts = Unit-prop
  PartsInPreorder-prop (part p ps) = three_prop (Precedes-prop _ _) (InPreorder-prop p) (PartsInPreorder-prop ps)

  BranchesInPreorder-prop : (bs : Branches) → IsProp (BranchesInPreorder bs)
  BranchesInPreorder-prop no_branches = Unit-prop
  BranchesInPreorder-prop (branch b p bs) = three_prop (Precedes-prop _ _) (InPreorder-prop p) (BranchesInPreorder-prop bs)

  GuardsInPreorder-prop : (gs : Guards) → IsProp (GuardsInPreorder gs)
  GuardsInPreorder-prop no_guards = Unit-prop
  GuardsInPreorder-prop (guard b c v p gs) = three_prop (Precedes-prop _ _) (InPreorder-prop p) (GuardsInPreorder-prop gs)

mutual
  HasOwnSites-prop : (p : Proc) → IsProp (HasOwnSites p)
  HasOwnSites-prop (SEQ i ps) = AllHaveOwnSites-prop ps
  HasOwnSites-prop (PAR i ps) = PartsHaveOwnSites-prop ps
  HasOwnSites-prop (IF i bs) = BranchesHaveOwnSites-prop bs
  HasOwnSites-prop (WHILE i b p) = HasOwnSites-prop p
  HasOwnSites-prop (COUNT i v a n p) = HasOwnSites-prop p
  HasOwnSites-prop (ALT i gs) = GuardsHaveOwnSites-prop gs
  HasOwnSites-prop p = Unit-prop

  AllHaveOwnSites-prop : (ps : Procs) → IsProp (AllHaveOwnSites ps)
  AllHaveOwnSites-prop no_parts = Unit-prop
  AllHaveOwnSites-prop (part p ps) = ×_prop (HasOwnSites-prop p) (AllHaveOwnSites-prop ps)

  PartsHaveOwnSites-prop : (ps : Procs) → IsProp (PartsHaveOwnSites ps)
  PartsHaveOwnSites-prop no_parts = Unit-prop
  PartsHaveOwnSites-prop (part p ps) = three_prop (Disjoint-prop _ _) (HasOwnSites-prop p) (PartsHaveOwnSites-prop ps)

  BranchesHaveOwnSites-prop : (bs : Branches) → IsProp (BranchesHaveOwnSites bs)
  BranchesHaveOwnSites-prop no_branches = Unit-prop
  BranchesHaveOwnSites-prop (branch b p bs) = ×_prop (HasOwnSites-prop p) (BranchesHaveOwnSites-prop bs)

  GuardsHaveOwnSites-prop : (gs : Guards) → IsProp (GuardsHaveOwnSites gs)
  GuardsHaveOwnSites-prop no_guards = Unit-prop
  GuardsHaveOwnSites-prop (guard b c v p gs) = ×_prop (HasOwnSites-prop p) (GuardsHaveOwnSites-prop gs)

pub OwnSites-prop : (r : Rest) → IsProp (OwnSites r)
OwnSites-prop (Fresh p) = HasOwnSites-prop p
OwnSites-prop (Then r ps) = ×_prop (OwnSites-prop r) (AllHaveOwnSites-prop ps)
OwnSites-prop (Turns r v b n p) = ×_prop (OwnSites-prop r) (HasOwnSites-prop p)
OwnSites-prop (Beside mine r q) = three_prop (Disjoint-prop _ _) (OwnSites-prop r) (OwnSites-prop q)
OwnSites-prop r = Unit-prop

SideBySide-prop : (ps : Procs) → IsProp (SideBySide ps)
SideBySide-prop ps = Prim.hlevel logic.props

unchanged-prop : (a : Set) (v : ℕ) → IsProp (a v ≡ false)
unchanged-prop a v = Prim.hlevel logic.props

mutual
  Lawfully-prop : (p : Proc) → IsProp (Lawfully p)
  Lawfully-prop (SEQ i ps) = LawfullyAll-prop ps
  Lawfully-prop (PAR i ps) = ×_prop (SideBySide-prop ps) (LawfullyAll-prop ps)
  Lawfully-prop (IF i bs) = LawfullyBranches-prop bs
  Lawfully-prop (WHILE i b p) = Lawfully-prop p
  Lawfully-prop (COUNT i v a n p) = ×_prop (unchanged-prop (changes p) v) (Lawfully-prop p)
  Lawfully-prop (ALT i gs) = LawfullyGuards-prop gs
  Lawfully-prop p = Unit-prop

  LawfullyAll-prop : (ps : Procs) → IsProp (LawfullyAll ps)
  LawfullyAll-prop no_parts = Unit-prop
  LawfullyAll-prop (part p ps) = ×_prop (Lawfully-prop p) (LawfullyAll-prop ps)

  LawfullyBranches-prop : (bs : Branches) → IsProp (LawfullyBranches bs)
  LawfullyBranches-prop no_branches = Unit-prop
  LawfullyBranches-prop (branch b p bs) = ×_prop (Lawfully-prop p) (LawfullyBranches-prop bs)

  LawfullyGuards-prop : (gs : Guards) → IsProp (LawfullyGuards gs)
  LawfullyGuards-prop no_guards = Unit-prop
  LawfullyGuards-prop (guard b c v p gs) = ×_prop (Lawfully-prop p) (LawfullyGuards-prop gs)

UseApart-prop : (mine : Set) (r q : Rest) → IsProp (UseApart mine r q)
UseApart-prop mine r q = Prim.hlevel logic.props

pub UsesLawfully-prop : (r : Rest) → IsProp (UsesLawfully r)
UsesLawfully-prop (Fresh p) = Lawfully-prop p
UsesLawfully-prop (Then r ps) = ×_prop (UsesLawfully-prop r) (LawfullyAll-prop ps)
UsesLawfully-prop (Turns r v b n p) = four_prop (UsesLawfully-prop r) (unchanged-prop (changes_rest r) v) (unchanged-prop (changes p) v) (Lawfully-prop p)
UsesLawfully-prop (Beside mine r q) = three_prop (UseApart-prop mine r q) (UsesLawfully-prop r) (UsesLawfully-prop q)
UsesLawfully-prop r = Unit-prop

-- Sites: a process and those within it are numbered in preorder.
use Rattle.std.specs.Prelude.{ℕ, suc, ◌+◌, List, [], ◌∷◌}
use Rattle.vc_process.specs.declared.process.Process.{Process}
use Rattle.vc_process.specs.declared.process.Process.TheOpen as layer
use Rattle.vc_process.specs.declared.process.Process.TheFolds.{fold-Process}
use Rattle.vc_process.specs.Syntax.{Test, Proc, SKIP, STOP, Assign, Output, Input, StopChan, SEQ, PAR, IF, WHILE, COUNT, ALT, Procs, no_parts, part, Branches, no_branches, branch, Guards, no_guards, guard}
use Rattle.vc_process.specs.Terms.{exp, as_test, given}

-- a process that is yet to be numbered: how many sites it has, and its tree with the first of them
pub record Numbered : Type 0 where
  pub sites : ℕ
  pub tree : ℕ → Proc

pub record NumberedBranch : Type 0 where
  pub when : Test
  pub then_do : Numbered

pub record NumberedGuard : Type 0 where
  pub when : Test
  pub chan : ℕ
  pub var : ℕ
  pub then_do : Numbered

abbrev pub parts_from : ℕ → List Numbered → Procs
parts_from i [] = no_parts
parts_from i (p ∷ ps) = part (p.tree i) (parts_from (i + p.sites) ps)

abbrev pub branches_from : ℕ → List NumberedBranch → Branches
branches_from i [] = no_branches
branches_from i (b ∷ bs) = branch b.when (b.then_do.tree i) (branches_from (i + b.then_do.sites) bs)

abbrev pub guards_from : ℕ → List NumberedGuard → Guards
guards_from i [] = no_guards
guards_from i (g ∷ gs) = guard g.when g.chan g.var (g.then_do.tree i) (guards_from (i + g.then_do.sites) gs)

abbrev pub part_sites : List Numbered → ℕ
part_sites [] = 0
part_sites (p ∷ ps) = p.sites + part_sites ps

abbrev pub branch_sites : List NumberedBranch → ℕ
branch_sites [] = 0
branch_sites (b ∷ bs) = b.then_do.sites + branch_sites bs

abbrev pub guard_sites : List NumberedGuard → ℕ
guard_sites [] = 0
guard_sites (g ∷ gs) = g.then_do.sites + guard_sites gs

-- one process, with those within it in their place
abbrev pub numbered : layer.Process-F Numbered NumberedBranch NumberedGuard → Numbered
numbered layer.Skip = record { sites = 1; tree = λ i. SKIP i }
numbered layer.Stop = record { sites = 1; tree = λ i. STOP i }
numbered (layer.Set v a) = record { sites = 1; tree = λ i. Assign i v (given a) }
numbered (layer.Send c a) = record { sites = 1; tree = λ i. Output i c (given a) }
numbered (layer.Receive c v) = record { sites = 1; tree = λ i. Input i c v }
numbered (layer.Stopch c) = record { sites = 1; tree = λ i. StopChan i c }
numbered (layer.Seq ps) = record { sites = suc (part_sites ps); tree = λ i. SEQ i (parts_from (suc i) ps) }
numbered (layer.Par ps) = record { sites = suc (part_sites ps); tree = λ i. PAR i (parts_from (suc i) ps) }
numbered (layer.If bs) = record { sites = suc (branch_sites bs); tree = λ i. IF i (branches_from (suc i) bs) }
numbered (layer.While b p) = record { sites = suc p.sites; tree = λ i. WHILE i (as_test b) (p.tree (suc i)) }
numbered (layer.Count v a n p) = record { sites = suc p.sites; tree = λ i. COUNT i v (exp a) (exp n) (p.tree (suc i)) }
numbered (layer.Alt gs) = record { sites = suc (guard_sites gs); tree = λ i. ALT i (guards_from (suc i) gs) }

-- the tree of a process as it is written, its own site being 0
unfoldable pub written : Process → Proc
written p =
    (fold-Process Numbered NumberedBranch NumberedGuard numbered (λ b. record { when = as_test b.cond; then_do = b.body })
    (λ g. record { when = as_test g.cond; chan = g.chan; var = g.var; then_do = g.body }) p).tree 0

-- How many sites are found, of parts, branches and guards that are gone through from the first on.
use Rattle.std.proofs.Common.{◌≡◌, ℕ, ◌+◌, ◌-◌, ◌<◌, ◌≤◌, List, [], ◌∷◌, map, drop, arith}
use Rattle.vc_process.specs.declared.process.Process.{Process}
use Rattle.vc_process.specs.declared.process.Process.TheOpen as layer
use Rattle.vc_process.specs.declared.process.Process.TheFolds.{fold_out-Process}
use Rattle.vc_process.specs.InOrder.{branch_layer, guard_layer, number}
use Rattle.vc_process.specs.Numbering.{Numbered, NumberedBranch, NumberedGuard, numbered}

-- so many are found before the k-th, and no more than are wanted
abbrev pub Found : {X N : Type 0} → (X → N) → (List N → ℕ) → List X → ℕ → ℕ → ℕ → Type 0
Found num all xs most k found = (found ≤ most) × (found + all (map num (drop k xs)) ≡ all (map num xs))

-- those of the first, and of those behind it
abbrev pub Sums : {N : Type 0} → (List N → ℕ) → (N → ℕ) → Type 0
Sums {N = N} all one = (n : N) (ns : List N) → all (n ∷ ns) ≡ one n + all ns

numbered_some : (l : layer.Process-F Numbered NumberedBranch NumberedGuard) → 0 < (numbered l).sites
numbered_some layer.Skip = omega arith
numbered_some layer.Stop = omega arith
numbered_some (layer.Set v a) = omega arith
numbered_some (layer.Send c a) = omega arith
numbered_some (layer.Receive c v) = omega arith
numbered_some (layer.Stopch c) = omega arith
numbered_some (layer.Seq ps) = omega arith
numbered_some (layer.Par ps) = omega arith
numbered_some (layer.If bs) = omega arith
numbered_some (layer.While b p) = omega arith
numbered_some (layer.Count v a n p) = omega arith
numbered_some (layer.Alt gs) = omega arith

-- a process is a site itself
pub has_a_site : (p : Process) → 0 < (number p).sites
unfolding number
has_a_site p = rw (fold_out-Process Numbered NumberedBranch NumberedGuard numbered branch_layer guard_layer p) (numbered_some _)

-- The paths of a process and of those within it in the network file, in order of site.
use Rattle.std.specs.Prelude.{ℕ, List, [], ◌∷◌, ◌++◌, codes, decimal}
use Rattle.std.specs.List.{enumerate_from, flat_map}
use Rattle.vc_process.specs.declared.process.Process.{Process}
use Rattle.vc_process.specs.declared.process.Process.TheOpen as layer
use Rattle.vc_process.specs.declared.process.Process.TheFolds.{fold-Process}

-- the paths of a process that stands at a path
abbrev pub PathsAt : Type 0
PathsAt = List ℕ → List (List ℕ)

-- the k-th of a list that stands at a path, with the step from its place in the list to the process
abbrev pub each_at : List ℕ → List ℕ → ℕ × PathsAt → List (List ℕ)
each_at list step (k, paths_of) = paths_of (list ++ decimal k ++ step)

-- those of a list that stands at a path
abbrev pub list_paths : List ℕ → List ℕ → List PathsAt → List (List ℕ)
list_paths list step all = flat_map (each_at list step) (enumerate_from 0 all)

-- a process comes first, and then those within it; in a branch and in a guard the process is the last of the list
abbrev pub layer_paths : layer.Process-F PathsAt PathsAt PathsAt → PathsAt
layer_paths (layer.Seq ps) at = at ∷ list_paths (at ++ codes "/seq/") [] ps
layer_paths (layer.Par ps) at = at ∷ list_paths (at ++ codes "/par/") [] ps
layer_paths (layer.If bs) at = at ∷ list_paths (at ++ codes "/if/") (codes "/1") bs
layer_paths (layer.While b p) at = at ∷ p (at ++ codes "/while/1")
layer_paths (layer.Count v a n p) at = at ∷ p (at ++ codes "/for/3")
layer_paths (layer.Alt gs) at = at ∷ list_paths (at ++ codes "/alt/") (codes "/3") gs
layer_paths p at = at ∷ []

abbrev pub branch_layer : layer.Branch-F PathsAt PathsAt PathsAt → PathsAt
branch_layer b = b.body

abbrev pub guard_layer : layer.Guard-F PathsAt PathsAt PathsAt → PathsAt
guard_layer g = g.body

unfoldable pub paths : Process → PathsAt
paths = fold-Process PathsAt PathsAt PathsAt layer_paths branch_layer guard_layer

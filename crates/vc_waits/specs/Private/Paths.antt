-- The paths of a process and of those within it in the network file, in order of site.
use Rattle.vc_process.specs.declared.process.Branch.{Branch}
use Rattle.vc_process.specs.declared.process.Guard.{Guard}
use Rattle.vc_process.specs.declared.process.Process.TheFolds.{fold-Branch, fold-Guard}
use Rattle.vc_waits.specs.Paths.{PathsAt, layer_paths, branch_layer, guard_layer}

-- the paths in a branch, and in a guard
unfoldable pub branch_paths : Branch → PathsAt
branch_paths = fold-Branch PathsAt PathsAt PathsAt layer_paths branch_layer guard_layer

unfoldable pub guard_paths : Guard → PathsAt
guard_paths = fold-Guard PathsAt PathsAt PathsAt layer_paths branch_layer guard_layer

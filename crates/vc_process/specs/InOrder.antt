-- Processes, branches and guards that are yet to be numbered.
use Rattle.vc_process.specs.declared.process.Process.{Process}
use Rattle.vc_process.specs.declared.process.Process.TheOpen as layer
use Rattle.vc_process.specs.declared.process.Process.TheFolds.{fold-Process}
use Rattle.vc_process.specs.Terms.{as_test}
use Rattle.vc_process.specs.Numbering.{Numbered, NumberedBranch, NumberedGuard, numbered}

abbrev pub branch_layer : layer.Branch-F Numbered NumberedBranch NumberedGuard → NumberedBranch
branch_layer b = record { when = as_test b.cond; then_do = b.body }

abbrev pub guard_layer : layer.Guard-F Numbered NumberedBranch NumberedGuard → NumberedGuard
guard_layer g = record { when = as_test g.cond; chan = g.chan; var = g.var; then_do = g.body }

-- a process that is yet to be numbered, and a branch and a guard
unfoldable pub number : Process → Numbered
number = fold-Process Numbered NumberedBranch NumberedGuard numbered branch_layer guard_layer

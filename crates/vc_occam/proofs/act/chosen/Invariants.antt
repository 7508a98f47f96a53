use Rattle.std.proofs.Common.{◌≡◌, map, drop}
use Rattle.vc_occam.specs.Private.Frames.{chosen_from}
use Rattle.vc_process.specs.Terms.{as_test, store}
use Rattle.vc_occam.proofs.act.chosen.Given as goal

abbrev pub invariant-loop-place : goal.invariant-loop-place
invariant-loop-place l = chosen_from l.place (map (λ b. as_test b.cond) (drop l.place l.branches)) (store l.vars) ≡ chosen_from 0 (map (λ b. as_test b.cond) l.branches) (store l.vars)

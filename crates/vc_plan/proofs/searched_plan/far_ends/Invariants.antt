use Rattle.std.proofs.Common.{◌≡◌, length}
use Rattle.vc_plan.specs.FarEnds.{AreFarEnds}
use Rattle.vc_plan.proofs.searched_plan.far_ends.Given as goal

abbrev pub invariant-loop-switch : goal.invariant-loop-switch
invariant-loop-switch l = record {
  lists : AreFarEnds l.plan l.lists.items;
  count : length l.lists.items ≡ l.switch;
}

use Rattle.std.proofs.Common.{◌≡◌, ◌++◌, take}
use Rattle.std.specs.List.{flat_map}
use Rattle.vc_core.specs.State.{shown, state_of}
use Rattle.vc_waits.specs.Waits.{blocked_line}
use Rattle.vc_waits.proofs.waits.push_all.Given as goal

abbrev pub invariant-loop-blocked : goal.invariant-loop-blocked
invariant-loop-blocked l = l.out.items ≡ l.fn.out.items ++ flat_map (blocked_line l.plan (shown (state_of l.network)) l.node l.paths) (take l.blocked-index l.all)

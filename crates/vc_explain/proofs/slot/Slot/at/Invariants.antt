use Rattle.std.proofs.Common.{◌≡◌, drop}
use Rattle.vc_explain.specs.Slots.{further, slot_at}
use Rattle.vc_explain.proofs.slot.Slot.at.Given as goal

abbrev pub invariant-loop-step : goal.invariant-loop-step
invariant-loop-step l = further l.slot (drop l.step-index l.path) ≡ slot_at l.path

use Rattle.std.proofs.Common.{sym, ◌∙◌, subst}
use Rattle.vc_plan.specs.Accepted.{IsAccepted}
use Rattle.vc_actor.specs.Begin.{AreFirst}
use Rattle.vc_core.specs.Replay.{IsOpening}
use Rattle.vc_core.specs.State.{State}
use Rattle.vc_actor.specs.Turns.{actors}
use Rattle.vc_core.proofs.ReplayRuns.{opened}
use Rattle.vc_core.proofs.network.Network.new.Goals as goal

pub returns : goal.returns
returns c =
    let p = c.plan-plan.result.now in
    let same = c.plan-plan.ensures.plan in
    let lines = c.in_ok-new.field-0 in
    let s : State = record { actors = c.in_ok-actors.field-0.items; nodes = c.len.result; ways = lines.ways; wiring = lines.wiring; wires = c.in_ok-from_slice.field-0; channels = c.in_ok-channels_of.field-0.items } in
    record {
      opening = subst (λ z. IsOpening z s) same
          (opened p s (subst IsAccepted (sym same) c.plan-plan.ensures.accepted) (subst (λ z. AreFirst z (actors z) c.in_ok-actors.field-0.items) (sym same) c.in_ok-actors.ensures) c.len.ensures
          c.in_ok-new.ensures.count c.in_ok-new.ensures.empty c.in_ok-new.ensures.wired (c.in_ok-from_slice.ensures ∙ c.as_slice.ensures) c.in_ok-channels_of.ensures);
    }

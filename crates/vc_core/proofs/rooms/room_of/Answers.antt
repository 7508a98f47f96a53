use Rattle.std.proofs.Common.{◌<◌, sym, ◌∙◌, arith}
use Rattle.vc_core.specs.Wiring.{out_at, IsWired}
use Rattle.vc_core.proofs.WaysOut.{some_wired, wired_some}
use Rattle.vc_actor.proofs.Turns.{clash}
use Rattle.vc_core.proofs.Turns.{bit_set, bit_clear}
use Rattle.vc_core.proofs.rooms.room_of.Goals.{then-is_wired, else-is_wired}
use Rattle.vc_core.proofs.rooms.room_of.Goals as goal

pub loop-link-preserved : goal.loop-link-preserved
loop-link-preserved c =
    let t = c.loop-link-test.true in
    let small : c.loop-link.link < 32 = omega arith in
    let out = c.args.out.now in
    elim c.if-is_wired.branch [
      | then-is_wired w ↦ (let n = bit_set (IsWired out c.args.actor) c.loop-link.room c.if-is_wired.room c.loop-link.link small c.loop-link.invariant.told c.loop-link.invariant.rest w.room-is (some_wired (out_at out c.args.actor c.loop-link.link) (sym c.is_wired.ensures ∙ w.if-is_wired.true)) in record { told = n.0; rest = n.1 })
      | else-is_wired w ↦ (let n = bit_clear (IsWired out c.args.actor) c.loop-link.room c.if-is_wired.room c.loop-link.link small c.loop-link.invariant.told c.loop-link.invariant.rest w.room-is (λ has. clash c.is_wired.result w.if-is_wired.false (c.is_wired.ensures ∙ wired_some (out_at out c.args.actor c.loop-link.link) has.0 has.1)) in record { told = n.0; rest = n.1 })
    ]

use Rattle.std.proofs.Common.{◌∷◌, [], ◌%◌, ◌/◌, ◌<◌, get_or, sym, arith, ◌∙◌, append_assoc, take}
use Rattle.vc_packets.specs.Headers.{spelled}
use Rattle.vc_packets.proofs.HeaderBytes.{spelled_more}
use Rattle.vc_packets.proofs.header.routed.Goals as goal

pub loop-header-preserved : goal.loop-header-preserved
loop-header-preserved c =
    let route = c.args.route.now in
    let i = c.loop-header.header-index in
    let small : get_or route i 0 < 65536 = omega (arith, c.type_inv.route i) in
    let more = spelled_more route i c.loop-header-test.true small in
    rw (c.in_ok-push-2.ensures.ok, c.in_ok-push.ensures.ok, c.loop-header.invariant, c.to_be_bytes.ensures) (append_assoc (spelled (take i route)) (get_or route i 0 / 256 % 256 ∷ []) (get_or route i 0 % 256 ∷ []) ∙ sym more)

use Rattle.std.proofs.Common.{◌*◌, ◌-◌, length, take, drop, arith}
use Rattle.std.proofs.lemmas.List.{take_rest}
use Rattle.vc_packets.proofs.PieceLists.{packet_of}
use Rattle.vc_packets.proofs.message.piece.Goals as goal
use Rattle.vc_packets.proofs.message.piece.Goals.{then-is_last, else-is_last}

pub returns : goal.returns
returns c = λ cs p.
    let m = c.args.msg.now in
    let k = c.args.k in
    let rest = take (length m - 32 * k) (drop (32 * k) m) in
    let body = c.in_ok-body.ensures in
    let packet = packet_of c.args.route.now m k rest c.in_ok-body.body c.min.result c.if-is_last.mark c.requires (take_rest m (32 * k)) c.min.ensures body in
    elim c.if-is_last.branch [
      | then-is_last w ↦ packet (λ short. w.mark-is) (λ long. (let h = w.if-is_last.true in absurd (omega arith))) cs p
      | else-is_last w ↦ packet (λ short. (let h = w.if-is_last.false in absurd (omega arith))) (λ long. w.mark-is) cs p
    ]

use Rattle.std.proofs.Common.{refl, ap}
use Rattle.std.proofs.lemmas.Result.{on_ok_weaker}
use Rattle.vc_packets.specs.declared.mark.Mark.TheVariants.{Eop, Eom}
use Rattle.vc_tokens.specs.CodeTokens.{token}
use Rattle.vc_tokens.proofs.StreamReads.{whole_byte, packet_read}
use Rattle.vc_tokens.proofs.decoder.read_token.Goals as goal

pub returns-in-Byte-clause-ok : goal.returns-in-Byte-clause-ok
returns-in-Byte-clause-ok c =
    rw (c.in-Byte.is, c.if-push.ensures.added) (whole_byte c.args.reading.now.limit c.args.packets.now.items c.args.reading.now.passed c.in-Byte.byte (c.if-push.ensures.room.0 refl))

pub returns-in-Eop-clause-ok : goal.returns-in-Eop-clause-ok
returns-in-Eop-clause-ok c =
    let end = c.end_packet in
    let old = c.args.reading.now in
    on_ok_weaker end.result (packet_read old.limit c.args.packets.now.items end.new.packets.items old end.new.reading Eop (token c.args.next) (ap token c.in-Eop.is)) end.ensures.ok

pub returns-in-Eom-clause-ok : goal.returns-in-Eom-clause-ok
returns-in-Eom-clause-ok c =
    let end = c.end_packet-in-Eom in
    let old = c.args.reading.now in
    on_ok_weaker end.result (packet_read old.limit c.args.packets.now.items end.new.packets.items old end.new.reading Eom (token c.args.next) (ap token c.in-Eom.is)) end.ensures.ok

use Rattle.vc_tokens.proofs.StreamReads.{byte_encoded}
use Rattle.vc_tokens.proofs.encoder.encode.Goals as goal

pub loop-byte-preserved : goal.loop-byte-preserved
loop-byte-preserved c =
    byte_encoded c.loop-byte.spelled.items c.push.new.self.items c.as_slice-body.result.now c.loop-byte.byte-index c.loop-byte-test.true c.loop-byte.invariant
    c.in_ok-push.ensures.items

use Rattle.std.proofs.Common.{◌≡◌, ◌⊎◌, ◌∙◌, inl, inr}
use Rattle.vc_tokens.specs.declared.refused.Why.{Why}
use Rattle.vc_tokens.specs.declared.refused.Why.TheVariants as why
use Rattle.vc_tokens.specs.declared.token.Token.TheVariants as code
use Rattle.vc_tokens.specs.Tokens.{bytes}
use Rattle.vc_tokens.proofs.StreamReads.{token_read, token_breaks}
use Rattle.vc_tokens.proofs.decoder.read.Goals as goal
use Rattle.vc_tokens.proofs.decoder.read.Goals.{in-Memory, in-TooLong}

pub loop-token-preserved : goal.loop-token-preserved
loop-token-preserved c =
    let old = c.args.reading.now in
    let loop = c.loop-token in
    let now = c.read_token.new in
    let on = rw loop.invariant.limit at c.in_default.ensures.ok in
    record {
      limit = c.in_default.ensures.limit ∙ loop.invariant.limit;
      whole = token_read old.limit (bytes old.passed) c.args.next.now loop.token-index (code.Byte 0) loop.packets.items now.packets.items loop.reading.passed now.reading.passed
          c.loop-token-test.true loop.invariant.whole on;
    }

not_memory : (w : Why) → (w ≡ why.TooLong) ⊎ (w ≡ why.StrayFct) → w ≡ why.Memory → ⊥
not_memory w (inl e) m = cc
not_memory w (inr e) m = cc

pub returns-in-Err-clause-err : goal.returns-in-Err-clause-err
returns-in-Err-clause-err c =
    let old = c.args.reading.now in
    let loop = c.loop-token in
    elim c.match-why.branch [
      | in-Memory w ↦ inl (w.in-Memory.is, rw (w.packets-is) w.clear.ensures.items)
      | in-TooLong w ↦
          elim c.in-Err.ensures.err [
            | inl e ↦ absurd (not_memory c.in-Err.why w.in-TooLong.is e)
            | inr h ↦
                let broken = rw loop.invariant.limit at h.0 in
                inr (rw (w.packets-is, h.1) (token_breaks old.limit (bytes old.passed) c.args.next.now loop.token-index (code.Byte 0) loop.packets.items loop.reading.passed
                c.in-Err.why c.loop-token-test.true loop.invariant.whole broken))
          ]
    ]

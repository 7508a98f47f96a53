use Rattle.std.proofs.Common.{◌≡◌, ◌++◌, take}
use Rattle.vc_tokens.specs.CodeTokens.{tokens}
use Rattle.vc_tokens.specs.Tokens.{bytes, Whole}
use Rattle.vc_tokens.proofs.decoder.read.Given as goal

abbrev pub invariant-loop-token : goal.invariant-loop-token
invariant-loop-token l = record {
  limit : l.reading.limit ≡ l.fn.reading.limit;
  whole : Whole l.fn.reading.limit (bytes l.fn.reading.passed ++ tokens (take l.token-index l.next)) l.packets.items l.reading.passed;
}

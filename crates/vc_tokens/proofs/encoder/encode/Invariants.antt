use Rattle.std.proofs.Common.{◌≡◌, take}
use Rattle.vc_tokens.specs.Tokens.{bytes}
use Rattle.vc_tokens.specs.CodeTokens.{tokens}
use Rattle.vc_tokens.proofs.encoder.encode.Given as goal

abbrev pub invariant-loop-byte : goal.invariant-loop-byte
invariant-loop-byte l = tokens l.spelled.items ≡ bytes (take l.byte-index l.body)

use Rattle.std.proofs.Common.{◌≡◌, ◌<◌, ◌++◌, List, Some, length, slice_get, take}
use Rattle.vc_core.specs.Private.Lines.{with_way}
use Rattle.vc_tokens.specs.Tokens.{Token}
use Rattle.vc_tokens.specs.CodeTokens.{tokens as all_spelt}
use Rattle.vc_core.proofs.lines.Lines.lay.Given as goal

abbrev pub invariant-loop-token : goal.invariant-loop-token
invariant-loop-token l = record {
  within : l.way < length l.self.ways;
  laid : (ts : List Token) → slice_get l.fn.self.ways l.way ≡ Some ts → l.self ≡ with_way l.fn.self l.way (ts ++ all_spelt (take l.token-index l.tokens));
}

use Rattle.std.proofs.Common.{take}
use Rattle.vc_trace.specs.Private.EventText.{words_text}
use Rattle.vc_text.specs.Pieces.{Passes}
use Rattle.vc_trace.proofs.event_text.put_words.Given as goal

abbrev pub invariant-loop-word : goal.invariant-loop-word
invariant-loop-word g l = Passes (g.W.Write.contents l.fn.writer) l.fn.piece.items (g.W.Write.contents l.writer) l.piece.items (words_text (take l.word-index l.words))

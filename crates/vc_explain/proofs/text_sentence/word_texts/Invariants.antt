use Rattle.std.proofs.Common.{◌≡◌, map, take}
use Rattle.vc_reader.specs.Words.{word_text}
use Rattle.vc_explain.proofs.text_sentence.word_texts.Given as goal

abbrev pub invariant-loop-word : goal.invariant-loop-word
invariant-loop-word l = l.texts ≡ map word_text (take l.word-index l.words)

use Rattle.vc_explain.proofs.Texts.{three_more}
use Rattle.vc_explain.specs.Sentences.{missing_text}
use Rattle.vc_explain.proofs.text_sentence.push_missing.Goals as goal

pub returns : goal.returns
unfolding missing_text
returns c = three_more _ _ _ _ _ _ _ c.in_ok-extend_from_slice.ensures.items c.in_ok-push_last_word.ensures c.in_ok-extend_from_slice-2.ensures.items

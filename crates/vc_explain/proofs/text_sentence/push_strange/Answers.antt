use Rattle.vc_explain.proofs.Texts.{three_more}
use Rattle.vc_explain.specs.Sentences.{strange_text}
use Rattle.vc_explain.proofs.text_sentence.push_strange.Goals as goal

pub returns : goal.returns
unfolding strange_text
returns c = three_more _ _ _ _ _ _ _ c.in_ok-extend_from_slice.ensures.items c.in_ok-push_quoted.ensures c.in_ok-extend_from_slice-2.ensures.items

use Rattle.vc_explain.proofs.Texts.{three_more}
use Rattle.vc_explain.specs.Sentences.{too_long}
use Rattle.vc_explain.proofs.text_sentence.push_too_long.Goals as goal

pub returns : goal.returns
unfolding too_long
returns c = three_more _ _ _ _ _ _ _ c.in_ok-extend_from_slice.ensures.items c.in_ok-push_number.ensures.ok c.in_ok-extend_from_slice-2.ensures.items

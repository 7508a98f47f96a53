use Rattle.vc_explain.proofs.Texts.{three_more}
use Rattle.vc_explain.specs.Details.{link_text}
use Rattle.vc_explain.proofs.detail.push_link.Goals as goal

pub returns : goal.returns
unfolding link_text
returns c = three_more _ _ _ _ _ _ _ c.in_ok-extend_from_slice.ensures.items c.in_ok-push_number.ensures.ok c.in_ok-extend_from_slice-2.ensures.items

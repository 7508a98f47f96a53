use Rattle.vc_explain.proofs.Texts.{three_more}
use Rattle.vc_explain.specs.Details.{end_block}
use Rattle.vc_explain.proofs.detail.push_end_block.Goals as goal

pub returns : goal.returns
unfolding end_block
returns c = three_more _ _ _ _ _ _ _ c.in_ok-extend_from_slice.ensures.items c.in_ok-push_number.ensures.ok c.in_ok-extend_from_slice-2.ensures.items

use Rattle.vc_explain.proofs.Texts.{three_more}
use Rattle.vc_explain.specs.Nearest.{asked}
use Rattle.vc_explain.proofs.nearest.push_asked.Goals as goal

pub returns : goal.returns
unfolding asked
returns c = three_more _ _ _ _ _ _ _ c.in_ok-extend_from_slice.ensures.items c.in_ok-push_quoted.ensures c.in_ok-extend_from_slice-2.ensures.items

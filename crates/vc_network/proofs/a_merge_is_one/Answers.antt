-- Two lists in order with the same parts are one list.
use Rattle.vc_network.proofs.OneMerge.{IsMerge-unique}
use Rattle.vc_network.proofs.a_merge_is_one.Goals as goal

pub returns : goal.returns
returns c = λ runs acts others. IsMerge-unique runs acts others

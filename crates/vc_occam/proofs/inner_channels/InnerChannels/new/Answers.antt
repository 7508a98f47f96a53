use Rattle.std.proofs.Common.{◌∙◌, ap, sym}
use Rattle.std.specs.Prelude.{nat_eq}
use Rattle.std.proofs.lemmas.List.Sorted.{IsNonDecreasingBy-from_sort, list_any-IsPermutation}
use mathlib.Core.Path.{fun_ext}
use Rattle.vc_process.specs.Usage.{among}
use Rattle.vc_occam.proofs.inner_channels.InnerChannels.new.Goals as goal

pub invariant_of-result : goal.invariant_of-result
invariant_of-result c = IsNonDecreasingBy-from_sort (λ n. n) c.sort.new.self.items c.in_ok-sort.ensures.sorted

pub returns : goal.returns
returns c =
    sym (fun_ext (λ k. list_any-IsPermutation (λ n. nat_eq n k) _ _ c.in_ok-sort.ensures.permutation)) ∙ ap among c.in_ok-channels.ensures.items

use Rattle.std.proofs.Common.{◌∙◌, ap, rules}
use Rattle.std.proofs.lemmas.Fn.{always_returns_same}
use Rattle.std.proofs.lemmas.List.Sorted.{IsNonDecreasingBy-from_sort_by_key}
use Rattle.vc_occam.specs.First.{meetings}
use Rattle.vc_occam.specs.Private.Receivers.{key}
use Rattle.vc_occam.proofs.ByChannel.{stably_met}
use Rattle.vc_occam.proofs.receivers.by_channel.Goals as goal

pub returns : goal.returns
returns c = record {
  rising = IsNonDecreasingBy-from_sort_by_key key c.sort_by_key.new.self.items c.in_ok-sort_by_key.ensures.sorted (λ a r f k. search rules);
  meets = λ s h. stably_met c.in_ok-found.found.items c.sort_by_key.new.self.items (c.sort_by_key.ensures.stable key (always_returns_same _ _ _ (λ a r f k. search rules))) s h ∙ ap (meetings s h) c.in_ok-found.ensures.items;
}

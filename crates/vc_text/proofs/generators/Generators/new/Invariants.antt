use Rattle.std.proofs.Common.{◌≡◌, ℕ, ◌<◌, length, slice_get, Some}
use Rattle.vc_threads.specs.Runs.{generator}
use Rattle.vc_text.proofs.generators.Generators.new.Given as goal

abbrev pub invariant-loop-actor : goal.invariant-loop-actor
invariant-loop-actor l = record {
  count : length l.words.items ≡ l.actor;
  each : (k : ℕ) → k < l.actor → slice_get l.words.items k ≡ Some (generator 0 k);
}

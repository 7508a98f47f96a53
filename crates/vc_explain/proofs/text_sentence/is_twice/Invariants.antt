use Rattle.std.proofs.Common.{◌≡◌, length}
use Rattle.vc_explain.specs.Sentences.{is_twice}
use Rattle.vc_explain.proofs.text_sentence.is_twice.Given as goal

abbrev pub invariant-loop-name : goal.invariant-loop-name
invariant-loop-name l = is_twice l.text l.names ≡ is_twice l.text l.initial.names

abbrev pub decreases-loop-name : goal.decreases-loop-name
decreases-loop-name l = length l.names

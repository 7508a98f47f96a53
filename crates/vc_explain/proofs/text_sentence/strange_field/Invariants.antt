use Rattle.std.proofs.Common.{◌≡◌}
use Rattle.serde_json.specs.View.{members_view}
use Rattle.vc_explain.specs.Sentences.{strange_field}
use Rattle.vc_explain.proofs.text_sentence.strange_field.Given as goal

abbrev pub invariant-loop-key : goal.invariant-loop-key
invariant-loop-key l = strange_field l.words (members_view l.key-iterator) ≡ strange_field l.words (members_view l.members.entries)

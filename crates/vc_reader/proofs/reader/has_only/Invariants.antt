use Rattle.std.proofs.Common.{◌≡◌}
use Rattle.serde_json.specs.View.{members_view}
use Rattle.vc_reader.specs.Reading.{has_only as has_only_words}
use Rattle.vc_reader.proofs.reader.has_only.Given as goal

abbrev pub invariant-loop-key : goal.invariant-loop-key
invariant-loop-key l = has_only_words l.words (members_view l.key-iterator) ≡ has_only_words l.words (members_view l.members.entries)

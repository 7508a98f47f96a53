-- The traffic of a run, and behind it, where it is asked for, who waits for what.
use Rattle.std.specs.Prelude.{◌≡◌, ℕ, Bool, true, false, List, ◌++◌, map}
use Rattle.vc_text.specs.RunText.{RunText}
use Rattle.vc_text.specs.ChannelStates.{channels_of}
use Rattle.vc_text.specs.Traffic.{traffic}
use Rattle.vc_text.specs.Views.{shown}
use Rattle.vc_text.specs.declared.tail.Tail.{Tail}
use Rattle.vc_waits.specs.Packets.{IsWaitsText}

-- the traffic, with who waits for what and where the packets are, or without
abbrev pub IsTail : (why : Bool) → RunText
IsTail false plan events x close text = text ≡ traffic (channels_of plan x) close
IsTail true plan events x close text =
    (waits : List ℕ) × IsWaitsText plan x waits × (text ≡ traffic (channels_of plan x) close ++ waits)

-- the text that a tail shows: the traffic of its channels, and the lines after it
abbrev pub tail_text : Tail → List ℕ
tail_text tail = traffic (map shown tail.views.items) tail.close ++ tail.after.items

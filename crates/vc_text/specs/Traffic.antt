-- The text of a network's traffic.
use Rattle.std.specs.Prelude.{ℕ, ◌+◌, List, [], ◌∷◌, ◌++◌, length, Bool, codes, decimal}
use Rattle.std.specs.Fmt.{signed_decimal}
use Rattle.std.specs.List.{flat_map}
use Rattle.hex.specs.Hex.{encode_lower}
use Rattle.vc_process.specs.Messages.{number_of}
use Rattle.vc_process.specs.declared.value_kind.ValueKind.{ValueKind}
use Rattle.vc_process.specs.declared.value_kind.ValueKind.TheVariants.{Int, Bytes}
use Rattle.vc_core.specs.declared.close.Close.{Close}
use Rattle.vc_core.specs.declared.close.Close.TheVariants.{Done, Quiet, Limit, GateClosed, ClockFull, Failed}
use Rattle.vc_waits.specs.Waits.{newline, stop_text}

-- what a channel is and has done
pub record ChannelTraffic : Type 0 where
  pub name : List ℕ
  pub kind : ValueKind
  pub offered : ℕ
  pub taken : List (List ℕ)
  pub finished : ℕ
  pub is_stopped : Bool

-- bytes in hexadecimal, and - for none
abbrev pub bytes_text : List ℕ → List ℕ
bytes_text [] = codes "-"
bytes_text (b ∷ bs) = encode_lower (b ∷ bs)

-- an int has eight bytes, the low one first
abbrev pub value_text : ValueKind → List ℕ → List ℕ
value_text Int m = signed_decimal (number_of m)
value_text Bytes m = bytes_text m

abbrev pub message_line : ValueKind → ℕ → List ℕ → List ℕ
message_line kind n m = codes "  " ++ decimal n ++ codes " " ++ value_text kind m ++ newline

abbrev pub message_lines : ValueKind → ℕ → List (List ℕ) → List ℕ
message_lines kind n [] = []
message_lines kind n (m ∷ ms) = message_line kind n m ++ message_lines kind (n + 1) ms

-- how many of its messages were offered, taken and finished, and whether it was stopped
abbrev pub counts_text : ChannelTraffic → List ℕ
counts_text c =
    codes "offered " ++ decimal c.offered ++ codes " taken " ++ decimal (length c.taken) ++ codes " finished " ++ decimal c.finished ++ stop_text c.is_stopped

abbrev pub channel_line : ChannelTraffic → List ℕ
channel_line c = codes "channel " ++ c.name ++ codes " " ++ counts_text c ++ newline

-- a channel's line, and one for each message that was taken
abbrev pub channel_lines : ChannelTraffic → List ℕ
channel_lines c = channel_line c ++ message_lines c.kind 0 c.taken

abbrev pub close_text : Close → List ℕ
close_text Done = codes "end done"
close_text Quiet = codes "end quiet"
close_text Limit = codes "end limit"
close_text GateClosed = codes "end limit"
close_text ClockFull = codes "end limit"
close_text (Failed actor) = codes "end memory"

-- each channel's lines, and how the run ended
abbrev pub traffic : List ChannelTraffic → Close → List ℕ
traffic channels close = flat_map channel_lines channels ++ close_text close ++ newline

-- A run's traffic as JSON.
use Rattle.std.specs.Prelude.{ℕ, ◌==◌, if◌then◌else◌, Bool, List, [], ◌++◌, codes}
use Rattle.std.specs.List.{enumerate_from, flat_map}
use Rattle.hex.specs.Hex.{encode_lower}
use Rattle.vc_core.specs.declared.close.Close.{Close}
use Rattle.vc_core.specs.declared.close.Close.TheVariants.{Done, Quiet, Limit, GateClosed, ClockFull, Failed}
use Rattle.vc_process.specs.declared.value_kind.ValueKind.{ValueKind}
use Rattle.vc_process.specs.declared.value_kind.ValueKind.TheVariants as kind
use Rattle.vc_text.specs.Traffic.{ChannelTraffic, value_text}
use Rattle.vc_waits.specs.Waits.{newline}
use Rattle.vc_stats.specs.Fields.{field_text}
use Rattle.vc_stats.specs.declared.form.Form.TheVariants.{Json}

-- ---- lists and names

-- the comma before each item of a list but the first
abbrev pub comma : ℕ → List ℕ
comma n = if n == 0 then [] else codes ","

-- the n-th item of a list stands on a line of its own
abbrev pub line_start : ℕ → List ℕ
line_start n = comma n ++ newline

-- the n-th item of a list is an object that begins with its name
unfoldable pub named : ℕ → List ℕ → List ℕ
named n name = line_start n ++ codes "{\"name\":\"" ++ name ++ codes "\""

-- ---- the traffic

-- an int is a number, and bytes are a text of hexadecimal digits
abbrev pub value_json : ValueKind → List ℕ → List ℕ
value_json kind.Int m = value_text kind.Int m
value_json kind.Bytes m = codes "\"" ++ encode_lower m ++ codes "\""

-- the n-th message of a channel
abbrev pub message_json : ValueKind → ℕ × List ℕ → List ℕ
message_json kind (n, m) = comma n ++ value_json kind m

-- the word of a kind
abbrev pub kind_word : ValueKind → List ℕ
kind_word kind.Int = codes "int"
kind_word kind.Bytes = codes "bytes"

-- what the messages of a channel are
abbrev pub kind_json : ValueKind → List ℕ
kind_json kind = codes ",\"kind\":\"" ++ kind_word kind ++ codes "\""

-- the messages of a channel that were taken
unfoldable pub messages_json : ValueKind → List (List ℕ) → List ℕ
messages_json kind messages = codes ",\"taken\":[" ++ flat_map (message_json kind) (enumerate_from 0 messages) ++ codes "]"

-- whether a channel was stopped, and the end of its object
abbrev pub stop_json : Bool → List ℕ
stop_json is_stopped = if is_stopped then codes ",\"stopped\":true}" else codes ",\"stopped\":false}"

-- the n-th channel: its name and kind, and how much it did
unfoldable pub channel_json : ℕ × ChannelTraffic → List ℕ
channel_json (n, c) =
    named n c.name ++ kind_json c.kind ++ field_text Json (codes "offered") c.offered ++ messages_json c.kind c.taken
    ++ field_text Json (codes "finished") c.finished ++ stop_json c.is_stopped

-- how a run ended
abbrev pub end_word : Close → List ℕ
end_word Done = codes "done"
end_word Quiet = codes "quiet"
end_word Limit = codes "limit"
end_word GateClosed = codes "limit"
end_word ClockFull = codes "limit"
end_word (Failed actor) = codes "memory"

-- the channels, and how the run ended; the object goes on
unfoldable pub traffic_json : List ChannelTraffic → Close → List ℕ
traffic_json channels close =
    codes "{\"channels\":[" ++ flat_map channel_json (enumerate_from 0 channels)
    ++ codes "],\"end\":\"" ++ end_word close ++ codes "\""

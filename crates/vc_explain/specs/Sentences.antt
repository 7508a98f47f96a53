-- A plain sentence for each refusal, and what to change.
use Rattle.std.specs.Prelude.{ℕ, ◌-◌, nat_lt, Bool, true, false, if◌then◌else◌, List, [], ◌∷◌, ◌++◌, length, map, slice_get, codes, decimal, Option, Some, None}
use Rattle.std.specs.List.{list_any}
use Rattle.std.specs.Str.{bytes_eq}
use Rattle.serde_json.specs.Data.{Data, string, object, Members, no_members, member}
use Rattle.vc_labels.specs.declared.fault.TableFault.{TableFault}
use Rattle.vc_labels.specs.declared.fault.TableFault.TheVariants as table
use Rattle.vc_plan.specs.declared.limit_word.LimitWord.{LimitWord}
use Rattle.vc_plan.specs.declared.limit_word.LimitWord.TheVariants as limit
use Rattle.vc_plan.specs.declared.check_refused.CheckRefused.{CheckRefused}
use Rattle.vc_plan.specs.declared.check_refused.CheckRefused.TheVariants as check
use Rattle.vc_reader.specs.declared.path.Step.{Step}
use Rattle.vc_reader.specs.declared.path.Step.TheVariants.{Field}
use Rattle.vc_reader.specs.declared.word.Word.{Word}
use Rattle.vc_reader.specs.Reading.{is_word}
use Rattle.vc_reader.specs.Words.{word_text}
use Rattle.vc_reader.specs.declared.refused.ReadRefused.{ReadRefused}
use Rattle.vc_reader.specs.declared.refused.ReadRefused.TheVariants as read
use Rattle.vc_explain.specs.DeclaredNames.{declared, slot_of, value_at}
use Rattle.vc_explain.specs.Found.{found_words, quoted}
use Rattle.vc_explain.specs.Nearest.{suggestion}
use Rattle.vc_explain.specs.Slots.{fields, takes}
use Rattle.vc_explain.specs.declared.slot.Slot.{Slot}
use Rattle.vc_explain.specs.declared.slot.Slot.TheVariants as slot

-- what was found, and what the place takes
unfoldable pub taken_text : Slot → List ℕ
taken_text s = codes "The place takes " ++ takes s ++ codes "."

unfoldable pub found_text : Data → List ℕ
found_text d = codes "Found " ++ found_words d ++ codes ". "

abbrev pub found_sentence : Slot → Option Data → List ℕ
found_sentence s None = taken_text s
found_sentence s (Some d) = found_text d ++ taken_text s

abbrev pub is_among : List ℕ → List (List ℕ) → Bool
is_among s names = list_any (bytes_eq s) names

-- the text is among these names more than once
abbrev pub is_twice : List ℕ → List (List ℕ) → Bool
is_twice s [] = false
is_twice s (name ∷ names) = if bytes_eq s name then is_among s names else is_twice s names

unfoldable pub too_long : ℕ → List ℕ
too_long n = codes " has " ++ decimal n ++ codes " characters, and 16 is the most. Write a shorter one."

abbrev pub name_fault : List ℕ → List (List ℕ) → List ℕ
name_fault s names =
    if nat_lt 16 (length s) then too_long (length s) else if is_twice s names then codes " is given already. Write another one."
    else codes " has another form: a name has letters, digits, `_` and `-`, and begins with a letter."

-- a text that is no name, or is given already
unfoldable pub name_sentence : List ℕ → List (List ℕ) → List ℕ
name_sentence s names = codes "The name " ++ quoted s ++ name_fault s names

-- a name is given in the slot
abbrev pub gives_name : Slot → Bool
gives_name slot.SpotName = true
gives_name slot.VariableName = true
gives_name slot.VlinkName = true
gives_name slot.ChannelName = true
gives_name s = false

-- a value of the wrong kind
abbrev pub kind_sentence : Slot → List (List ℕ) → Option Data → List ℕ
kind_sentence s names (Some (string text)) = if gives_name s then name_sentence text names else found_sentence s (Some (string text))
kind_sentence s names found = found_sentence s found

-- what the names of a slot are names of
abbrev pub nobody : Slot → List ℕ
nobody slot.Spot = codes "No node or switch"
nobody slot.SpotOrLink = codes "No node or switch"
nobody slot.Node = codes "No node"
nobody slot.Vlink = codes "No virtual link"
nobody slot.Channel = codes "No channel"
nobody s = codes "No variable of the node"

-- the first field of an object that is none of these
abbrev pub strange_field : List Word → Members → Option (List ℕ)
strange_field ws no_members = None
strange_field ws (member key d ms) = if is_word ws key then strange_field ws ms else Some key

unfoldable pub strange_text : List ℕ → List ℕ
strange_text key = codes "The field " ++ quoted key ++ codes " is not known here."

-- the object's fields do not go together
unfoldable pub mixed_fields : Slot → List ℕ
mixed_fields s = codes "The object has fields that do not go together. The place takes " ++ takes s ++ codes "."

-- an object with such a field, or with fields that do not go together
abbrev pub field_sentence : Slot → Option (List ℕ) → List ℕ
field_sentence s (Some key) = strange_text key ++ suggestion key (map word_text (fields s))
field_sentence slot.SwitchObject None = codes "A file of version 1 has no `random`. Write version 2."
field_sentence s None = mixed_fields s

unfoldable pub nobody_text : Slot → List ℕ → List ℕ
nobody_text s text = nobody s ++ codes " has the name " ++ quoted text ++ codes "."

-- what is not known: a field of an object, or a name
abbrev pub unknown_sentence : Slot → List (List ℕ) → Option Data → List ℕ
unknown_sentence s names (Some (object ms)) = field_sentence s (strange_field (fields s) ms)
unknown_sentence s names (Some (string text)) = nobody_text s text ++ suggestion text names
unknown_sentence s names found = found_sentence s found

-- the field that is missing, with which the path ends
abbrev pub word_of : Option Step → List ℕ
word_of (Some (Field w)) = word_text w
word_of step = []

unfoldable pub missing_text : List Step → List ℕ
missing_text path = codes "The object lacks the field `" ++ word_of (slice_get path (length path - 1)) ++ codes "`, which it must have."

abbrev pub no_json : List ℕ
no_json = codes "The text is no JSON at the place below, or just before it. Look for a comma, a colon, a quote or a bracket that is missing or too many. A text that is empty, begins with a byte order mark, is no UTF-8 or nests more than 127 deep is none, too."

-- a text that is refused, of this value
abbrev pub text_sentence : Data → ReadRefused → List ℕ
text_sentence d read.Json = no_json
text_sentence d (read.Missing path) = missing_text path
text_sentence d (read.Kind path) = kind_sentence (slot_of path d) (declared (slot_of path d) path d) (value_at path d)
text_sentence d (read.Range path) = found_sentence (slot_of path d) (value_at path d)
text_sentence d (read.Unknown path) = unknown_sentence (slot_of path d) (declared (slot_of path d) path d) (value_at path d)
text_sentence d read.Memory = []

-- a limit that is broken
abbrev pub limit_sentence : LimitWord → List ℕ
limit_sentence limit.Version = codes "The version is not 1 or 2, or a network of version 1 has a portal or a random input. Write version 2."
limit_sentence limit.Nodes = codes "The network has more than 32 nodes. Leave some out."
limit_sentence limit.Switches = codes "The network has more than 32 switches. Leave some out."
limit_sentence limit.Wires = codes "The network has more than 256 wires. Leave some out."
limit_sentence limit.Vlinks = codes "The network has more than 256 virtual links. Leave some out."
limit_sentence limit.Channels = codes "The network has more than 512 channels. Leave some out."
limit_sentence limit.Vars = codes "A node has more than 64 variables. Leave some out, or use one for more than one purpose."
limit_sentence limit.Rows = codes "The table of a switch has more than 64 rows. Join rows that lead to the same links."
limit_sentence limit.Route = codes "A route has no header or more than 4. Write 1 to 4 headers."
limit_sentence limit.Link = codes "A link is greater than 3 at a node, or greater than 31 at a switch. Write a link that the place has."
limit_sentence limit.Random = codes "A random input has no value or more than 64, or goes past header 65,535, or its link has another one. Write 1 to 64 values, and each link once."
limit_sentence limit.Depth = codes "Processes nest more than 32 deep, or an expression or a condition more than 8. Write them with less nesting."
limit_sentence limit.Parts = codes "A node has more than 4,096 processes. Write fewer, with a loop where the same is done again."
limit_sentence limit.Message = codes "A message is longer than 65,535 bytes. Write a shorter one, or send it as more than one."
limit_sentence limit.Number = codes "A number names nothing that is there, or a variable is not of the kind that its place wants. Write the number of one that is there."
limit_sentence limit.Name = codes "A name is not of 1 to 16 letters, digits, _ and -, the first a letter. Write one that is."

-- a table that is none
abbrev pub table_sentence : TableFault → List ℕ
table_sentence table.NotRising = codes "A row of the table has no header in it, or goes past header 65,535, or begins before the limit of the row before it. Let each row begin where the row before it has its limit."
table_sentence table.Gap = codes "A row of the table begins after the limit of the row before it. Let each row begin where the row before it has its limit."
table_sentence table.BadLink = codes "A row of the table leads to a link that is on no wire, or from a link to a lesser one. Write links that have wires, or add the wires."

-- a plan that is refused
abbrev pub plan_sentence : CheckRefused → List ℕ
plan_sentence (check.Limit word) = limit_sentence word
plan_sentence (check.PortTwice port) = codes "A link is at two ends of wires. Let each link be at one end of one wire, and use another link."
plan_sentence (check.PortMissing port) = codes "A virtual link sends by a link that is on no wire. Add a wire to this link, or send by another link."
plan_sentence (check.BlockTwice node block) = codes "Two ends of virtual links have the same block number at one node. Give each end at the node a block number of its own."
plan_sentence (check.Table switch fault) = table_sentence fault
plan_sentence (check.NoInterval path) = codes "A packet comes to a switch with a front header that is in no row of its table. Add a row for the header, or write another route."
plan_sentence (check.WrongEnd path) = codes "A packet comes to another node than the other end of its virtual link, or not with the block number of that end alone. Change the route, a table, a wire or a list `delete`."
plan_sentence (check.StackEmpty path) = codes "A packet has no header left where one is needed. Write one more header in the route, or delete fewer on the way."
plan_sentence (check.StackFull path) = codes "A random header would be the seventh of a packet. Delete headers on the way, or let fewer inputs put random ones."
plan_sentence (check.Hops path) = codes "A packet can go through more than 32 switches. Change the tables that send it round, or shorten the way."
plan_sentence (check.SameNode vlink) = codes "Both ends of a virtual link are on one node. Move one end to another node, or put its channels inside the node."
plan_sentence (check.Channel channel) = codes "The channel is on a way that another channel has already, or a process uses it at the wrong end or with the wrong kind. Give it a way of its own, or correct its use."
plan_sentence (check.Usage node name) = codes "The process uses a channel or a variable in parallel as occam does not allow, or changes the index of a replicated SEQ. Let one part of a PAR use it, or use another one."
plan_sentence check.Memory = []

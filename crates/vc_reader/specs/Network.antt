-- What the parts of a network's value mean, each or its first fault.
use Rattle.std.specs.Prelude.{ℕ, min, List, [], ◌∷◌, Bool, true, false, ◌&&◌, ◌||◌, ◌==◌, if◌then◌else◌, codes, Option, option_map, Result, Ok, ⊤}
use Rattle.std.specs.Str.{bytes_eq}
use Rattle.std.specs.Option.{option_or}
use Rattle.serde_json.specs.Data.{Data}
use Rattle.vc_process.specs.declared.value_kind.ValueKind.{ValueKind}
use Rattle.vc_process.specs.declared.value_kind.ValueKind.TheVariants.{Int, Bytes}
use Rattle.vc_labels.specs.declared.action.Action.TheVariants.{Out, Portal}
use Rattle.vc_labels.specs.declared.row.Row.{Row}
use Rattle.vc_plan.specs.declared.node_plan.Variable.{Variable}
use Rattle.vc_plan.specs.declared.switch_plan.SwitchPlan.{SwitchPlan}
use Rattle.vc_plan.specs.declared.switch_plan.RandomInput.{RandomInput}
use Rattle.vc_plan.specs.declared.port.Spot.{Spot}
use Rattle.vc_plan.specs.declared.port.Spot.TheVariants.{Node, Switch}
use Rattle.vc_plan.specs.declared.port.Wire.{Wire}
use Rattle.vc_plan.specs.declared.vlink.End.{End}
use Rattle.vc_plan.specs.declared.vlink.Vlink.{Vlink}
use Rattle.vc_plan.specs.declared.channel.Home.{Home}
use Rattle.vc_plan.specs.declared.channel.Home.TheVariants.{Way, Inside}
use Rattle.vc_plan.specs.declared.channel.Channel.{Channel}
use Rattle.vc_reader.specs.declared.word.Word.{Word}
use Rattle.vc_reader.specs.declared.word.Word.TheVariants as word
use Rattle.vc_reader.specs.declared.fault.Why.TheVariants as why
use Rattle.vc_reader.specs.declared.fault.Fault.{Fault}
use Rattle.vc_reader.specs.declared.node.Head.{Head}
use Rattle.vc_reader.specs.Reading.{◌>>=◌, wrong, field, cell, read_list, list_field, items_in, row, read_object, has_field, read_text, read_number}
use Rattle.vc_reader.specs.Names.{new_name, has_name, found_of, known_or_not, one_of}

-- a number past a type's greatest stands as that greatest
abbrev pub at_most : {A : Type 0} → ℕ → ℕ × A → ℕ
at_most most found = min found.0 most

abbrev pub read_kind : Data → Result ValueKind Fault
read_kind d = read_text d >>= λ s. if bytes_eq s (codes "int") then Ok Int else (if bytes_eq s (codes "bytes") then Ok Bytes else wrong why.Kind)

-- whether the way is from end a
abbrev pub read_way : Data → Result Bool Fault
read_way d = read_text d >>= λ s. if bytes_eq s (codes "ab") then Ok true else (if bytes_eq s (codes "ba") then Ok false else wrong why.Kind)

abbrev pub read_link : Data → Result ℕ Fault
read_link = read_number 0 31

abbrev pub read_header : Data → Result ℕ Fault
read_header = read_number 0 65535

-- the limit of an interval
abbrev pub read_limit : Data → Result ℕ Fault
read_limit = read_number 0 65536

-- ---- nodes

abbrev pub read_var : List Variable → Data → Result Variable Fault
read_var before d = do
  _ ← row 2 d
  name ← cell 0 (new_name (has_name (λ v. v.name) before)) d
  kind ← cell 1 read_kind d
  Ok (record { name = name; kind = kind })

-- a node's name and variables
abbrev pub read_head : List Head → Data → Result Head Fault
read_head before d = do
  _ ← read_object (word.Name ∷ word.Vars ∷ word.Process ∷ []) d
  name ← field word.Name (new_name (has_name (λ h. h.name) before)) d
  vars ← list_field word.Vars read_var d
  Ok (record { name = name; vars = vars })

abbrev pub read_node : List Head → Data → Result ℕ Fault
read_node heads d = one_of (λ h. h.name) heads d >>= λ found. Ok (at_most 255 found)

-- ---- switches

abbrev pub portal_word : Data → Result ⊤ Fault
portal_word d = read_text d >>= λ s. if bytes_eq s (codes "portal") then Ok tt else wrong why.Kind

abbrev pub portal_row : Data → Result Row Fault
portal_row d = do
  lower ← cell 0 read_header d
  limit ← cell 1 read_limit d
  _ ← cell 2 portal_word d
  Ok (record { lower = lower; limit = limit; action = Portal })

abbrev pub out_row : Data → Result Row Fault
out_row d = do
  _ ← row 4 d
  lower ← cell 0 read_header d
  limit ← cell 1 read_limit d
  first ← cell 2 read_link d
  last ← cell 3 read_link d
  Ok (record { lower = lower; limit = limit; action = Out first last })

-- a row of a table; in version 2 one of three items is a portal
abbrev pub table_row : ℕ → Data → Result Row Fault
table_row version d = if (version == 2) && (items_in d == 3) then portal_row d else out_row d

abbrev pub read_random : Data → Result RandomInput Fault
read_random d = do
  _ ← row 3 d
  link ← cell 0 read_link d
  lower ← cell 1 read_header d
  limit ← cell 2 read_limit d
  Ok (record { link = link; lower = lower; limit = limit })

abbrev pub switch_words : ℕ → List Word
switch_words version = if version == 2 then word.Name ∷ word.Table ∷ word.Delete ∷ word.Random ∷ [] else word.Name ∷ word.Table ∷ word.Delete ∷ []

-- nodes and switches share their names
abbrev pub is_place : List Head → List SwitchPlan → List ℕ → Bool
is_place heads switches s = has_name (λ h. h.name) heads s || has_name (λ w. w.name) switches s

abbrev pub read_switch : ℕ → List Head → List SwitchPlan → Data → Result SwitchPlan Fault
read_switch version heads before d = do
  _ ← read_object (switch_words version) d
  name ← field word.Name (new_name (is_place heads before)) d
  rows ← field word.Table (read_list (λ _. table_row version)) d
  delete ← list_field word.Delete (λ _. read_link) d
  random ← list_field word.Random (λ _. read_random) d
  Ok (record { name = name; rows = rows; delete = delete; random = random })

-- ---- wires

-- the node, or else the switch, that has the name
abbrev pub place_named : List Head → List SwitchPlan → List ℕ → Option Spot
place_named heads switches s =
    option_or (option_map (λ found. Node (at_most 255 found)) (found_of (λ h. h.name) heads s))
    (option_map (λ found. Switch (at_most 255 found)) (found_of (λ w. w.name) switches s))

abbrev pub read_place : List Head → List SwitchPlan → Data → Result Spot Fault
read_place heads switches d = read_text d >>= λ s. known_or_not (place_named heads switches s)

abbrev pub read_wire : List Head → List SwitchPlan → Data → Result Wire Fault
read_wire heads switches d = do
  _ ← row 4 d
  a ← cell 0 (read_place heads switches) d
  m ← cell 1 read_link d
  b ← cell 2 (read_place heads switches) d
  n ← cell 3 read_link d
  Ok (record { one = record { spot = a; link = m }; two = record { spot = b; link = n } })

-- ---- virtual links

abbrev pub read_end : List Head → Data → Result End Fault
read_end heads d = do
  _ ← row 4 d
  node ← cell 0 (read_node heads) d
  link ← cell 1 read_link d
  block ← cell 2 read_header d
  route ← cell 3 (read_list (λ _. read_header)) d
  Ok (record { node = node; link = link; block = block; route = route })

abbrev pub read_vlink : List Head → List Vlink → Data → Result Vlink Fault
read_vlink heads before d = do
  _ ← read_object (word.Name ∷ word.A ∷ word.B ∷ []) d
  name ← field word.Name (new_name (has_name (λ v. v.name) before)) d
  a ← field word.A (read_end heads) d
  b ← field word.B (read_end heads) d
  Ok (record { name = name; a = a; b = b })

-- ---- channels

abbrev pub vlink_number : List Vlink → Data → Result ℕ Fault
vlink_number vlinks d = one_of (λ v. v.name) vlinks d >>= λ found. Ok (at_most 65535 found)

abbrev pub way_home : List Vlink → Data → Result Home Fault
way_home vlinks d = do
  vlink ← field word.Vlink (vlink_number vlinks) d
  from_a ← field word.Way read_way d
  Ok (Way vlink from_a)

abbrev pub node_home : List Head → Data → Result Home Fault
node_home heads d = do
  node ← field word.Node (read_node heads) d
  Ok (Inside node)

-- a channel that names a node is inside it
abbrev pub channel_words : Data → List Word
channel_words d = if has_field word.Node d then word.Name ∷ word.Kind ∷ word.Node ∷ [] else word.Name ∷ word.Kind ∷ word.Vlink ∷ word.Way ∷ []

abbrev pub read_home : List Head → List Vlink → Data → Result Home Fault
read_home heads vlinks d = if has_field word.Node d then node_home heads d else way_home vlinks d

abbrev pub read_channel : List Head → List Vlink → List Channel → Data → Result Channel Fault
read_channel heads vlinks before d = do
  _ ← read_object (channel_words d) d
  name ← field word.Name (new_name (has_name (λ c. c.name) before)) d
  kind ← field word.Kind read_kind d
  home ← read_home heads vlinks d
  Ok (record { name = name; kind = kind; home = home })

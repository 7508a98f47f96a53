-- The names that a file declares, as its JSON value has them.
use Rattle.std.specs.Prelude.{ℕ, ◌-◌, if◌then◌else◌, List, [], ◌∷◌, ◌++◌, length, take, slice_get, Bool, false, Option, Some, None, option_and_then, option_to_list, codes}
use Rattle.std.specs.List.{flat_map}
use Rattle.std.specs.Option.{option_or}
use Rattle.std.specs.Str.{bytes_eq}
use Rattle.serde_json.specs.Data.{Data, string, array, Items, no_items, item}
use Rattle.serde_json.specs.Find.{at, get}
use Rattle.vc_reader.specs.Faulty.{part_at}
use Rattle.vc_reader.specs.Words.{word_text}
use Rattle.vc_reader.specs.declared.path.Step.{Step}
use Rattle.vc_reader.specs.declared.path.Step.TheVariants.{Field, Index}
use Rattle.vc_reader.specs.declared.word.Word.{Word}
use Rattle.vc_reader.specs.declared.word.Word.TheVariants as word
use Rattle.vc_explain.specs.Slots.{is_value, slot_at}
use Rattle.vc_explain.specs.declared.slot.Slot.{Slot}
use Rattle.vc_explain.specs.declared.slot.Slot.TheVariants as slot

abbrev pub list_of : Items → List Data
list_of no_items = []
list_of (item d ds) = d ∷ list_of ds

-- the values of a list, or none
abbrev pub values : Option Data → List Data
values (Some (array ds)) = list_of ds
values other = []

abbrev pub field_values : Word → Data → List Data
field_values w d = values (get (word_text w) d)

-- the text, if it is one
abbrev pub text_of : Option Data → Option (List ℕ)
text_of (Some (string s)) = Some s
text_of other = None

-- the name of a thing: in the short form the text alone, else its field `name`
abbrev pub name_of : Data → Option (List ℕ)
name_of d = option_or (text_of (Some d)) (text_of (get (word_text word.Name) d))

-- a variable is a list that begins with its name
abbrev pub variable_of : Data → Option (List ℕ)
variable_of d = text_of (at 0 d)

-- the names of the things in a list of the file
abbrev pub names : Word → Data → List (List ℕ)
names w d = flat_map (λ thing. option_to_list (name_of thing)) (field_values w d)

-- the node into which a path leads, and its variables
abbrev pub node_of : List Step → Data → Option Data
node_of (Field w ∷ Index n ∷ path) d = option_and_then (at n) (get (word_text w) d)
node_of other d = None

abbrev pub variables_in : Option Data → List Data
variables_in None = []
variables_in (Some node) = field_values word.Vars node

abbrev pub variables : List Step → Data → List (List ℕ)
variables path d = flat_map (λ thing. option_to_list (variable_of thing)) (variables_in (node_of path d))

-- the value to which a path leads
abbrev pub value_at : List Step → Data → Option Data
value_at [] d = Some d
value_at (s ∷ path) d = option_and_then (value_at path) (part_at s d)

abbrev pub is_called : List ℕ → Option (List ℕ) → Bool
is_called s None = false
is_called s (Some name) = bytes_eq s name

-- the kind with which a channel of this name is declared, or a variable
abbrev pub channel_kind : List ℕ → List Data → Option (List ℕ)
channel_kind s [] = None
channel_kind s (d ∷ ds) = if is_called s (name_of d) then text_of (get (word_text word.Kind) d) else channel_kind s ds

abbrev pub variable_kind : List ℕ → List Data → Option (List ℕ)
variable_kind s [] = None
variable_kind s (d ∷ ds) = if is_called s (variable_of d) then text_of (at 1 d) else variable_kind s ds

-- what a value is for: the text at the head of its list
abbrev pub target : List Step → Data → Option (List ℕ)
target path d = text_of (value_at (take (length path - 1) path ++ Index 0 ∷ []) d)

-- the kind of that: of a channel that is output on, or of a variable that is assigned
abbrev pub kind_by : Option Step → List ℕ → List Step → Data → Option (List ℕ)
kind_by (Some (Field word.Out)) s path d = channel_kind s (field_values word.Channels d)
kind_by (Some (Field word.Set)) s path d = variable_kind s (variables_in (node_of path d))
kind_by other s path d = None

abbrev pub kind_of_value : List Step → Data → Option (List ℕ)
kind_of_value path d = option_and_then (λ s. kind_by (slice_get path (length path - 2)) s path d) (target path d)

-- a value for an int is an expression
abbrev pub slot_for : Option (List ℕ) → Slot
slot_for None = slot.Value
slot_for (Some kind) = if bytes_eq kind (codes "int") then slot.Expression else if bytes_eq kind (codes "bytes") then slot.BytesValue else slot.Value

-- the slot to which a path leads in this file
abbrev pub slot_of : List Step → Data → Slot
slot_of path d = if is_value (slot_at path) then slot_for (kind_of_value path d) else slot_at path

-- the names that may be written in a slot
abbrev pub declared : Slot → List Step → Data → List (List ℕ)
declared slot.Spot path d = names word.Nodes d ++ names word.Switches d
declared slot.SpotOrLink path d = names word.Nodes d ++ names word.Switches d
declared slot.SpotName path d = names word.Nodes d ++ names word.Switches d
declared slot.Node path d = names word.Nodes d
declared slot.Vlink path d = names word.Vlinks d
declared slot.VlinkName path d = names word.Vlinks d
declared slot.Channel path d = names word.Channels d
declared slot.ChannelName path d = names word.Channels d
declared slot.Variable path d = variables path d
declared slot.VariableName path d = variables path d
declared slot.Expression path d = variables path d
declared slot.Operand path d = variables path d
declared slot.Value path d = variables path d
declared slot.BytesValue path d = variables path d
declared slot.Condition path d = variables path d
declared s path d = []

-- The slots of a network file: what may be written at each place, by the steps that lead to it.
use Rattle.std.specs.Prelude.{ℕ, Bool, true, false, List, [], ◌∷◌, codes, get_or}
use Rattle.vc_reader.specs.declared.path.Step.{Step}
use Rattle.vc_reader.specs.declared.path.Step.TheVariants.{Field, Index}
use Rattle.vc_reader.specs.declared.word.Word.{Word}
use Rattle.vc_reader.specs.declared.word.Word.TheVariants as word
use Rattle.vc_explain.specs.declared.slot.Slot.{Slot}
use Rattle.vc_explain.specs.declared.slot.Slot.TheVariants as slot

-- the field of the file, of a node, a switch, a virtual link or a channel
abbrev pub of_file : Word → Slot
of_file word.Version = slot.Version
of_file word.Nodes = slot.Nodes
of_file word.Switches = slot.Switches
of_file word.Wires = slot.Wires
of_file word.Vlinks = slot.Vlinks
of_file word.Channels = slot.Channels
of_file other = slot.Other

abbrev pub of_node : Word → Slot
of_node word.Name = slot.SpotName
of_node word.Vars = slot.Variables
of_node word.Process = slot.Process
of_node other = slot.Other

abbrev pub of_switch : Word → Slot
of_switch word.Name = slot.SpotName
of_switch word.Table = slot.Table
of_switch word.Delete = slot.Links
of_switch word.Random = slot.Ranges
of_switch other = slot.Other

abbrev pub of_vlink : Word → Slot
of_vlink word.Name = slot.VlinkName
of_vlink word.A = slot.End
of_vlink word.B = slot.End
of_vlink other = slot.Other

abbrev pub of_channel : Word → Slot
of_channel word.Name = slot.ChannelName
of_channel word.Kind = slot.Kind
of_channel word.Vlink = slot.Vlink
of_channel word.Way = slot.Way
of_channel word.Node = slot.Node
of_channel word.From = slot.Node
of_channel word.To = slot.Node
of_channel other = slot.Other

-- the word of a process, and what follows it
abbrev pub of_process : Word → Slot
of_process word.Set = slot.Assignment
of_process word.Out = slot.Output
of_process word.In = slot.Input
of_process word.Stopch = slot.Channel
of_process word.Seq = slot.Parts
of_process word.Par = slot.Parts
of_process word.If = slot.Branches
of_process word.While = slot.Loop
of_process word.For = slot.Replication
of_process word.Alt = slot.Guards
of_process other = slot.Other

abbrev pub of_value : Word → Slot
of_value word.Hex = slot.Digits
of_value word.Text = slot.Characters
of_value word.Fill = slot.Filling
of_value other = slot.Other

-- a field of an object
abbrev pub in_field : Slot → Word → Slot
in_field slot.File w = of_file w
in_field slot.NodeObject w = of_node w
in_field slot.SwitchObject w = of_switch w
in_field slot.VlinkObject w = of_vlink w
in_field slot.ChannelObject w = of_channel w
in_field slot.Process w = of_process w
in_field slot.Value w = of_value w
in_field s w = slot.Other

-- a place of a list whose places take these
abbrev pub place : List Slot → ℕ → Slot
place slots n = get_or slots n slot.Other

-- an item of a list
abbrev pub in_item : Slot → ℕ → Slot
in_item slot.Nodes n = slot.NodeObject
in_item slot.Variables n = slot.Declaration
in_item slot.Declaration n = place (slot.VariableName ∷ slot.Kind ∷ []) n
in_item slot.Switches n = slot.SwitchObject
in_item slot.Table n = slot.Row
in_item slot.Row n = place (slot.Header ∷ slot.Limit ∷ slot.Link ∷ slot.Link ∷ []) n
in_item slot.Links n = slot.Link
in_item slot.Ranges n = slot.Range
in_item slot.Range n = place (slot.Link ∷ slot.Header ∷ slot.Limit ∷ []) n
in_item slot.Wires n = slot.Wire
in_item slot.Wire n = place (slot.Spot ∷ slot.SpotOrLink ∷ slot.SpotOrLink ∷ slot.Link ∷ []) n
in_item slot.Vlinks n = slot.VlinkObject
in_item slot.End n = place (slot.Node ∷ slot.Link ∷ slot.Header ∷ slot.Route ∷ []) n
in_item slot.Route n = slot.Header
in_item slot.Channels n = slot.ChannelObject
in_item slot.Assignment n = place (slot.Variable ∷ slot.Value ∷ []) n
in_item slot.Output n = place (slot.Channel ∷ slot.Value ∷ []) n
in_item slot.Input n = place (slot.Channel ∷ slot.Variable ∷ []) n
in_item slot.Parts n = slot.Process
in_item slot.Branches n = slot.Branch
in_item slot.Branch n = place (slot.Condition ∷ slot.Process ∷ []) n
in_item slot.Loop n = place (slot.Condition ∷ slot.Process ∷ []) n
in_item slot.Replication n = place (slot.Variable ∷ slot.Expression ∷ slot.Expression ∷ slot.Process ∷ []) n
in_item slot.Guards n = slot.Guard
in_item slot.Guard n = place (slot.Condition ∷ slot.Channel ∷ slot.Variable ∷ slot.Process ∷ []) n
in_item slot.Condition n = slot.Operand
in_item slot.Operand n = slot.Operand
in_item slot.Expression n = slot.Expression
in_item slot.Value n = slot.Expression
in_item slot.Filling n = place (slot.Byte ∷ slot.Count ∷ []) n
in_item s n = slot.Other

abbrev pub after : Slot → Step → Slot
after s (Field w) = in_field s w
after s (Index n) = in_item s n

abbrev pub further : Slot → List Step → Slot
further s [] = s
further s (step ∷ path) = further (after s step) path

-- the slot to which a path leads from the top of the file
abbrev pub slot_at : List Step → Slot
slot_at path = further slot.File path

-- the slot takes a value of either kind
abbrev pub is_value : Slot → Bool
is_value slot.Value = true
is_value s = false

-- what a slot takes
abbrev pub takes : Slot → List ℕ
takes slot.File = codes "an object with the fields `version` and `nodes`, and others if they are needed"
takes slot.Version = codes "the number 1 or 2"
takes slot.Nodes = codes "a list of nodes"
takes slot.NodeObject = codes "an object with the fields `name` and `process`, and `vars` if the node has variables"
takes slot.SpotName = codes "a name that no other node or switch has, of 1 to 16 letters, digits, `_` or `-`, the first a letter"
takes slot.Variables = codes "a list of variables, each `[NAME, \"int\"]` or `[NAME, \"bytes\"]`"
takes slot.Declaration = codes "`[NAME, \"int\"]` or `[NAME, \"bytes\"]`"
takes slot.VariableName = codes "a name that no other variable of the node has, of 1 to 16 letters, digits, `_` or `-`, the first a letter"
takes slot.Kind = codes "`int` or `bytes`"
takes slot.Switches = codes "a list of switches"
takes slot.SwitchObject = codes "an object with the fields `name` and `table`, and `delete` and `random` if they are needed"
takes slot.Table = codes "a list of rows, each `[LOWER, LIMIT, FIRST, LAST]`"
takes slot.Row = codes "`[LOWER, LIMIT, FIRST, LAST]`, or in version 2 `[LOWER, LIMIT, \"portal\"]`"
takes slot.Header = codes "a number from 0 to 65535"
takes slot.Limit = codes "a number from 0 to 65536"
takes slot.Link = codes "the number of a link, from 0 to 31"
takes slot.Links = codes "a list of the numbers of links"
takes slot.Ranges = codes "a list of ranges, each `[LINK, LOWER, LIMIT]`"
takes slot.Range = codes "`[LINK, LOWER, LIMIT]`"
takes slot.Wires = codes "a list of wires"
takes slot.Wire = codes "`[PLACE, LINK, PLACE, LINK]`, or in the short form `[PLACE, PLACE]` or `[PLACE, PLACE, COUNT]`"
takes slot.Spot = codes "the name of a node or a switch"
takes slot.SpotOrLink = codes "the number of a link, from 0 to 31, or the name of a node or a switch, as the form of the wire wants"
takes slot.Vlinks = codes "a list of virtual links"
takes slot.VlinkObject = codes "an object with the fields `name`, `a` and `b`"
takes slot.VlinkName = codes "a name that no other virtual link has, of 1 to 16 letters, digits, `_` or `-`, the first a letter"
takes slot.End = codes "`[NODE, LINK, BLOCK, [HEADER, ..]]`"
takes slot.Node = codes "the name of a node"
takes slot.Route = codes "a list of 1 to 4 headers"
takes slot.Channels = codes "a list of channels"
takes slot.ChannelObject = codes "an object with the fields `name`, `kind`, `vlink` and `way`, or `name`, `kind` and `node` if the channel is inside a node"
takes slot.ChannelName = codes "a name that no other channel has, of 1 to 16 letters, digits, `_` or `-`, the first a letter"
takes slot.Vlink = codes "the name of a virtual link"
takes slot.Way = codes "`ab` or `ba`"
takes slot.Process = codes "`skip`, `stop`, or an object with one of the fields `set`, `out`, `in`, `stopch`, `seq`, `par`, `if`, `while`, `for`, `alt`"
takes slot.Assignment = codes "`[VARIABLE, VALUE]`"
takes slot.Output = codes "`[CHANNEL, VALUE]`"
takes slot.Input = codes "`[CHANNEL, VARIABLE]`"
takes slot.Channel = codes "the name of a channel"
takes slot.Variable = codes "the name of a variable, of the kind of the channel if a message comes into it, and else of kind `int` if it is an index"
takes slot.Parts = codes "a list of processes"
takes slot.Branches = codes "a list of branches, each `[CONDITION, PROCESS]`"
takes slot.Branch = codes "`[CONDITION, PROCESS]`"
takes slot.Loop = codes "`[CONDITION, PROCESS]`"
takes slot.Replication = codes "`[VARIABLE, BASE, COUNT, PROCESS]`"
takes slot.Guards = codes "a list of guards, each `[CONDITION, CHANNEL, VARIABLE, PROCESS]`"
takes slot.Guard = codes "`[CONDITION, CHANNEL, VARIABLE, PROCESS]`"
takes slot.Condition = codes "`true`, `false`, a comparison such as `[\"<\", \"x\", 3]`, or `[\"and\", C, C]`, `[\"or\", C, C]` or `[\"not\", C]`"
takes slot.Operand = codes "a condition or an expression, as the word in front of it wants"
takes slot.Expression = codes "a whole number, the name of an int variable, an operation such as `[\"+\", \"x\", 1]`, or `[\"size\", VARIABLE]`"
takes slot.Value = codes "a whole number, a variable or an operation such as `[\"+\", \"x\", 1]` if it is for an int, and a variable, `{\"text\":..}`, `{\"hex\":..}` or `{\"fill\":[BYTE, COUNT]}` if it is for bytes"
takes slot.BytesValue = codes "a bytes variable, `{\"text\":..}`, `{\"hex\":..}` or `{\"fill\":[BYTE, COUNT]}`"
takes slot.Digits = codes "pairs of the digits 0 to 9 and a to f, for at most 65535 bytes"
takes slot.Characters = codes "a text of at most 65535 bytes"
takes slot.Filling = codes "`[BYTE, COUNT]`"
takes slot.Byte = codes "a number from 0 to 255"
takes slot.Count = codes "a number from 0 to 65535"
takes slot.Other = codes "another value"

-- the fields that an object of a slot may have
abbrev pub fields : Slot → List Word
fields slot.File = word.Version ∷ word.Nodes ∷ word.Switches ∷ word.Wires ∷ word.Vlinks ∷ word.Channels ∷ []
fields slot.NodeObject = word.Name ∷ word.Vars ∷ word.Process ∷ []
fields slot.SwitchObject = word.Name ∷ word.Table ∷ word.Delete ∷ word.Random ∷ []
fields slot.VlinkObject = word.Name ∷ word.A ∷ word.B ∷ []
fields slot.ChannelObject = word.Name ∷ word.Kind ∷ word.Vlink ∷ word.Way ∷ word.Node ∷ word.From ∷ word.To ∷ []
fields slot.Process =
    word.Set ∷ word.Out ∷ word.In ∷ word.Stopch ∷ word.Seq ∷ word.Par ∷ word.If ∷ word.While ∷ word.For ∷ word.Alt ∷ []
fields slot.Value = word.Hex ∷ word.Text ∷ word.Fill ∷ []
fields slot.BytesValue = word.Hex ∷ word.Text ∷ word.Fill ∷ []
fields s = []

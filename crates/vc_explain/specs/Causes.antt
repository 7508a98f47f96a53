-- A plain sentence for a network that can't be labelled, and what to change.
use Rattle.std.specs.Prelude.{ℕ, List, [], ◌++◌, codes}
use Rattle.vc_label_text.specs.declared.cause.ChannelEnd.TheVariants.{Outputs, Inputs}
use Rattle.vc_label_text.specs.declared.cause.LabelCause.{LabelCause}
use Rattle.vc_label_text.specs.declared.cause.LabelCause.TheVariants.{Links, NoPath, NoEnd, TwoEnds, NoKind, Unlabelled}

-- how the sentence begins
abbrev pub opening : LabelCause → List ℕ
opening (Links place) = codes "More wires lead to "
opening (NoPath channel from to) = codes "The channel "
opening (NoEnd channel Outputs) = codes "No process outputs on the channel "
opening (NoEnd channel Inputs) = codes "No process inputs on the channel "
opening (TwoEnds channel one other) = codes "The nodes "
opening (NoKind channel) = codes "No process shows of which kind the channel "
opening Unlabelled = codes "What was made is no labelling of the network"

-- two names, by a word between them
abbrev pub two_names : List ℕ → List ℕ → List ℕ
two_names one other = one ++ codes " and " ++ other

-- what it names
abbrev pub named : LabelCause → List ℕ
named (Links place) = place
named (NoPath channel from to) = channel ++ codes " needs a way between the nodes " ++ two_names from to
named (NoEnd channel end) = channel
named (TwoEnds channel one other) = two_names one other ++ codes " both output on the channel " ++ channel
named (NoKind channel) = channel
named Unlabelled = []

-- how it goes on, and what to change
abbrev pub advice : LabelCause → List ℕ
advice (Links place) = codes " than it has links: a node has 4, and a switch has 32. Leave out wires, or lead them to another switch."
advice (NoPath channel from to) = codes ", but no wire joins them, and no switches do. Add a wire between the two, or wires that join their switches."
advice (NoEnd channel Outputs) =
    codes ", and the file gives no `from` for it. Output on it in the process of a node, correct its spelling, or write `from` with the name of a node."
advice (NoEnd channel Inputs) =
    codes ", and the file gives no `to` for it. Input on it in the process of a node, correct its spelling, or write `to` with the name of a node."
advice (TwoEnds channel one other) =
    codes ", or both input. A channel has one node that outputs, and one that inputs. Use another channel in one of the two."
advice (NoKind channel) = codes " is. Write its `kind`, `int` or `bytes`, or leave the channel out."
advice Unlabelled = codes ", or has a circle of dependencies. Write the virtual links and the tables into the file."

abbrev pub cause_sentence : LabelCause → List ℕ
cause_sentence cause = opening cause ++ named cause ++ advice cause

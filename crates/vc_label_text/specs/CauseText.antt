-- The line of what is wrong with a network that is to be labelled.
use Rattle.std.specs.Prelude.{ℕ, List, [], ◌∷◌, ◌++◌, codes}
use Rattle.vc_label_text.specs.declared.cause.ChannelEnd.{ChannelEnd}
use Rattle.vc_label_text.specs.declared.cause.ChannelEnd.TheVariants.{Outputs, Inputs}
use Rattle.vc_label_text.specs.declared.cause.LabelCause.{LabelCause}
use Rattle.vc_label_text.specs.declared.cause.LabelCause.TheVariants.{Links, NoPath, NoEnd, TwoEnds, NoKind, Unlabelled}

-- a space and a name
abbrev pub name_text : List ℕ → List ℕ
name_text name = codes " " ++ name

-- a channel and two nodes
abbrev pub three_text : List ℕ → List ℕ → List ℕ → List ℕ
three_text channel one other = name_text channel ++ name_text one ++ name_text other

abbrev pub end_text : ChannelEnd → List ℕ
end_text Outputs = codes " outputs"
end_text Inputs = codes " inputs"

abbrev pub cause_words : LabelCause → List ℕ
cause_words (Links place) = codes "refused 30 Links" ++ name_text place
cause_words (NoPath channel from to) = codes "refused 31 NoPath" ++ three_text channel from to
cause_words (NoEnd channel end) = codes "refused 32 NoEnd" ++ name_text channel ++ end_text end
cause_words (TwoEnds channel one other) = codes "refused 33 TwoEnds" ++ three_text channel one other
cause_words (NoKind channel) = codes "refused 34 NoKind" ++ name_text channel
cause_words Unlabelled = codes "refused 35 Unlabelled"

abbrev pub cause_text : LabelCause → List ℕ
cause_text cause = cause_words cause ++ 10 ∷ []

-- What a text is that was made of a network file without labelling.
use Rattle.std.specs.Prelude.{◌≡◌, ℕ, ◌≤◌, List, [], ◌∷◌, length, take, drop, true, false, ◌⊎◌, All, IfSome, Some, Ok, Err, ⊤}
use Rattle.serde_json.specs.Data.{Data}
use Rattle.serde_json.specs.Find.{get}
use Rattle.serde_json.specs.Read.{read}
use Rattle.vc_plan.specs.declared.channel.Channel.{Channel}
use Rattle.vc_plan.specs.declared.channel.Home.{Home}
use Rattle.vc_plan.specs.declared.channel.Home.TheVariants.{Inside}
use Rattle.vc_plan.specs.declared.plan.Plan.{Plan}
use Rattle.vc_plan.specs.declared.port.Wire.{Wire}
use Rattle.vc_plan.specs.declared.switch_plan.SwitchPlan.{SwitchPlan}
use Rattle.vc_plan.specs.Accepted.{IsAccepted, IsAtEnd}
use Rattle.vc_plan.specs.Check.{IsCause}
use Rattle.vc_plan.specs.Dependencies.{HasRanks}
use Rattle.vc_reader.specs.declared.bare.BareChannel.{BareChannel}
use Rattle.vc_reader.specs.declared.bare.BareEnds.{BareEnds}
use Rattle.vc_reader.specs.declared.bare.BareEnds.TheVariants.{Between, Within}
use Rattle.vc_reader.specs.declared.bare.BareNetwork.{BareNetwork}
use Rattle.vc_reader.specs.declared.bare.BareWire.{BareWire}
use Rattle.vc_reader.specs.declared.bare.BareWire.TheVariants.{Linked, Unlinked}
use Rattle.vc_reader.specs.declared.word.Word.TheVariants as word
use Rattle.vc_reader.specs.Bare.{ReadsBare}
use Rattle.vc_reader.specs.NetworkText.{Reads}
use Rattle.vc_reader.specs.Words.{word_text}
use Rattle.vc_label_text.specs.declared.refused.LabelRefused.{LabelRefused}
use Rattle.vc_label_text.specs.declared.refused.LabelRefused.TheVariants.{Text, Network, Plan as InPlan, Memory}

-- ---- wires

-- a wire is one that an entry asks for
abbrev pub FitsWire : BareWire → Wire → Type 0
FitsWire (Linked given) w = w ≡ given
FitsWire (Unlinked one two n) w = (w.one.spot ≡ one) × (w.two.spot ≡ two)

-- how many wires an entry asks for
abbrev pub count : BareWire → ℕ
count (Linked given) = 1
count (Unlinked one two n) = n

-- the wires are those of the entries, in order
abbrev pub HasWires : List BareWire → List Wire → Type 0
HasWires [] ws = ws ≡ []
HasWires (e ∷ es) ws = (count e ≤ length ws) × All (FitsWire e) (take (count e) ws) × HasWires es (drop (count e) ws)

-- ---- channels

-- a channel has the ends that the file gives
abbrev pub HasEnds : Plan → BareEnds → Home → Type 0
HasEnds p (Within n) home = home ≡ Inside n
HasEnds p (Between from to) home = IfSome from (IsAtEnd p home true) × IfSome to (IsAtEnd p home false)

pub record FitsChannel (p : Plan) (listed : BareChannel) (c : Channel) : Type 0 where
  pub name : c.name ≡ listed.name
  pub kind : IfSome listed.kind (λ k. c.kind ≡ k)
  pub ends : HasEnds p listed.ends c.home

-- the first channels are those that the file lists, in order
abbrev pub HasChannels : Plan → List BareChannel → List Channel → Type 0
HasChannels p [] cs = ⊤
HasChannels p (b ∷ bs) [] = ⊥
HasChannels p (b ∷ bs) (c ∷ cs) = FitsChannel p b c × HasChannels p bs cs

-- ---- switches and nodes

abbrev pub HasNames : List (List ℕ) → List SwitchPlan → Type 0
HasNames [] [] = ⊤
HasNames [] (s ∷ ss) = ⊥
HasNames (n ∷ ns) [] = ⊥
HasNames (n ∷ ns) (s ∷ ss) = (s.name ≡ n) × HasNames ns ss

-- two files have the same nodes: the values of their fields `nodes` are one
pub record HasSameNodes (input text : List ℕ) : Type 0 where
  pub before : Data
  pub after : Data
  pub nodes : Data
  pub reads_before : read input ≡ Some before
  pub reads_after : read text ≡ Some after
  pub nodes_before : get (word_text word.Nodes) before ≡ Some nodes
  pub nodes_after : get (word_text word.Nodes) after ≡ Some nodes

-- ---- the whole

-- the plan has the switches, the wires and the channels of the network
pub record IsLabelling (bare : BareNetwork) (p : Plan) : Type 0 where
  pub switches : HasNames bare.switches p.switches
  pub wires : HasWires bare.wires p.wires
  pub channels : HasChannels p bare.channels p.channels

-- A text that was made of a file without labelling: a network file with its nodes, and with the switches, wires and channels of the
-- network that it means, which `check` accepts, and whose ports have ranks.
pub record IsLabelledText (input text : List ℕ) : Type 0 where
  pub bare : BareNetwork
  pub plan : Plan
  pub reads : ReadsBare input (Ok bare)
  pub means : Reads text (Ok plan)
  pub accepted : IsAccepted plan
  pub free : HasRanks plan
  pub nodes : HasSameNodes input text
  pub labelling : IsLabelling bare plan

-- ---- refusals

-- the text means some network
abbrev pub MeansSome : List ℕ → Type 0
MeansSome text = (bare : BareNetwork) × ReadsBare text (Ok bare)

-- Why no text is made: the text is refused as it is read; or it means a network, and a text that was made of it is refused so, or the plan
-- of that text for what is wrong with it first. What is wrong with a network besides is not said here.
abbrev pub IsRefusal : List ℕ → LabelRefused → Type 0
IsRefusal text Memory = ⊤
IsRefusal text (Text refused) = ReadsBare text (Err refused) ⊎ (MeansSome text × ((made : List ℕ) × Reads made (Err refused)))
IsRefusal text (InPlan refusal) = MeansSome text × ((made : List ℕ) × Reads made (Ok refusal.plan)) × IsCause refusal.plan refusal.why
IsRefusal text (Network cause) = MeansSome text

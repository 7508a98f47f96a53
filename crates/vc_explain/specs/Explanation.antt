-- What is told of a network file.
use Rattle.std.specs.Prelude.{◌≡◌, ◌≢◌, ℕ, ◌+◌, ◌-◌, ◌*◌, ◌≤◌, Bool, true, false, List, [], ◌++◌, length, take, codes, decimal, ◌⊎◌, Option, Some, Result, Ok, Err, ⊤}
use Rattle.std.specs.Io.KnownBytes.{Appends}
use Rattle.std.specs.List.{AllZip, flat_map}
use Rattle.std.specs.Prelude.{IsUtf8}
use Rattle.serde_json.specs.Data.{Data}
use Rattle.serde_json.specs.Read as json
use Rattle.vc_label_text.specs.Short.{IsShort}
use Rattle.vc_plan.specs.declared.check_refused.CheckRefused.TheVariants as check
use Rattle.vc_plan.specs.declared.plan.Plan.{Plan as Network}
use Rattle.vc_plan.specs.declared.port.Port.{Port}
use Rattle.vc_plan.specs.declared.vlink_length.VlinkLength.{VlinkLength}
use Rattle.vc_plan.specs.WayLengths.{IsVlinkLength}
use Rattle.vc_reader.specs.declared.bare.BareNetwork.{BareNetwork}
use Rattle.vc_reader.specs.Bare.{ReadsBare}
use Rattle.vc_reader.specs.declared.refused.ReadRefused.{ReadRefused}
use Rattle.vc_reader.specs.declared.refused.ReadRefused.TheVariants as read
use Rattle.vc_text.specs.CheckText.{ReadsAccepted, accepted_text}
use Rattle.vc_text.specs.Deadlock.{IsFound, deadlock_text}
use Rattle.vc_text.specs.FaultLine.{fault_text}
use Rattle.vc_text.specs.Streams.{AppendsFront, IsAllOf}
use Rattle.vc_waits.specs.Waits.{newline}
use Rattle.vc_text.specs.declared.fault.RunFault.{RunFault}
use Rattle.vc_text.specs.declared.fault.RunFault.TheVariants.{Read, Write, Text, Network as Unlabelled, Plan, Memory}
use Rattle.vc_explain.specs.declared.offender.Offender.{Offender}
use Rattle.vc_explain.specs.Causes.{cause_sentence}
use Rattle.vc_explain.specs.Details.{detail}
use Rattle.vc_explain.specs.Lengths.{lengths_text}
use Rattle.vc_explain.specs.Offenders.{offenders, path_of}
use Rattle.vc_explain.specs.Place.{byte_line, path_line}
use Rattle.vc_explain.specs.ShortPlaces.{in_short}
use Rattle.vc_explain.specs.Sentences.{plan_sentence, text_sentence}
use Rattle.vc_explain.specs.Walk.{path_walked}

-- how many nodes and switches, wires, and links that have a wire
unfoldable pub summary_text : Network → List ℕ
summary_text plan =
    codes "actors " ++ decimal (length plan.nodes + length plan.switches) ++ codes " wires " ++ decimal (length plan.wires) ++ codes " links " ++ decimal (2 * length plan.wires) ++ newline

-- an accepted network, how many switches the packets of each virtual link pass, and whether packets can come to wait for one another in
-- a circle
unfoldable pub accepted_told : Network → List VlinkLength → Option (List Port) → List ℕ
accepted_told plan lengths found = accepted_text plan ++ summary_text plan ++ lengths_text plan lengths ++ deadlock_text plan found

-- Where a text is refused: the value to which the path leads; where a field is missing, the object that lacks it; and where the text
-- is no JSON, byte n.
abbrev pub text_place : List ℕ → ℕ → ReadRefused → List ℕ
text_place text n read.Json = byte_line text n
text_place text n (read.Missing path) = path_line text (take (length path - 1) path)
text_place text n (read.Kind path) = path_line text path
text_place text n (read.Range path) = path_line text path
text_place text n (read.Unknown path) = path_line text path
text_place text n read.Memory = []

-- the places of what a refusal names
abbrev pub places_text : List ℕ → List Offender → List ℕ
places_text text found = flat_map (λ offender. path_line text (path_of offender)) found

-- The line of a refusal, a sentence for it, where it is, and the path of a packet that goes astray. A text that is JSON has this value,
-- and a plan is refused for these parts of its file.
abbrev pub refusal_told : List ℕ → ℕ → Data → List Offender → RunFault → List ℕ
refusal_told text n d found (Text refused) = fault_text (Text refused) ++ text_sentence d refused ++ newline ++ text_place text n refused
refusal_told text n d found (Unlabelled cause) = fault_text (Unlabelled cause) ++ cause_sentence cause ++ newline
refusal_told text n d found (Plan refusal) =
    fault_text (Plan refusal) ++ plan_sentence refusal.why ++ detail refusal.plan refusal.why ++ newline ++ places_text text found ++ path_walked refusal.plan refusal.why
refusal_told text n d found fault = []

-- a refusal, and not for want of memory
abbrev pub IsRefusal : RunFault → Type 0
IsRefusal (Text refused) = refused ≢ read.Memory
IsRefusal (Unlabelled cause) = ⊤
IsRefusal (Plan refusal) = refusal.why ≢ check.Memory
IsRefusal fault = ⊥

-- What a refusal of a plan names in the file: in a whole file all of it, and in the short form what of it is there.
abbrev pub Has : List ℕ → RunFault → List Offender → Type 0
Has text (Plan refusal) found =
    ((IsShort text → ⊥) × (found ≡ offenders refusal.plan refusal.why))
    ⊎ ((bare : BareNetwork) × IsShort text × ReadsBare text (Ok bare) × (found ≡ flat_map (in_short bare) (offenders refusal.plan refusal.why)))
Has text fault found = ⊤

-- a text that is JSON has this value
abbrev pub HasValue : List ℕ → ReadRefused → Data → Type 0
HasValue text read.Json d = ⊤
HasValue text refused d = IsUtf8 text × (json.read text ≡ Some d)

abbrev pub IsOf : List ℕ → RunFault → Data → Type 0
IsOf text (Text refused) d = HasValue text refused d
IsOf text fault d = ⊤

-- what is told of an accepted network
abbrev pub IsToldOfAccepted : Network → List ℕ → Type 0
IsToldOfAccepted plan told =
    (lengths : List VlinkLength) × (found : Option (List Port)) × AllZip (IsVlinkLength plan) plan.vlinks lengths × IsFound plan found × (told ≡ accepted_told plan lengths found)

-- What is told of a refusal. Of the byte at which a text stops being JSON no more is said here than that it is in the text, or that the
-- text ends there.
abbrev pub IsToldOfRefusal : List ℕ → RunFault → List ℕ → Type 0
IsToldOfRefusal text fault told =
    IsRefusal fault
    × ((n : ℕ) × (d : Data) × (found : List Offender) × (n ≤ length text) × IsOf text fault d × Has text fault found × (told ≡ refusal_told text n d found fault))

-- what is told of a text, and whether its network is accepted
abbrev pub IsTold : List ℕ → Bool → List ℕ → Type 0
IsTold text true told = (plan : Network) × ReadsAccepted (Some text) (Ok plan) × IsToldOfAccepted plan told
IsTold text false told = (fault : RunFault) × ReadsAccepted (Some text) (Err fault) × IsToldOfRefusal text fault told

-- What is told of the reader's text was written, or a front of it before a fault of the writer; else nothing was. The answer is whether
-- its network is accepted.
abbrev pub Explains : Option (List ℕ) → Option (List ℕ) → Option (List ℕ) → Result Bool RunFault → Type 0
Explains known old new (Ok is_accepted) =
    (text : List ℕ) × (told : List ℕ) × IsAllOf known text × IsTold text is_accepted told × Appends old new told
Explains known old new (Err Write) =
    (text : List ℕ) × (is_accepted : Bool) × (told : List ℕ) × IsAllOf known text × IsTold text is_accepted told × AppendsFront old new told
Explains known old new (Err Read) = new ≡ old
Explains known old new (Err Memory) = new ≡ old
Explains known old new (Err fault) = ⊥

-- Network files, whole and in the short form.
use Rattle.std.proofs.Common.{◌≡◌, ◌≢◌, ◌≤◌, ℕ, List, length, Option, Some, None, Result, Ok, Err, inl, inr, refl, sym, subst, ap, ◌∙◌}
use Rattle.vc_label_text.specs.Labelled.{IsLabelledText, IsRefusal}
use Rattle.vc_label_text.specs.Short.{IsShort, LacksVlinks}
use Rattle.vc_label_text.specs.declared.refused.LabelRefused.{LabelRefused}
use Rattle.vc_label_text.specs.declared.refused.LabelRefused.TheVariants as why
use Rattle.vc_plan.specs.Accepted.{IsAccepted}
use Rattle.vc_plan.specs.Check.{IsCause}
use Rattle.vc_plan.specs.declared.plan.Plan.{Plan as Network}
use Rattle.vc_reader.specs.NetworkText.{Reads, read_plan}
use Rattle.vc_reader.specs.declared.refused.ReadRefused.{ReadRefused}
use Rattle.vc_reader.specs.declared.refused.ReadRefused.TheVariants.{Json, Missing, Kind, Range, Unknown, Memory as OutOfMemory}
use Rattle.vc_text.specs.CheckText.{ReadsAccepted, ReadsFile, ReadsText}
use Rattle.vc_text.specs.Faults.{fault_of}
use Rattle.vc_text.specs.Private.CheckText.{AcceptsPlan}
use Rattle.vc_text.specs.Streams.{IsAllOf, most_bytes}
use Rattle.vc_text.specs.declared.fault.RunFault.{RunFault}
use Rattle.vc_text.specs.declared.fault.RunFault.TheVariants.{Read, Write, Text, Network as Unlabelled, Plan, Threads, Memory}

-- a text without `vlinks` that is refused as a whole file is a short one
pub short_of : (text : List ℕ) (refused : ReadRefused) → Reads text (Err refused) → refused ≢ OutOfMemory → LacksVlinks text → IsShort text
short_of text Json refused known (d, utf8, is, lacks) = let none = refused utf8 in cc
short_of text OutOfMemory read known lacks = absurd (known refl)
short_of text (Missing path) (f, means, e) known lacks = (lacks, (f, means))
short_of text (Kind path) (f, means, e) known lacks = (lacks, (f, means))
short_of text (Range path) (f, means, e) known lacks = (lacks, (f, means))
short_of text (Unknown path) (f, means, e) known lacks = (lacks, (f, means))

-- a whole file is no short one
pub whole_only : (text : List ℕ) (plan : Network) → Reads text (Ok plan) → IsShort text → ⊥
whole_only text plan (d, utf8, is, means) (lacks, (fault, (e, known, reads, wrong))) =
    let same : d ≡ e = cc in
    let none : Ok plan ≡ Err fault = sym means ∙ ap read_plan same ∙ wrong in
    cc

-- a text means one plan
one_plan : (text : List ℕ) (p q : Network) → Reads text (Ok p) → Reads text (Ok q) → p ≡ q
one_plan text p q (d, utf8, is, means) (e, known, reads, gives) =
    let same : d ≡ e = cc in
    let plans : Ok p ≡ Ok q = sym means ∙ ap read_plan same ∙ gives in
    cc

-- what is made of a short file is accepted
pub made_accepted : (text made : List ℕ) (plan : Network) → IsLabelledText text made → Reads made (Ok plan) → IsAccepted plan
made_accepted text made plan labelled read = subst IsAccepted (one_plan made labelled.plan plan labelled.means read) labelled.accepted

-- nothing is made of a short file
pub not_made : (text : List ℕ) (refused : LabelRefused) → IsShort text → IsRefusal text refused → ReadsFile text (Err (fault_of refused))
not_made text (why.Text refused) short is = inr (short, is)
not_made text (why.Network cause) short is = (short, is)
not_made text (why.Plan refusal) short is = (short, is)
not_made text why.Memory short is = tt

-- the plan of a whole file is accepted, or refused
pub accepts_whole : (text : List ℕ) (plan : Network) (result : Result Network RunFault) → Reads text (Ok plan) → AcceptsPlan plan result → ReadsText text result
accepts_whole text plan (Ok accepted) read is = inl (subst (λ q. Reads text (Ok q)) (sym is.0) read, subst IsAccepted (sym is.0) is.1)
accepts_whole text plan (Err (Plan refusal)) read is = inl (subst (λ q. Reads text (Ok q)) (sym is.0) read, subst (λ q. IsCause q refusal.why) (sym is.0) is.1)
accepts_whole text plan (Err x) read is = absurd is

-- a file is not read
pub reads_none : (text : List ℕ) (fault : RunFault) → ReadsFile text (Err fault) → ReadsText text (Err fault)
reads_none text Memory read = tt
reads_none text (Text refused) read = read
reads_none text (Unlabelled cause) read = inr read
reads_none text (Plan refusal) read = inr read
reads_none text x read = absurd read.1

-- the text is the one that the reader had
pub reads_all : (known : Option (List ℕ)) (bytes : List ℕ) (result : Result Network RunFault) → IsAllOf known bytes → length bytes ≤ most_bytes → ReadsText bytes result → ReadsAccepted known result
reads_all known bytes (Err Read) all few read = tt
reads_all known bytes (Err Memory) all few read = tt
reads_all known bytes (Err Write) all few (inl read) = absurd read
reads_all known bytes (Err Write) all few (inr read) = absurd read.1
reads_all known bytes (Err (Threads fault)) all few (inl read) = absurd read
reads_all known bytes (Err (Threads fault)) all few (inr read) = absurd read.1
reads_all (Some text) bytes (Ok plan) all few read = subst (λ t. ReadsAccepted (Some t) (Ok plan)) all (few, read)
reads_all (Some text) bytes (Err (Text refused)) all few read = subst (λ t. ReadsAccepted (Some t) (Err (Text refused))) all (few, read)
reads_all (Some text) bytes (Err (Unlabelled cause)) all few read = subst (λ t. ReadsAccepted (Some t) (Err (Unlabelled cause))) all (few, read)
reads_all (Some text) bytes (Err (Plan refusal)) all few read = subst (λ t. ReadsAccepted (Some t) (Err (Plan refusal))) all (few, read)
reads_all None bytes (Ok plan) all few (inl read) = read.1
reads_all None bytes (Ok plan) all few (inr (short, (made, labelled, read, accepted))) = accepted
reads_all None bytes (Err (Text refused)) all few read = tt
reads_all None bytes (Err (Unlabelled cause)) all few read = tt
reads_all None bytes (Err (Plan refusal)) all few (inl read) = read.1
reads_all None bytes (Err (Plan refusal)) all few (inr (short, (means, made, cause))) = cause

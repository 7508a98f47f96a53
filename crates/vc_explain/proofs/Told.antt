-- What is told of a file, whole or in the short form.
use Rattle.std.proofs.Common.{◌≡◌, ◌≤◌, ◌∙◌, ℕ, List, [], ◌++◌, length, true, false, Some, Ok, Err, inl, inr, refl, ap, arith, subst, sym}
use Rattle.std.specs.List.{flat_map}
use Rattle.serde_json.specs.Data.{Data, null}
use Rattle.vc_label_text.specs.declared.cause.LabelCause.{LabelCause}
use Rattle.vc_plan.specs.Accepted.{IsAccepted}
use Rattle.vc_plan.specs.Check.{IsCause}
use Rattle.vc_plan.specs.declared.check_refused.Refusal.{Refusal}
use Rattle.vc_plan.specs.declared.plan.Plan.{Plan as PlanData}
use Rattle.vc_reader.specs.declared.bare.BareNetwork.{BareNetwork}
use Rattle.vc_reader.specs.Bare.{ReadsBare}
use Rattle.vc_reader.specs.NetworkText.{Reads}
use Rattle.vc_reader.specs.declared.refused.ReadRefused.{ReadRefused}
use Rattle.vc_text.specs.FaultLine.{fault_text}
use Rattle.vc_waits.specs.Waits.{newline}
use Rattle.vc_text.proofs.Forms.{accepts_whole, reads_all, reads_none, whole_only}
use Rattle.vc_text.specs.CheckText.{ReadsFile}
use Rattle.vc_text.specs.Streams.{most_bytes}
use Rattle.vc_text.specs.declared.fault.RunFault.{RunFault}
use Rattle.vc_text.specs.declared.fault.RunFault.TheVariants.{Network, Plan, Text}
use Rattle.vc_text.specs.declared.network_file.NetworkFile.TheVariants.{Short}
use Rattle.vc_explain.specs.declared.offender.Offender.{Offender}
use Rattle.vc_explain.specs.Explanation.{HasValue, IsRefusal, IsTold, IsToldOfAccepted, IsToldOfRefusal, refusal_told, text_place}
use Rattle.vc_explain.specs.Sentences.{text_sentence}
use Rattle.vc_explain.specs.Offenders.{offenders}
use Rattle.vc_explain.specs.ShortPlaces.{in_short}

-- a whole file that is accepted
pub accepted_whole : (text : List ℕ) (plan accepted : PlanData) (told : List ℕ) → length text ≤ most_bytes → Reads text (Ok plan) → (accepted ≡ plan) × IsAccepted plan →
    IsToldOfAccepted accepted told → IsTold text true told
accepted_whole text plan accepted told few read is of = (accepted, (few, accepts_whole text plan (Ok accepted) read is), of)

-- a short one whose network is
pub accepted_short : (text : List ℕ) (accepted : PlanData) (told : List ℕ) → length text ≤ most_bytes → ReadsFile text (Ok (Short accepted)) → IsToldOfAccepted accepted told →
    IsTold text true told
accepted_short text accepted told few read of = (accepted, (few, inr read), of)

-- a text that is refused, or a short one of which nothing is made
pub told_none : (text : List ℕ) (fault : RunFault) (told : List ℕ) → length text ≤ most_bytes → ReadsFile text (Err fault) → IsToldOfRefusal text fault told →
    IsTold text false told
told_none text fault told few read of = (fault, reads_all (Some text) text (Err fault) refl few (reads_none text fault read), of)

-- what is told of a text that is refused: its line, a sentence, and its place
pub told_text : (text : List ℕ) (fault : RunFault) (refused : ReadRefused) (n : ℕ) (d : Data) (line sentence ended told : List ℕ) → fault ≡ Text refused → IsRefusal fault → n ≤ length text →
    HasValue text refused d → line ≡ fault_text fault → sentence ≡ line ++ text_sentence d refused → ended ≡ sentence ++ newline → told ≡ ended ++ text_place text n refused →
    IsToldOfRefusal text fault told
told_text text fault refused n d line sentence ended told is known few of begins says ends there =
    let all : told ≡ refusal_told text n d [] (Text refused) =
    there ∙ ap (λ xs. xs ++ text_place text n refused)
    (ends ∙ ap (λ xs. xs ++ newline) (says ∙ ap (λ xs. xs ++ text_sentence d refused) (begins ∙ ap fault_text is)))
    in subst (λ f. IsToldOfRefusal text f told) (sym is) (subst IsRefusal is known, (n, d, [], few, of, tt, all))

-- what is told of a network that can't be labelled
pub told_cause : (text told : List ℕ) (fault : RunFault) (cause : LabelCause) → fault ≡ Network cause → told ≡ refusal_told [] 0 null [] fault → IsToldOfRefusal text fault told
told_cause text told fault cause is of =
    subst (λ f. IsToldOfRefusal text f told) (sym is) (tt, (0, null, [], omega arith, tt, tt, subst (λ f. told ≡ refusal_told [] 0 null [] f) is of))

-- a whole file whose plan is refused
pub told_whole : (text : List ℕ) (plan : PlanData) (refusal : Refusal) (found : List Offender) (told : List ℕ) → length text ≤ most_bytes → Reads text (Ok plan) →
    (refusal.plan ≡ plan) × IsCause plan refusal.why → IsRefusal (Plan refusal) → found ≡ offenders refusal.plan refusal.why → told ≡ refusal_told text 0 null found (Plan refusal) →
    IsTold text false told
told_whole text plan refusal found told few read is known names of =
    (Plan refusal, (few, accepts_whole text plan (Err (Plan refusal)) read is), (known, (0, null, found, omega arith, tt, inl (whole_only text plan read, names), of)))

-- a short one, for which the plan of the file that was made of it is refused
pub told_short : (text : List ℕ) (refusal : Refusal) (bare : BareNetwork) (whole found : List Offender) (told : List ℕ) → length text ≤ most_bytes → ReadsFile text (Err (Plan refusal)) →
    IsRefusal (Plan refusal) → ReadsBare text (Ok bare) → whole ≡ offenders refusal.plan refusal.why → found ≡ flat_map (in_short bare) whole →
    told ≡ refusal_told text 0 null found (Plan refusal) → IsTold text false told
told_short text refusal bare whole found told few read known means names there of =
    told_none text (Plan refusal) told few read (known, (0, null, found, omega arith, tt, inr (bare, read.0, means, there ∙ ap (flat_map (in_short bare)) names), of))

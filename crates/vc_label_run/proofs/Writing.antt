-- What was written, together.
use Rattle.std.proofs.Common.{◌≡◌, ℕ, List, Option, Result, Ok, Err, refl}
use Rattle.vc_label_run.specs.Labels.{IsWholeFile, Labels}
use Rattle.vc_label_text.specs.Labelled.{IsRefusal}
use Rattle.vc_label_text.specs.declared.refused.LabelRefused.{LabelRefused}
use Rattle.vc_label_text.specs.declared.refused.LabelRefused.TheVariants as refused
use Rattle.vc_text.specs.Faults.{fault_of}
use Rattle.vc_text.specs.Streams.{IsAllOf, Writes}
use Rattle.vc_text.specs.declared.fault.RunFault.{RunFault}
use Rattle.vc_text.specs.declared.fault.RunFault.TheVariants.{Write, Memory}

-- what is written of a network
pub labels_of : (known old new : Option (List ℕ)) (made : List ℕ) (result : Result (Unit {0}) RunFault) → IsWholeFile known made → Writes old new made result →
    Labels known old new result
labels_of known old new made (Ok u) is w = (made, is, w)
labels_of known old new made (Err Write) is w = (made, is, w)
labels_of known old new made (Err Memory) is w = (tt, w)
labels_of known old new made (Err x) is w = absurd w

-- nothing is made of a text
pub labels_none : (known old : Option (List ℕ)) (text : List ℕ) (why : LabelRefused) → IsAllOf known text → IsRefusal text why → Labels known old old (Err (fault_of why))
labels_none known old text (refused.Text why) all is = ((text, all, is), refl)
labels_none known old text (refused.Network why) all is = ((text, all, is), refl)
labels_none known old text (refused.Plan why) all is = ((text, all, is), refl)
labels_none known old text refused.Memory all is = (tt, refl)

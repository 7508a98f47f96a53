use Rattle.std.proofs.Common.{◌≡◌, ℕ, List, Some, Err, refl}
use Rattle.std.specs.Str.{IsUtf8}
use Rattle.serde_json.specs.Data.{Data}
use Rattle.serde_json.specs.Read.{read}
use Rattle.serde_json.specs.View.{view}
use Rattle.vc_reader.specs.NetworkText.{refusal}
use Rattle.vc_reader.specs.Bare.{ReadsBare, read_bare}
use Rattle.vc_reader.specs.declared.fault.Why.{Why}
use Rattle.vc_reader.specs.declared.fault.Why.TheVariants as why
use Rattle.vc_reader.specs.declared.path.Step.{Step}
use Rattle.vc_reader.specs.declared.refused.ReadRefused.{ReadRefused}
use Rattle.vc_reader.proofs.bare_network.read_bare.Goals as goal

-- the refusal of a text that means a fault
at-fault : (text : List ℕ) (d : Data) (w : Why) (path : List Step) (r : ReadRefused) → IsUtf8 text → read text ≡ Some d → read_bare d ≡ Err (record { why = w; path = path }) → r ≡ refusal w path → ReadsBare text (Err r)
at-fault text d why.Missing path r u t m e = rw e (record { why = why.Missing; path = path }, (d, u, t, m), refl)
at-fault text d x path r u t m e = rw e (record { why = x; path = path }, (d, u, t, m), refl)

pub returns : goal.returns
returns c =
    at-fault c.args.text.now (view c.in_ok-value.value) c.in-Err-Fault.fault.why c.in-Err-Fault.fault.path c.at.result c.in_ok-value.ensures.ok.0 c.in_ok-value.ensures.ok.1
    (rw c.in-Err-Fault.field-0-is at c.in-Err-Fault.ensures) c.at.ensures

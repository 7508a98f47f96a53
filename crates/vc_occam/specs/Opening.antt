-- How a process begins: whole, with its variables empty.
use Rattle.std.specs.Prelude.{◌≡◌, ℕ, true, List, [], pos, map}
use Rattle.vc_process.specs.declared.value_kind.ValueKind.{ValueKind}
use Rattle.vc_process.specs.declared.value_kind.ValueKind.TheVariants.{Int, Bytes}
use Rattle.vc_process.specs.declared.datum.Datum.{Datum}
use Rattle.vc_process.specs.declared.datum.Datum.TheVariants as datum
use Rattle.vc_process.specs.declared.process.Process.{Process}
use Rattle.vc_process.specs.ProcessLimits.{names_fit}
use Rattle.vc_process.specs.Terms.{store}
use Rattle.vc_process.specs.Numbering.{written}
use Rattle.vc_occam.specs.Remains.{begin}
use Rattle.vc_occam.specs.States.{State}

-- what a variable holds at first: 0, or no bytes
abbrev pub empty_of : ValueKind → Datum
empty_of Int = datum.Int (pos 0)
empty_of Bytes = datum.Bytes []

abbrev pub opening : List ValueKind → Process → State
opening kinds p = record { rest = begin (written p); store = store (map empty_of kinds) }

-- its variables are among these, and of the kinds that it wants
abbrev pub Fits : List ValueKind → Process → Type 0
Fits kinds p = (channels : ℕ) × (names_fit (written p) kinds channels ≡ true)

-- What is wrong with rows: the first row with a fault counts, and of its faults the first of these.
use Rattle.std.specs.Prelude.{ℕ, ◌||◌, List, [], ◌∷◌, nat_lt, nat_le, if◌then◌else◌, Option, Some, None}
use Rattle.vc_labels.specs.declared.row.Row.{Row}
use Rattle.vc_labels.specs.declared.action.Action.{Action}
use Rattle.vc_labels.specs.declared.action.Action.TheVariants.{Out, Portal}
use Rattle.vc_labels.specs.declared.fault.TableFault.{TableFault}
use Rattle.vc_labels.specs.declared.fault.TableFault.TheVariants.{NotRising, Gap, BadLink}
use Rattle.vc_labels.specs.Lawful.{starts_at}

-- what is wrong with an action's links
abbrev pub link_fault : Action → Option TableFault
link_fault (Out first last) = if nat_lt last first || nat_lt 31 last then Some BadLink else None
link_fault Portal = None

-- what is wrong with a row behind one that ends at `start`
abbrev pub row_fault : ℕ → Row → Option TableFault
row_fault start row =
    if nat_le row.limit row.lower || nat_lt 65536 row.limit || nat_lt row.lower start then Some NotRising
    else if nat_lt start row.lower then Some Gap else link_fault row.action

abbrev pub or_else : {A : Type 0} → Option A → Option A → Option A
or_else (Some x) other = Some x
or_else None other = other

-- the fault of the first row that has one, of rows behind one that ends at `start`
abbrev pub fault_from : ℕ → List Row → Option TableFault
fault_from start [] = None
fault_from start (row ∷ rows) = or_else (row_fault start row) (fault_from row.limit rows)

abbrev pub table_fault : List Row → Option TableFault
table_fault rows = fault_from (starts_at rows) rows

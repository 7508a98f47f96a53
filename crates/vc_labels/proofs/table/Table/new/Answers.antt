use Rattle.std.proofs.Common.{◌≡◌, None, Some, refl, sym, ◌∙◌}
use Rattle.vc_labels.specs.Fault.{table_fault}
use Rattle.vc_labels.proofs.Tables.{lawful-from, free-from}
use Rattle.vc_labels.proofs.table.Table.new.Goals as goal

no_fault : (c : goal.In-None) → table_fault c.args.rows ≡ None
no_fault c = rw (← c.as_slice.ensures) (sym c.fault_of_rows.ensures ∙ c.in-None.is)

pub invariant_of-result : goal.invariant_of-result
invariant_of-result c = lawful-from _ c.args.rows (no_fault c)

pub returns-in-Some-clause-lawful : goal.returns-in-Some-clause-lawful
returns-in-Some-clause-lawful c = (λ e. absurd cc, λ w. let none = free-from _ c.args.rows w in let some : table_fault c.args.rows ≡ Some c.in-Some.fault = rw (← c.as_slice.ensures) (sym c.fault_of_rows.ensures ∙ c.in-Some.is) in absurd cc)

pub returns-in-None-clause-lawful : goal.returns-in-None-clause-lawful
returns-in-None-clause-lawful c = (λ e. lawful-from _ c.args.rows (no_fault c), λ w. refl)

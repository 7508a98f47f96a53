use Rattle.std.proofs.Common.{◌∙◌, inr, sym, refl}
use Rattle.std.proofs.lemmas.Bool.{false≢true}
use Rattle.vc_labels.proofs.Tables.{faultless_are_lawful}
use Rattle.vc_plan.proofs.checker.fault_of_switch.Goals as goal

pub returns-then-are_wired : goal.returns-then-are_wired
returns-then-are_wired c = record {
  table = (faultless_are_lawful c.args.plan.now.rows).0 (rw c.as_slice.ensures at (sym c.fault_of_rows.ensures ∙ c.in-None.is));
  wired = (rw c.as_slice-in-None.ensures at c.are_wired.ensures).0 c.if-are_wired.true;
}

pub returns-else-are_wired : goal.returns-else-are_wired
returns-else-are_wired c =
    inr ((faultless_are_lawful c.args.plan.now.rows).0 (rw c.as_slice.ensures at (sym c.fault_of_rows.ensures ∙ c.in-None.is)), refl, λ wired. false≢true (sym c.if-are_wired.false ∙ (rw c.as_slice-in-None.ensures at c.are_wired.ensures).1 wired))

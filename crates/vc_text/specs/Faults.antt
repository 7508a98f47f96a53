-- Faults of a network file without labelling, as those of a run.
use Rattle.vc_label_text.specs.declared.refused.LabelRefused.{LabelRefused}
use Rattle.vc_label_text.specs.declared.refused.LabelRefused.TheVariants as refused
use Rattle.vc_text.specs.declared.fault.RunFault.{RunFault}
use Rattle.vc_text.specs.declared.fault.RunFault.TheVariants.{Text, Network, Plan, Memory}

abbrev pub fault_of : LabelRefused → RunFault
fault_of (refused.Text why) = Text why
fault_of (refused.Network cause) = Network cause
fault_of (refused.Plan refusal) = Plan refusal
fault_of refused.Memory = Memory

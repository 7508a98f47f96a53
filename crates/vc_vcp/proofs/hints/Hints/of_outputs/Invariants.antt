use Rattle.vc_vcp.proofs.HintNotes.{AreHintedTo}
use Rattle.vc_vcp.proofs.hints.Hints.of_outputs.Given as goal

abbrev pub invariant-loop-i : goal.invariant-loop-i
invariant-loop-i l = AreHintedTo (λ x. x.chan) l.outputs l.i l.hints.chans × AreHintedTo (λ x. x.block) l.outputs l.i l.hints.blocks

-- The moves that a site makes by itself.
use Rattle.vc_occam.specs.declared.moves.Move.{Move}
use Rattle.vc_occam.specs.declared.moves.Move.TheVariants.{Stopch, Quiet}

-- a step without a communication, or one that stops a channel: no other process has a part in it
abbrev pub GoesAlone : Move → Type 0
GoesAlone (Quiet i) = Unit {0}
GoesAlone (Stopch i c) = Unit {0}
GoesAlone m = ⊥

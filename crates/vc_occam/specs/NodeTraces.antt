-- The communications of a node: those that its process may make, where channels inside the node join two of its parts.
use Rattle.std.specs.Prelude.{◌≡◌, true, false, List, [], ◌∷◌}
use Rattle.vc_process.specs.Messages.{message}
use Rattle.vc_occam.specs.Remains.{Rest, Done}
use Rattle.vc_process.specs.Syntax.{Proc}
use Rattle.vc_occam.specs.Traces.{Comm, Out, Fin, In, Stp, End, Open, Ended, Trace}
use Rattle.vc_process.specs.Usage.{Set}
use Rattle.vc_process.specs.Values.{Store}

-- on a channel inside the node each output is directly followed by the input that gets its message, and is finished then
abbrev pub Meets : Set → List Comm → Type 0
Meets inside [] = Unit {0}
Meets inside (Out c x ∷ In d y ∷ Fin f ∷ t) = (inside c ≡ true → (c ≡ d) × (message x ≡ message y) × (c ≡ f)) × Meets inside (In d y ∷ Fin f ∷ t)
Meets inside (Out c x ∷ t) = (inside c ≡ false) × Meets inside t
Meets inside (Fin c ∷ t) = Meets inside t
Meets inside (In c x ∷ t) = Meets inside t
Meets inside (Stp c ∷ t) = Meets inside t

-- from the variables e, a node with these channels inside may make the list t by its process, and end so
abbrev pub NodeTrace : Set → Proc → Store → List Comm → End → Type 0
NodeTrace inside p e t x = Trace p e t x × Meets inside t

-- how a trace stands whose process has come so far: it has ended where nothing remains, and is cut off where something does
abbrev pub so_far : Rest → Store → End
so_far Done e = Ended e
so_far r e = Open

-- What the parts of a process are at that do not go on by themselves.
use Rattle.std.specs.Prelude.{ℕ, List, [], ◌∷◌, ◌++◌, is_some, if◌then◌else◌}
use Rattle.vc_occam.specs.declared.blocked.Blocked.{Blocked}
use Rattle.vc_occam.specs.declared.blocked.Blocked.TheVariants as at
use Rattle.vc_occam.specs.First.{all_decided, is_true}
use Rattle.vc_occam.specs.Remains.{Rest, Done, Stopped, Fresh, Finishing, Getting, Then, Turns, Beside}
use Rattle.vc_process.specs.Syntax.{Proc, STOP, Output, Input, ALT, Guards, no_guards, guard}
use Rattle.vc_process.specs.Values.{Store, datum_of, holds}

-- the guards of an ALT whose condition is true, in order
abbrev pub open_guards : ℕ → Guards → Store → List Blocked
open_guards i no_guards e = []
open_guards i (guard b c v p gs) e = (if is_true (holds b e) then (at.Guard i c ∷ []) else []) ++ open_guards i gs e

-- an ALT is at its open guards, if it has any
abbrev pub or_closed : ℕ → List Blocked → List Blocked
or_closed i [] = at.Closed i ∷ []
or_closed i (b ∷ bs) = b ∷ bs

-- a process that has not begun; an output of a fault stops by itself
abbrev pub blocked_fresh : Proc → Store → List Blocked
blocked_fresh (STOP i) e = at.Stop i ∷ []
blocked_fresh (Output i c a) e = if is_some (datum_of a e) then (at.Output i c ∷ []) else []
blocked_fresh (Input i c v) e = at.Input i c ∷ []
blocked_fresh (ALT i gs) e = if all_decided gs e then or_closed i (open_guards i gs e) else (at.Undecided i ∷ [])
blocked_fresh p e = []

-- each part that does not go on by itself, in order of site
abbrev pub blocked : Rest → Store → List Blocked
blocked Done e = []
blocked (Stopped i) e = at.Stopped i ∷ []
blocked (Fresh p) e = blocked_fresh p e
blocked (Finishing i c) e = at.Output i c ∷ []
blocked (Getting i c v) e = at.Input i c ∷ []
blocked (Then r ps) e = blocked r e
blocked (Turns r v b n p) e = blocked r e
blocked (Beside mine r q) e = blocked r e ++ blocked q e

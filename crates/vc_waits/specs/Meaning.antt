-- What the word for a blocked part says of what remains of its process.
use Rattle.std.specs.Prelude.{◌≡◌, ◌⊎◌, ℕ, List, []}
use Rattle.std.specs.List.{Contains}
use Rattle.vc_accepted.specs.Alone.{GoesAlone}
use Rattle.vc_occam.specs.BlockedParts.{blocked, blocked_fresh}
use Rattle.vc_occam.specs.First.{own}
use Rattle.vc_occam.specs.Remains.{Rest, Fresh, Step}
use Rattle.vc_occam.specs.States.{input, output, waiting}
use Rattle.vc_occam.specs.Traces.{Comm}
use Rattle.vc_occam.specs.declared.blocked.Blocked.{Blocked}
use Rattle.vc_occam.specs.declared.blocked.Blocked.TheVariants.{Output, Input, Guard}
use Rattle.vc_occam.specs.declared.moves.Move.{Move}
use Rattle.vc_occam.specs.declared.moves.Move.TheVariants.{Offer, Want, Choose}
use Rattle.vc_process.specs.Syntax.{Proc, SEQ, PAR, part}
use Rattle.vc_process.specs.Values.{Store}

-- an output is among the moves of its process, or waits to be finished; an input is among them, or waits for its message; a guard is
-- among them
abbrev pub IsSo : Rest → Store → Blocked → Type 0
IsSo r e (Output i c) = Contains (own r e) (Offer i c) ⊎ Contains (waiting r) (output i c)
IsSo r e (Input i c) = Contains (own r e) (Want i c) ⊎ Contains (waiting r) (input i c)
IsSo r e (Guard i c) = (k : ℕ) × Contains (own r e) (Choose i k c)
IsSo r e b = Unit {0}

-- the word says that a part has stopped
abbrev pub HasStopped : Blocked → Type 0
HasStopped (Output i c) = ⊥
HasStopped (Input i c) = ⊥
HasStopped (Guard i c) = ⊥
HasStopped b = Unit {0}

-- a SEQ or PAR with parts begins with its parts, and has no line of its own
abbrev pub HasNoParts : Proc → Type 0
HasNoParts (SEQ i (part p ps)) = ⊥
HasNoParts (PAR i (part p ps)) = ⊥
HasNoParts p = Unit {0}

-- each blocked part is as the word for it says; a process that has not begun and has stopped makes no step; and one that has no line goes
-- on by itself
pub record WordsAreSo : Type 0 where
  pub waits : (r : Rest) (e : Store) (b : Blocked) → Contains (blocked r e) b → IsSo r e b
  pub stopped : (p : Proc) (e : Store) (b : Blocked) → Contains (blocked_fresh p e) b → HasStopped b → (i : ℕ) (d : _) (cs : List Comm) (q : Rest) (f : Store) → Step (Fresh p) e i d cs q f → ⊥
  pub others : (p : Proc) (e : Store) → blocked_fresh p e ≡ [] → HasNoParts p → (m : Move) × GoesAlone m × Contains (own (Fresh p) e) m

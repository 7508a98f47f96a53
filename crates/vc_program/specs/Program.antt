-- The program of a plan's processes, whatever carries their channels (occam 2.1 Reference Manual, "Communication"): a message passes at one
-- moment, when its output and its input, or a guard, can both begin. Its states and its moves.
use Rattle.std.specs.Prelude.{◌≡◌, ℕ, zero, suc, ◌≤◌, ◌<◌, Bool, true, false, List, [], ◌∷◌, ◌++◌, length, Option, Some, None}
use Rattle.vc_accepted.specs.Begin.{begin_of}
use Rattle.vc_occam.specs.Remains.{Done}
use Rattle.vc_occam.specs.SiteActions as action
use Rattle.vc_occam.specs.States.{State, StepsTo, meeting}
use Rattle.vc_occam.specs.Traces.{Out, Fin, In, Stp}
use Rattle.vc_packets.specs.Functions.{put}
use Rattle.vc_plan.specs.declared.plan.Plan.{Plan}
use Rattle.vc_process.specs.Messages.{message}
use Rattle.vc_process.specs.declared.datum.Datum.{Datum}

-- what remains of each node's process, with its variables; which channels are stopped; the messages that passed on each channel
pub record Program : Type 0 where
  pub part : ℕ → State
  pub stopped : ℕ → Bool
  pub passed : ℕ → List (List ℕ)

abbrev pub program_of : Plan → Program
program_of p = record { part = λ n. (begin_of p n).state; stopped = λ c. false; passed = λ c. [] }

-- a site makes a step without a communication; a channel is stopped; a message passes, from a site that outputs to one that inputs, or to
-- a guard of an ALT
pub data Move : Type 0 where
  Goes : (node site : ℕ) → Move
  Stops : (node site chan : ℕ) → Move
  Passes : (chan sender output receiver input : ℕ) (guard : Option ℕ) → Move

-- the program makes a move
pub data Makes (p : Plan) (s : Program) : Move → Program → Type 0 where
  goes : (n i : ℕ) (t : State) → n < length p.nodes → StepsTo (s.part n) i action.Quiet [] t → Makes p s (Goes n i) (record s { part = put s.part n t })
  stops : (n i c : ℕ) (t : State) → n < length p.nodes → StepsTo (s.part n) i (action.StopChannel c) (Stp c ∷ []) t →
      Makes p s (Stops n i c) (record s { part = put s.part n t; stopped = put s.stopped c true })
  passes : (c n i m j : ℕ) (k : Option ℕ) (x y : Datum) (a b d : State) → n < length p.nodes → m < length p.nodes → s.stopped c ≡ false →
      StepsTo (s.part n) i (action.Offer c) (Out c x ∷ []) a →
      StepsTo (put s.part n a m) j (meeting k c (message x)) (In c y ∷ []) b →
      StepsTo (put (put s.part n a) m b n) i action.Finish (Fin c ∷ []) d →
      Makes p s (Passes c n i m j k) (record s { part = put (put (put s.part n a) m b) n d; passed = put s.passed c (s.passed c ++ message x ∷ []) })

-- these moves, one after another
pub data MakesAll (p : Plan) : Program → List Move → Program → Type 0 where
  no_more : {s : Program} → MakesAll p s [] s
  one_more : {s t u : Program} {m : Move} {ms : List Move} → Makes p s m t → MakesAll p t ms u → MakesAll p s (m ∷ ms) u

abbrev pub Reaches : Plan → List Move → Program → Type 0
Reaches p ms s = MakesAll p (program_of p) ms s

-- no move can be made
abbrev pub IsQuiet : Plan → Program → Type 0
IsQuiet p s = (m : Move) (t : Program) → Makes p s m t → ⊥

-- all processes have ended
abbrev pub HasEnded : Plan → Program → Type 0
HasEnded p s = (n : ℕ) → n < length p.nodes → (s.part n).rest ≡ Done

-- it is stuck: no move can be made, and a process has not ended
abbrev pub IsStuck : Plan → Program → Type 0
IsStuck p s = IsQuiet p s × (HasEnded p s → ⊥)

-- no schedule gets stuck
abbrev pub NeverStuck : Plan → Type 0
NeverStuck p = (ms : List Move) (s : Program) → Reaches p ms s → IsStuck p s → ⊥

-- no schedule has more moves
abbrev pub EndsWithin : Plan → ℕ → Type 0
EndsWithin p n = (ms : List Move) (s : Program) → Reaches p ms s → length ms ≤ n

-- these moves get it stuck, and no schedule with fewer moves does
pub record IsShortestStuck (p : Plan) (ms : List Move) (s : Program) : Type 0 where
  pub reaches : Reaches p ms s
  pub is_stuck : IsStuck p s
  pub none_shorter : (ls : List Move) (t : Program) → Reaches p ls t → length ls < length ms → IsStuck p t → ⊥

-- no schedule of so many moves, or fewer, gets stuck
abbrev pub NotStuckWithin : Plan → ℕ → Type 0
NotStuckWithin p n = (ms : List Move) (s : Program) → Reaches p ms s → length ms ≤ n → IsStuck p s → ⊥

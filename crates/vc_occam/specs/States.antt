-- The state of a running process, and what it does at once.
use Rattle.std.specs.Prelude.{◌≡◌, ◌≢◌, ℕ, ◌==◌, if◌then◌else◌, List, [], ◌∷◌, ◌++◌, Option, Some, None}
use Rattle.std.specs.List.{Contains}
use Rattle.std.specs.Option.{option_or}
use Rattle.vc_process.specs.declared.datum.Datum.{Datum}
use Rattle.vc_process.specs.ProcessStep.{ProcessStep, Offers, Wants, Chooses, Stops, Meets, Rests, Finishes, Receives}
use Rattle.vc_occam.specs.SiteActions.{SiteAction}
use Rattle.vc_occam.specs.SiteActions as action
use Rattle.vc_occam.specs.declared.moves.Move.{Move}
use Rattle.vc_occam.specs.declared.moves.Move.TheVariants as move
use Rattle.vc_occam.specs.declared.answer.Answer.{Answer}
use Rattle.vc_occam.specs.declared.answer.Answer.TheVariants.{Nothing, Waits, Got, GotNumber}
use Rattle.vc_process.specs.Values.{Store, datum_of}
use Rattle.vc_process.specs.Syntax.{Output}
use Rattle.vc_process.specs.Messages.{message, number_bytes}
use Rattle.vc_occam.specs.Traces.{Comm, Out, Fin, In, Stp, End}
use Rattle.vc_occam.specs.Remains.{Rest, Fresh, Finishing, Getting, Then, Turns, Beside, Step, TraceRest}

-- what remains of a process, and what its variables hold
pub record State : Type 0 where
  pub rest : Rest
  pub store : Store

-- one site does something, and these are the communications that it makes
abbrev pub StepsTo : State → ℕ → SiteAction → List Comm → State → Type 0
StepsTo s i d ks s' = Step s.rest s.store i d ks s'.rest s'.store

-- the receiver's action where an output meets it
abbrev pub meeting : Option ℕ → ℕ → List ℕ → SiteAction
meeting None c m = action.Want c (Some m)
meeting (Some k) c m = action.Choose k c (Some m)

-- a process does this, and makes these communications
abbrev pub Does : State → ProcessStep → List Comm → State → Type 0
Does s (Offers i c m) ks s' = (x : Datum) × (m ≡ message x) × (ks ≡ Out c x ∷ []) × StepsTo s i (action.Offer c) ks s'
Does s (Wants i c (Some m)) ks s' = (x : Datum) × (ks ≡ In c x ∷ []) × StepsTo s i (action.Want c (Some m)) ks s'
Does s (Wants i c None) ks s' = (ks ≡ []) × StepsTo s i (action.Want c None) ks s'
Does s (Chooses i k c (Some m)) ks s' = (x : Datum) × (ks ≡ In c x ∷ []) × StepsTo s i (action.Choose k c (Some m)) ks s'
Does s (Chooses i k c None) ks s' = (ks ≡ []) × StepsTo s i (action.Choose k c None) ks s'
Does s (Stops i c) ks s' = (ks ≡ Stp c ∷ []) × StepsTo s i (action.StopChannel c) ks s'
Does s (Meets i j k c m) ks s' =
    (x : Datum) × (y : Datum) × (t : State) × (u : State) × (m ≡ message x) × (ks ≡ Out c x ∷ In c y ∷ Fin c ∷ [])
    × StepsTo s i (action.Offer c) (Out c x ∷ []) t × StepsTo t j (meeting k c m) (In c y ∷ []) u × StepsTo u i action.Finish (Fin c ∷ []) s'
Does s (Rests i) ks s' = (ks ≡ []) × StepsTo s i action.Quiet ks s'
Does s (Finishes c) ks s' = (i : ℕ) × (ks ≡ Fin c ∷ []) × StepsTo s i action.Finish ks s'
Does s (Receives c m) ks s' = (i : ℕ) × (x : Datum) × (ks ≡ In c x ∷ []) × StepsTo s i (action.Message m) ks s'

-- these communications, followed by any trace of what remains after, are a trace of what remained before
abbrev pub IsTraced : State → List Comm → State → Type 0
IsTraced s ks s' = (t : List Comm) (x : End) → TraceRest s'.rest s'.store t x → TraceRest s.rest s.store (ks ++ t) x

-- a process does this, as a part of its traces
abbrev pub Acts : State → ProcessStep → State → Type 0
Acts s d s' = (ks : List Comm) × Does s d ks s' × IsTraced s ks s'

-- the value of the output that can begin at a site
abbrev pub output_at : ℕ → Rest → Store → Option Datum
output_at i (Fresh (Output j c a)) e = if i == j then datum_of a e else None
output_at i (Then r ps) e = output_at i r e
output_at i (Turns r v b n p) e = output_at i r e
output_at i (Beside mine r q) e = option_or (output_at i r e) (output_at i q e)
output_at i r e = None

abbrev pub carried : Option Datum → Option (List ℕ)
carried (Some x) = Some (message x)
carried None = None

-- the message of a move's output
abbrev pub sent_by : State → Move → Option (List ℕ)
sent_by s (move.Offer i c) = carried (output_at i s.rest s.store)
sent_by s (move.Inner i j k c) = carried (output_at i s.rest s.store)
sent_by s m = None

abbrev pub bytes_or_none : Option (List ℕ) → List ℕ
bytes_or_none (Some m) = m
bytes_or_none None = []

abbrev pub came : Answer → Option (List ℕ)
came (Got m) = Some m
came (GotNumber z) = Some (number_bytes z)
came Nothing = None
came Waits = None

-- a move, with what it sends and what comes of it
abbrev pub doing : Move → Option (List ℕ) → Answer → ProcessStep
doing (move.Offer i c) m a = Offers i c (bytes_or_none m)
doing (move.Want i c) m a = Wants i c (came a)
doing (move.Choose i k c) m a = Chooses i k c (came a)
doing (move.Stopch i c) m a = Stops i c
doing (move.Inner i j k c) m a = Meets i j k c (bytes_or_none m)
doing (move.Quiet i) m a = Rests i

-- the answer fits the move: an input has its message or waits, and where an output meets an input the message is the output's
abbrev pub FitsMove : Move → Option (List ℕ) → Answer → Type 0
FitsMove (move.Offer i c) m a = a ≡ Nothing
FitsMove (move.Want i c) m a = a ≢ Nothing
FitsMove (move.Choose i k c) m a = a ≢ Nothing
FitsMove (move.Stopch i c) m a = a ≡ Nothing
FitsMove (move.Inner i j k c) m a = came a ≡ m
FitsMove (move.Quiet i) m a = a ≡ Nothing

-- what a site waits for: that its output on a channel is finished, or a message on a channel
pub data Waiting : Type 0 where
  output : (site chan : ℕ) → Waiting
  input : (site chan : ℕ) → Waiting

-- what remains waits for these
abbrev pub waiting : Rest → List Waiting
waiting (Finishing i c) = output i c ∷ []
waiting (Getting i c v) = input i c ∷ []
waiting (Then r ps) = waiting r
waiting (Turns r v b n p) = waiting r
waiting (Beside mine r q) = waiting r ++ waiting q
waiting r = []

-- the site waits: for its output to be finished, or for a message
abbrev pub IsAwaited : Rest → ℕ → Option (List ℕ) → Type 0
IsAwaited r i None = (c : ℕ) × Contains (waiting r) (output i c)
IsAwaited r i (Some m) = (c : ℕ) × Contains (waiting r) (input i c)

-- the site goes on, on whatever channel it waited
abbrev pub Resumes : State → ℕ → Option (List ℕ) → State → Type 0
Resumes s i None s' = (c : ℕ) → Contains (waiting s.rest) (output i c) → Acts s (Finishes c) s'
Resumes s i (Some m) s' = (c : ℕ) → Contains (waiting s.rest) (input i c) → Acts s (Receives c m) s'

-- the move is a step without a communication
abbrev pub IsQuiet : Move → Type 0
IsQuiet (move.Quiet i) = Unit {0}
IsQuiet m = ⊥

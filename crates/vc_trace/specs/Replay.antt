-- What a replay of event lines answers.
use Rattle.std.specs.Prelude.{◌≡◌, ◌⊎◌, ℕ, ◌+◌, Bool, cond, List, [], ◌++◌, length, codes, decimal, Option, Some, None, Result, Ok, Err, ⊤}
use Rattle.std.specs.Io.BufRead.{ends_with_byte}
use Rattle.std.specs.Io.KnownBytes.{Appends}
use Rattle.vc_core.specs.PossibleEvents.{NetworkState, CanHappenIn}
use Rattle.vc_core.specs.Replay.{RunsTo}
use Rattle.vc_core.specs.declared.close.Close.{Close}
use Rattle.vc_core.specs.declared.event.Event.{Event}
use Rattle.vc_plan.specs.declared.plan.Plan.{Plan}
use Rattle.vc_reader.specs.Laws.{HasDistinctNames}
use Rattle.vc_text.specs.CheckText.{ReadsAccepted}
use Rattle.vc_text.specs.Close.{ClosesIn, OnlyProcessesWait}
use Rattle.vc_text.specs.Streams.{AppendsFront, IsAllOf, IsReadFault}
use Rattle.vc_text.specs.Tail.{IsTail}
use Rattle.vc_waits.specs.Waits.{newline}
use Rattle.vc_text.specs.declared.fault.RunFault.{RunFault}
use Rattle.vc_text.specs.declared.fault.RunFault.TheVariants.{Write}
use Rattle.vc_trace.specs.Escapes.{escaped}
use Rattle.vc_trace.specs.EventOf.{IsEventOf}
use Rattle.vc_trace.specs.EventText.{event_line, events_text}
use Rattle.vc_trace.specs.Lines.{IsLineBefore}
use Rattle.vc_trace.specs.declared.replayed.Replayed.{Replayed}
use Rattle.vc_trace.specs.declared.replayed.Replayed.TheVariants.{Ended, Refused, NoEvents}

-- nothing is left of the text, or it begins as a network's traffic does
abbrev pub EndsEvents : List ℕ → Type 0
EndsEvents text = (text ≡ []) ⊎ (((rest : List ℕ) × (text ≡ codes "channel " ++ rest)) ⊎ ((rest : List ℕ) × (text ≡ codes "end " ++ rest)))

-- no event of the plan that can happen in the state has this line
abbrev pub IsNoEvent : Plan → NetworkState → List ℕ → Type 0
IsNoEvent p x line = (e : Event) → IsEventOf p e → CanHappenIn p x e → event_line p e ≡ line → ⊥

-- the text has the lines of these events, and behind them nothing, or traffic
pub record EndsBehind (known : Option (List ℕ)) (p : Plan) (events : List Event) : Type 0 where
  pub rest : List ℕ
  pub text : IsAllOf known (events_text p events ++ rest)
  pub ends : EndsEvents rest

-- the text has the lines of these events, and behind them another line, which is that of no event that can happen
pub record RefusesBehind (known : Option (List ℕ)) (p : Plan) (events : List Event) (x : NetworkState) (line : List ℕ) : Type 0 where
  pub rest : List ℕ
  pub text : IsAllOf known (events_text p events ++ line ++ rest)
  pub goes_on : EndsEvents (line ++ rest) → ⊥
  pub whole : IsLineBefore rest line
  pub none : HasDistinctNames p → IsNoEvent p x line

-- these events lead to the state, where a run closes so
pub record IsReplay (p : Plan) (events : List Event) (x : NetworkState) (close : Close) : Type 0 where
  pub runs : RunsTo p events x
  pub closes : ClosesIn p x close
  pub waits : OnlyProcessesWait p x close

-- the line, and a newline behind it where it has none
abbrev pub ended_line : List ℕ → List ℕ
ended_line line = cond (ends_with_byte 10 line) line (line ++ newline)

-- the number of a refused line, and the line itself, ended and escaped
abbrev pub refused_text : ℕ → List ℕ → List ℕ
refused_text number line = codes "refused event " ++ decimal number ++ newline ++ escaped (ended_line line)

-- the text of the state that the events of a text lead to, or of the line of it that is refused there
abbrev pub IsReplayText : (why : Bool) → Option (List ℕ) → Plan → Replayed → List ℕ → Type 0
IsReplayText why known p (Ended close) text =
    (events : List Event) × EndsBehind known p events × ((x : NetworkState) × IsReplay p events x close × IsTail why p events x close text)
IsReplayText why known p Refused text =
    (events : List Event) × (x : NetworkState) × RunsTo p events x
    × ((line : List ℕ) × RefusesBehind known p events x line × (text ≡ refused_text (length events + 1) line))
IsReplayText why known p NoEvents text = ⊥

-- the text was written, or a front of it before a fault of the writer; else nothing was
abbrev pub ReplaysPlan : (why : Bool) → Option (List ℕ) → Plan → Option (List ℕ) → Option (List ℕ) → Result Replayed RunFault → Type 0
ReplaysPlan why known p old new (Ok answer) = (text : List ℕ) × IsReplayText why known p answer text × Appends old new text
ReplaysPlan why known p old new (Err Write) =
    (answer : Replayed) × ((text : List ℕ) × IsReplayText why known p answer text × AppendsFront old new text)
ReplaysPlan why known p old new (Err fault) = IsReadFault fault × (new ≡ old)

-- the names of a network file differ, where the reader tells it
abbrev pub NamesDiffer : Option (List ℕ) → Plan → Type 0
NamesDiffer None p = ⊤
NamesDiffer (Some text) p = HasDistinctNames p

-- the reader has this network
abbrev pub ReadsNamed : Option (List ℕ) → Plan → Type 0
ReadsNamed network p = ReadsAccepted network (Ok p) × NamesDiffer network p

-- The reader's network makes the events of a file. `Holds` says which bytes the file may have, and `Fails` whether opening it may fail.
abbrev pub Replays : (why : Bool) → Option (List ℕ) → (Option (List ℕ) → Type 0) → Type 0 → Option (List ℕ) → Option (List ℕ)
    → Result Replayed RunFault → Type 0
Replays why network Holds Fails old new (Ok NoEvents) = (p : Plan) × ReadsNamed network p × Fails × (new ≡ old)
Replays why network Holds Fails old new (Ok answer) =
    (p : Plan) × ReadsNamed network p × ((known : Option (List ℕ)) × Holds known × ReplaysPlan why known p old new (Ok answer))
Replays why network Holds Fails old new (Err Write) =
    (p : Plan) × ReadsNamed network p × ((known : Option (List ℕ)) × Holds known × ReplaysPlan why known p old new (Err Write))
Replays why network Holds Fails old new (Err fault) = ReadsAccepted network (Err fault) × (new ≡ old)

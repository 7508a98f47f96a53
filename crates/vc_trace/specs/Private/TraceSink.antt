-- A sink that writes events, since it was another.
use Rattle.std.specs.Prelude.{◌≡◌, ℕ, List, ◌++◌, Option, true, false}
use Rattle.std.specs.Io.KnownBytes.{Appends}
use Rattle.vc_core.specs.declared.event.Event.{Event}
use Rattle.vc_plan.specs.declared.plan.Plan.{Plan}
use Rattle.vc_text.specs.Pieces.{Passes}
use Rattle.vc_text.specs.Streams.{AppendsFront}
use Rattle.vc_text.specs.declared.fault.RunFault.{RunFault}
use Rattle.vc_text.specs.declared.fault.RunFault.TheVariants.{Write, Memory}
use Rattle.vc_trace.specs.EventText.{events_text}
use Rattle.vc_trace.specs.declared.trace_sink.TraceSink.{TraceSink}

-- it has passed these events' lines to the same writer
pub record HasPassed {W : Type 0} (contents : W → Option (List ℕ)) (old new : TraceSink W) (plan : Plan) (events : List Event) : Type 0 where
  pub same_writer : new.writer.ghost_name ≡ old.writer.ghost_name
  pub is_of : new.plan.now ≡ plan
  pub passed : Passes (contents old.writer.now) old.piece.items (contents new.writer.now) new.piece.items (events_text plan events)
  pub works : new.has_failed ≡ false

-- that writer failed, and got a prefix of them
pub record HasFailed {W : Type 0} (contents : W → Option (List ℕ)) (old new : TraceSink W) (plan : Plan) (events : List Event) : Type 0 where
  pub same_writer : new.writer.ghost_name ≡ old.writer.ghost_name
  pub got : AppendsFront (contents old.writer.now) (contents new.writer.now) (old.piece.items ++ events_text plan events)
  pub fails : new.has_failed ≡ true

-- out of memory, the text was written; if the writer failed, a prefix of it
abbrev pub EndsEarly : Option (List ℕ) → Option (List ℕ) → List ℕ → RunFault → Type 0
EndsEarly old new text Memory = Appends old new text
EndsEarly old new text Write = AppendsFront old new text
EndsEarly old new text fault = ⊥

-- What reading an event from its line answers.
use Rattle.std.specs.Prelude.{◌≡◌, List, ℕ, Option, Some, None}
use Rattle.vc_core.specs.declared.event.Event.{Event}
use Rattle.vc_plan.specs.declared.plan.Plan.{Plan}
use Rattle.vc_trace.specs.EventOf.{IsEventOf}
use Rattle.vc_trace.specs.Private.EventOf.{IsNamed}
use Rattle.vc_trace.specs.EventText.{event_line}
use Rattle.vc_trace.specs.Private.Names.{AreNamesOf}
use Rattle.vc_trace.specs.declared.event_reader.EventReader.{EventReader}

-- it reads events of this plan
pub record IsReaderOf (p : Plan) (reader : EventReader) : Type 0 where
  pub plan : reader.plan.now ≡ p
  pub names : IsNamed p → AreNamesOf p reader.names

-- in a plan whose names differ, each event of the plan that has this line is this one
abbrev pub IsOnlyEvent : Plan → List ℕ → Event → Type 0
IsOnlyEvent p line e = IsNamed p → (f : Event) → IsEventOf p f → event_line p f ≡ line → e ≡ f

-- the event of this line; or no event of the plan has it
abbrev pub ReadsEvent : Plan → List ℕ → Option Event → Type 0
ReadsEvent p line (Some e) = (event_line p e ≡ line) × IsOnlyEvent p line e
ReadsEvent p line None = IsNamed p → (e : Event) → IsEventOf p e → event_line p e ≡ line → ⊥

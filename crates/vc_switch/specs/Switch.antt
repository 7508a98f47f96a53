-- A switch: its inputs and outputs, and how tokens come, pass, are bound to an output, and leave.
use Rattle.vc_packets.specs.Counters.{one_more}
use Rattle.std.specs.Prelude.{◌≡◌, ℕ, ◌+◌, ◌-◌, ◌%◌, ◌≤◌, ◌<◌, length, List, [], ◌∷◌, ◌++◌, Option, Some, None, if◌then◌else◌}
use Rattle.vc_packets.specs.declared.mark.Mark.{Mark}
use Rattle.vc_packets.specs.Headers.{spelled}
use Rattle.vc_switch.specs.Forward.{SwitchPlan, Interval, without_portals, behind}
use Rattle.vc_labels.specs.declared.action.Action.TheVariants.{Out}
use Rattle.vc_labels.specs.Interval.{action_for}
use Rattle.vc_packets.specs.Functions.{put}
use Rattle.vc_tokens.specs.Tokens.{Token, Byte, Fct, EndMark}
use Rattle.vc_credit.specs.Ends.{Sender, Receiver, Grants, Puts, IsDue, new_sender, new_receiver, credited, received}
use Rattle.vc_switch.specs.Waiting.{Waiting, MayGo}

-- an input link
pub record Input : Type 0 where
  pub receiver : Receiver
  pub word : ℕ  -- of the latest take
  pub got : List ℕ  -- the bytes passed of a packet, behind the random header
  pub mark : Option Mark  -- of a packet that has come whole
  pub bound : Option ℕ  -- the output link

pub record Switch : Type 0 where
  pub input : ℕ → Input  -- by link
  pub output : ℕ → Sender  -- by link
  pub lost : ℕ

abbrev pub new_input : Input
new_input = record { receiver = new_receiver; word = 0; got = []; mark = None; bound = None }

abbrev pub new_switch : Switch
new_switch = record { input = λ link. new_input; output = λ link. new_sender; lost = 0 }

abbrev pub set_input : Switch → ℕ → Input → Switch
set_input s link x = record s { input = put s.input link x }

abbrev pub set_output : Switch → ℕ → Sender → Switch
set_output s link x = record s { output = put s.output link x }

-- the random header that a word gives, where the input has a range
abbrev pub drawn : Option Interval → ℕ → Option ℕ
drawn None word = None
drawn (Some i) word = Some (i.lower + word % (i.limit - i.lower))

-- with headers s a packet may leave by the link, with headers t
pub record Leaves (plan : SwitchPlan) (s : List ℕ) (link : ℕ) (t : List ℕ) : Type 0 where
  pub header : ℕ
  pub rest : List ℕ
  pub first : ℕ
  pub last : ℕ
  pub front : without_portals plan.table s ≡ header ∷ rest
  pub group : action_for plan.table header ≡ Some (Out first last)
  pub low : first ≤ link
  pub high : link ≤ last
  pub left : t ≡ (if plan.deletes link then rest else header ∷ rest)

-- the body b may leave by the link, as the body d
pub record BodyLeaves (plan : SwitchPlan) (b : List ℕ) (link : ℕ) (d : List ℕ) : Type 0 where
  pub stack : List ℕ
  pub after : List ℕ
  pub rest : List ℕ
  pub before_is : b ≡ spelled stack ++ rest
  pub leaves : Leaves plan stack link after
  pub after_is : d ≡ spelled after ++ rest

-- behind portals the body has a header with a group
pub record HasGroup (plan : SwitchPlan) (b : List ℕ) : Type 0 where
  pub stack : List ℕ
  pub rest : List ℕ
  pub header : ℕ
  pub behind_it : List ℕ
  pub first : ℕ
  pub last : ℕ
  pub is : b ≡ spelled stack ++ rest
  pub front : without_portals plan.table stack ≡ header ∷ behind_it
  pub group : action_for plan.table header ≡ Some (Out first last)

-- a token comes: an FCT is credit for the output of the same link, all else goes to the input's buffer
abbrev pub with_token : Switch → ℕ → ℕ → Token → Switch
with_token s link word Fct = record s { input = put s.input link (record (s.input link) { word = word }); output = put s.output link (credited (s.output link)) }
with_token s link word (Byte b) = set_input s link (record (s.input link) { receiver = received (s.input link).receiver (Byte b); word = word })
with_token s link word (EndMark m) = set_input s link (record (s.input link) { receiver = received (s.input link).receiver (EndMark m); word = word })

-- A token that comes is dropped where it is not due.
pub data Comes (old : Switch) (link word : ℕ) (k : Token) (new : Switch) : Type 0 where
  due : IsDue (old.output link) (old.input link).receiver k → new ≡ with_token old link word k → Comes old link word k new
  not_due : (IsDue (old.output link) (old.input link).receiver k → ⊥) → new ≡ record (set_input old link (record (old.input link) { word = word })) { lost = one_more old.lost } → Comes old link word k new

-- the bytes got, with the random header in front before the first token
abbrev pub headed : Option ℕ → List ℕ → List ℕ
headed v [] = spelled (behind v [])
headed v (b ∷ bs) = b ∷ bs

abbrev pub with_header : SwitchPlan → ℕ → Input → List ℕ
with_header plan link x = headed (drawn (plan.random link) x.word) x.got

-- the front of the buffer has passed: these are the bytes got, with their mark
abbrev pub passing : Input → List Token → List ℕ → Option Mark → Input
passing x rest got mark = record x { receiver = record x.receiver { buffer = rest }; got = got; mark = mark }

-- A token passes from the input's buffer, unless a packet is whole in the input. A byte past the limit is dropped, and a packet without a group with its mark.
pub data Passes (limit : ℕ) (plan : SwitchPlan) (old : Switch) (link : ℕ) (new : Switch) : Type 0 where
  passes_byte : (b : ℕ) (rest : List Token) → (old.input link).mark ≡ None → (old.input link).receiver.buffer ≡ Byte b ∷ rest → length (with_header plan link (old.input link)) < limit →
      new ≡ set_input old link (passing (old.input link) rest (with_header plan link (old.input link) ++ b ∷ []) None) → Passes limit plan old link new
  drops_byte : (b : ℕ) (rest : List Token) → (old.input link).mark ≡ None → (old.input link).receiver.buffer ≡ Byte b ∷ rest → limit ≤ length (with_header plan link (old.input link)) →
      new ≡ record (set_input old link (passing (old.input link) rest (with_header plan link (old.input link)) None)) { lost = one_more old.lost } → Passes limit plan old link new
  passes_mark : (m : Mark) (rest : List Token) → (old.input link).mark ≡ None → (old.input link).receiver.buffer ≡ EndMark m ∷ rest →
      HasGroup plan (with_header plan link (old.input link)) →
      new ≡ set_input old link (passing (old.input link) rest (with_header plan link (old.input link)) (Some m)) → Passes limit plan old link new
  loses : (m : Mark) (rest : List Token) → (old.input link).mark ≡ None → (old.input link).receiver.buffer ≡ EndMark m ∷ rest →
      (HasGroup plan (with_header plan link (old.input link)) → ⊥) →
      new ≡ record (set_input old link (passing (old.input link) rest [] None)) { lost = one_more old.lost } → Passes limit plan old link new

-- the packet at the input is bound to an output of its group that no input is bound to
pub record Routes (plan : SwitchPlan) (waiting : Waiting) (old : Switch) (link output : ℕ) (new : Switch) : Type 0 where
  pub body : List ℕ
  pub unbound : (old.input link).bound ≡ None
  pub group : BodyLeaves plan (old.input link).got output body
  pub may_go : MayGo waiting (old.input link).mark
  pub free : (i : ℕ) → (old.input i).bound ≡ Some output → ⊥
  pub after : new ≡ set_input old link (record (old.input link) { bound = Some output })

-- with its mark a packet leaves the input, and the output is free again
abbrev pub released : Switch → ℕ → Token → Switch
released s link (EndMark m) = set_input s link (record (s.input link) { got = []; mark = None; bound = None })
released s link (Byte b) = s
released s link Fct = s

-- the next token of the one packet that is bound to the output goes out
pub record Sends (plan : SwitchPlan) (waiting : Waiting) (old : Switch) (output : ℕ) (k : Token) (new : Switch) : Type 0 where
  pub link : ℕ
  pub body : List ℕ
  pub sender : Sender
  pub bound : (old.input link).bound ≡ Some output
  pub only : (i : ℕ) → (old.input i).bound ≡ Some output → i ≡ link
  pub leaves : BodyLeaves plan (old.input link).got output body
  pub may_go : MayGo waiting (old.input link).mark
  pub puts : Puts (old.output output) body (old.input link).mark k sender
  pub after : new ≡ set_output (released old link k) output sender

-- an FCT goes out by the link
pub record SendsFct (old : Switch) (link : ℕ) (new : Switch) : Type 0 where
  pub receiver : Receiver
  pub grants : Grants (old.input link).receiver receiver
  pub after : new ≡ set_input old link (record (old.input link) { receiver = receiver })

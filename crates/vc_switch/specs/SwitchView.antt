-- What a switch is, in the words of its steps.
use Rattle.std.specs.Prelude.{◌≡◌, ℕ, List, [], take, drop, slice_get, Option, Some, None}
use Rattle.vc_credit.specs.Ends.{Sender, new_sender}
use Rattle.vc_switch.specs.Switch.{Input, Switch, new_input}
use Rattle.vc_switch.specs.State.{State, output_of, plan_of, limit_of}
use Rattle.vc_packets.specs.Functions.{shown_or}
use Rattle.vc_switch.specs.declared.link_in.LinkIn.{LinkIn}
use Rattle.vc_switch.specs.declared.link_in.Bound.{Bound}
use Rattle.vc_switch.specs.declared.link_out.LinkOut.{LinkOut}

abbrev pub input_of : LinkIn → Input
input_of x = record { receiver = x.receiver; word = x.word; got = x.got.passed; mark = x.mark; bound = output_of x.bound }

-- the bytes put of a packet that is under way
abbrev pub sent_by : List ℕ → Option Bound → List ℕ
sent_by got None = []
sent_by got (Some b) = take b.sent (drop b.from got)

abbrev pub sent_of : LinkIn → List ℕ
sent_of x = sent_by x.got.passed x.bound

abbrev pub sent_from : List LinkIn → Option ℕ → List ℕ
sent_from inputs None = []
sent_from inputs (Some link) = shown_or [] sent_of (slice_get inputs link)

abbrev pub sender_of : List LinkIn → LinkOut → Sender
sender_of inputs x = record { sent = sent_from inputs x.source; credit = x.credit }

abbrev pub seen : State → Switch
seen s = record {
  input = λ link. shown_or new_input input_of (slice_get s.inputs link);
  output = λ link. shown_or new_sender (sender_of s.inputs) (slice_get s.outputs link);
  lost = s.lost;
}

-- what the switch does with headers, and the limit, never change
pub record IsKept (old new : State) : Type 0 where
  pub plan : plan_of new ≡ plan_of old
  pub limit : limit_of new.inputs ≡ limit_of old.inputs

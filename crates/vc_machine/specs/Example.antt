-- A network of one switch with a random range, a portal and two nodes: an input puts 101 or 102 in front, both portals.
use Rattle.std.specs.Prelude.{ℕ, zero, suc, true, false, List, [], ◌∷◌, Option, Some, None}
use Rattle.vc_machine.specs.Paths.{Port, AtNode, AtSwitch, Channel, Net}
use Rattle.vc_labels.specs.declared.action.Action.TheVariants.{Out, Portal}
use Rattle.vc_switch.specs.Forward.{Interval, SwitchPlan}
use Rattle.vc_machine.specs.Machine.{Event, Offer, Want, Send, Receive, Enter, Route, Leave}

abbrev pub near : ℕ → Port
near zero = AtNode 0 0
near (suc zero) = AtSwitch 0 0
near (suc (suc zero)) = AtSwitch 0 1
near (suc (suc (suc w))) = AtNode 1 0

abbrev pub far : ℕ → Port
far zero = AtSwitch 0 0
far (suc zero) = AtNode 0 0
far (suc (suc zero)) = AtNode 1 0
far (suc (suc (suc w))) = AtSwitch 0 1

abbrev pub random : ℕ → Option Interval
random zero = Some (record { lower = 101; limit = 103 })
random (suc n) = None

abbrev pub switch : SwitchPlan
switch = record {
  table = record { lower = 0; limit = 50; action = Out 0 0 } ∷ record { lower = 50; limit = 100; action = Out 1 1 }
      ∷ record { lower = 100; limit = 103; action = Portal } ∷ [];
  random = random;
  deletes = λ n. false;
}

abbrev pub channel : Channel
channel = record { from = record { node = 0; way = 0; block = 7; route = 50 ∷ [] }; to = record { node = 1; way = 3; block = 50; route = 7 ∷ [] } }

abbrev pub example : Net
example = record { ways = 4; near = near; far = far; switch = λ n. switch; chans = 1; virtual = λ c. true; chan = λ c. channel }

-- a message goes over, and is acknowledged
abbrev pub exchange : List Event
exchange = Offer 0 (104 ∷ 105 ∷ []) ∷ Send 0 ∷ Enter 0 (Some 101) ∷ Route 0 2 ∷ Leave 0 ∷ Receive 2 ∷ Want 0 ∷ Send 3 ∷ Enter 3 None ∷ Route 3 1 ∷ Leave 3 ∷ Receive 1 ∷ []

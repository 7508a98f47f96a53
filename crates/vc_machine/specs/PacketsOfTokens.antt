-- The state of the packet machine that tokens stand for, as a function.
use Rattle.std.specs.Prelude.{ℕ, List, [], ◌∷◌, ◌++◌, Option, Some, None}
use Rattle.vc_packets.specs.declared.mark.Mark.{Mark}
use Rattle.vc_packets.specs.declared.packet.Packet.{Packet}
use Rattle.vc_machine.specs.Paths.{Port, AtNode, AtSwitch, Net}
use Rattle.vc_switch.specs.Forward.{Interval}
use Rattle.vc_machine.specs.Machine.{State, Input, Empty, Full}
use Rattle.vc_tokens.specs.Tokens.{Token, Byte, Fct, EndMark}
use Rattle.vc_machine.specs.Links.{Tokens}

-- the whole packets of these tokens, of the first of which these bytes have been read
abbrev pub read : List ℕ → List Token → List Packet
read got [] = []
read got (Byte b ∷ ts) = read (got ++ b ∷ []) ts
read got (EndMark m ∷ ts) = record { body = got; mark = m } ∷ read [] ts
read got (Fct ∷ ts) = read got ts

abbrev pub without_two : List ℕ → List ℕ
without_two [] = []
without_two (a ∷ []) = []
without_two (a ∷ b ∷ rest) = rest

-- the bytes got without the random header
abbrev pub without_random : Option Interval → List ℕ → List ℕ
without_random None got = got
without_random (Some i) got = without_two got

-- what has been passed on of a packet whose mark has not
abbrev pub passed_on : Net → Port → List ℕ → Option Mark → List ℕ
passed_on net p got (Some m) = []
passed_on net (AtNode n i) got None = got
passed_on net (AtSwitch n i) got None = without_random ((net.switch n).random i) got

abbrev pub input_of : List ℕ → Option Mark → Option ℕ → Input
input_of got None bound = Empty
input_of got (Some m) bound = Full (record { body = got; mark = m }) bound

abbrev pub seen : Net → Tokens → State
seen net t = record {
  ways = λ w. let r = t.receiver w in record {
    queue = (t.nodes.ways w).queue;
    line = read (passed_on net (net.far w) r.got r.mark) (r.buffer ++ t.wire w);
    input = input_of r.got r.mark r.bound;
  };
  chans = t.nodes.chans;
  strays = t.nodes.strays;
  lost = t.nodes.lost;
}

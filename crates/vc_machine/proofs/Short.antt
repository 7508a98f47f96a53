-- No packet on the ways is longer than the limit.
use Rattle.std.proofs.Common.{◌≡◌, ℕ, zero, suc, ◌+◌, ◌*◌, ◌≤◌, List, [], ◌∷◌, ◌++◌, length, Option, refl, sym, subst}
use Rattle.std.specs.List.{AllByRecursion}
use Rattle.std.proofs.lemmas.List.Elements.{All-from_recursion, All-contains}
use Rattle.vc_packets.specs.declared.packet.Packet.{Packet}
use Rattle.vc_machine.specs.Paths.{Net}
use Rattle.vc_machine.specs.Machine.{State, Input, Empty, Full}
use Rattle.vc_machine.specs.Places.{Place, Queue, OnWire, Inside, of_input, at_place, in_ways}
use Rattle.vc_machine.specs.Private.Laws.{FitsWay, IsLimit, CameFitting}
use Rattle.vc_machine.specs.Owners.{PacketsAreShort}
use Rattle.vc_machine.proofs.PacketSizes.{limits, PacketsFit, packets_fit}
use Rattle.vc_machine.proofs.Ownership.{all_both}

abbrev IsShort : ℕ → Place × Packet → Type 0
IsShort limit x = length x.1.body ≤ limit

all_short : (net : Net) (most w : ℕ) (place : Place) (ps : List Packet) → IsLimit net (FitsWay net most) (2 * most + 32) → AllByRecursion (λ p. FitsWay net most w p.body) ps →
    AllByRecursion (IsShort (2 * most + 32)) (at_place place ps)
all_short net most w place [] limit fit = tt
all_short net most w place (p ∷ ps) limit fit = (limit.short w p.body fit.0, all_short net most w place ps limit fit.1)

input_short : (net : Net) (most w : ℕ) (i : Input) → IsLimit net (FitsWay net most) (2 * most + 32) → ((p : Packet) (bound : Option ℕ) → i ≡ Full p bound → CameFitting net (FitsWay net most) w p) →
    AllByRecursion (IsShort (2 * most + 32)) (at_place (Inside w) (of_input i))
input_short net most w Empty limit fit = tt
input_short net most w (Full p bound) limit fit =
    let f = fit p bound refl in
    (subst (λ b. length b ≤ 2 * most + 32) (sym f.is) (limit.headed w f.switch f.link f.drawn f.body f.far f.draw f.fits), tt)

ways_short : (net : Net) (most : ℕ) (s : State) (n : ℕ) → IsLimit net (FitsWay net most) (2 * most + 32) → PacketsFit net most s → AllByRecursion (IsShort (2 * most + 32)) (in_ways s n)
ways_short net most s zero limit fit = tt
ways_short net most s (suc w) limit fit =
    let a = s.ways w in
    let short = IsShort (2 * most + 32) in
    all_both short ((at_place (Queue w) a.queue ++ at_place (OnWire w) a.line) ++ at_place (Inside w) (of_input a.input)) (in_ways s w)
    (all_both short (at_place (Queue w) a.queue ++ at_place (OnWire w) a.line) (at_place (Inside w) (of_input a.input))
    (all_both short (at_place (Queue w) a.queue) (at_place (OnWire w) a.line) (all_short net most w (Queue w) a.queue limit (fit.queues w)) (all_short net most w (OnWire w) a.line limit (fit.lines w)))
    (input_short net most w a.input limit (fit.inputs w)))
    (ways_short net most s w limit fit)

pub packets_short : (net : Net) → PacketsAreShort net
packets_short net most es s acc has run x here =
    let short = IsShort (2 * most + 32) in
    All-contains short (in_ways s net.ways) x (All-from_recursion short (in_ways s net.ways) (ways_short net most s net.ways (limits net most has) (packets_fit net most acc has es s run))) here

use Rattle.std.proofs.Common.{◌≡◌, ◌↔◌, ◌++◌, ◌<◌, [], IsTrue, List, sym, ap, ◌∙◌, subst, arith}
use Rattle.vc_tokens.specs.CodeTokens.{tokens}
use Rattle.vc_tokens.specs.Tokens.{Token}
use Rattle.vc_machine.specs.Places.{OnWire}
use Rattle.vc_machine.specs.PacketsOfTokens.{read}
use Rattle.vc_network.specs.Plan.{ways}
use Rattle.vc_network.specs.Views.{vcps, switches, arrived}
use Rattle.vc_accepted.specs.NetworkOf.{network_of, port_of}
use Rattle.vc_packets.specs.Functions.{shown_or}
use Rattle.vc_core.specs.Private.PacketPlace.{HasIts}
use Rattle.vc_core.specs.Private.Targets.{left}
use Rattle.vc_core.specs.State.{shown, state_of}
use Rattle.vc_core.proofs.Membership.{through_both, through_more}
use Rattle.vc_core.proofs.Events.{none_past}
use Rattle.vc_core.proofs.Ways.{along}
use Rattle.vc_core.proofs.network.Network.carries.Goals as goal

pub returns-in-Some : goal.returns-in-Some
returns-in-Some c = λ p c' is owned ends less there.
    let n = state_of c.args.self.now in
    let s = shown n in
    let plan = network_of p in
    let w = c.args.way in
    let real : w < ways plan = subst (λ k. w < k) is.ways less in
    let port = port_of c.args.far in
    let a = arrived (vcps s) (switches plan s) port in
    let passed = c.passed_at.result.now in
    let first = c.tokens_at.result.0.now in
    let second = c.tokens_at.result.1.now in
    let begun = c.new.ensures p c' real ends in
    let one = c.through.ensures p c' w [] passed is begun in
    let two = c.through-reader.ensures p c' w (read passed (tokens first)) (left passed (tokens first)) is one in
    let buffer = through_both p c' w [] passed first second a.buffer c.through-reader.result (c.tokens_at.ensures p is) two in
    let third = c.tokens.result.0.now in
    let fourth = c.tokens.result.1.now in
    let ps = read passed a.buffer in
    let got = left passed a.buffer in
    let line : tokens (third ++ fourth) ≡ s.way w = c.tokens.ensures ∙ ap (shown_or [] (λ (ts : List Token). ts)) c.in-Some.ensures in
    let three = c.through-in-Some.ensures p c' w ps got is buffer in
    let four = c.through-in-Some-2.ensures p c' w (ps ++ read got (tokens third)) (left got (tokens third)) is three in
    let all = through_both p c' w ps got third fourth (s.way w) c.through-in-Some-2.result line four in
    subst (λ t. IsTrue t ↔ HasIts plan s c' (OnWire w)) (sym c.has_found.ensures)
    (along p n c' w port passed c.through-in-Some-2.result is owned real there (c.passed_at.ensures p is) (through_more p c' w [] passed a.buffer (s.way w) c.through-in-Some-2.result all))

pub returns-in-None : goal.returns-in-None
returns-in-None c = λ p c' is owned ends less there.
    let n = state_of c.args.self.now in
    let past = none_past n.ways c.args.way (sym c.in-None.ensures) in
    absurd (omega arith)

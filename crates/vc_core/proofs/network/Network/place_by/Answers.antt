use Rattle.std.proofs.Common.{◌≡◌, ◌<◌, None, length, subst, inl, inr, arith}
use Rattle.std.proofs.lemmas.Bool.{cases_lt}
use Rattle.vc_accepted.specs.NetworkOf.{network_of}
use Rattle.vc_network.specs.Plan.{ways}
use Rattle.vc_core.specs.Private.PacketPlace.{FindsOn}
use Rattle.vc_core.specs.State.{state_of, shown}
use Rattle.vc_core.proofs.PacketPlaces.{found_held, found_way, found_nowhere, is_channel}
use Rattle.vc_actor.proofs.Turns.{clash}
use Rattle.vc_core.proofs.network.Network.place_by.Goals as goal

pub returns-then-holds : goal.returns-then-holds
returns-then-holds c = λ p is owned ends.
    let e = c.args.ends.now in
    found_held p (state_of c.args.self.now) c.args.chan e ends (is_channel p c.args.chan e ends) (c.holds.ensures.0 c.if-holds.true)

pub returns-in-Some : goal.returns-in-Some
returns-in-Some c = λ p is owned ends.
    let s = state_of c.args.self.now in
    let test = c.loop-way-test.true in
    let long = c.len-way-end.ensures in
    let less : c.loop-way.way < length s.ways = omega arith in
    let real : c.loop-way.way < ways (network_of p) = subst (λ n. c.loop-way.way < n) is.ways less in
    found_way p s c.args.chan c.loop-way.way c.args.ends.now c.in-Some.place ends real
    (subst (FindsOn (network_of p) (shown s) c.args.chan c.loop-way.way) c.in-Some.is (c.place_on.ensures p c.args.chan is owned ends less))

pub loop-way-preserved : goal.loop-way-preserved
loop-way-preserved c = λ p j is owned ends below.
    let s = state_of c.args.self.now in
    let test = c.loop-way-test.true in
    let long = c.len-way-end.ensures in
    let less : c.loop-way.way < length s.ways = omega arith in
    elim (cases_lt j c.loop-way.way) [
      | inl sooner ↦ c.loop-way.invariant p j is owned ends sooner
      | inr later ↦ (let same : c.loop-way.way ≡ j = omega arith in
          subst (λ z. FindsOn (network_of p) (shown s) c.args.chan z None) same
          (subst (FindsOn (network_of p) (shown s) c.args.chan c.loop-way.way) c.in_default.is (c.place_on.ensures p c.args.chan is owned ends less)))
    ]

pub returns : goal.returns
returns c = λ p is owned ends.
    let s = state_of c.args.self.now in
    let past = c.loop-way-test.false in
    let long = c.len-way-end.ensures in
    let all = is.ways in
    found_nowhere p s c.args.chan c.args.ends.now ends (λ held. clash c.holds.result c.if-holds.false (c.holds.ensures.1 held)) (λ w less. c.loop-way.invariant p w is owned ends (omega arith))

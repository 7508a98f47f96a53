use Rattle.std.proofs.Common.{◌≡◌, ◌+◌, arith, length, sym, subst}
use Rattle.vc_actor.proofs.ChannelWays.{few_channels}
use Rattle.vc_core.specs.State.{shown, state_of}
use Rattle.vc_waits.proofs.PacketPlaces.{ArePlacesTo, finds_place, places_all, places_more}
use Rattle.vc_waits.proofs.packets.places.Goals as goal

pub loop-chan-preserved : goal.loop-chan-preserved
loop-chan-preserved c = λ p events reached.
    let s = state_of c.args.network.now in
    subst (ArePlacesTo p (shown s) (c.loop-chan.chan + 1)) (sym c.in_ok-push.ensures.items)
    (places_more p (shown s) c.loop-chan.chan c.loop-chan.places.items c.place.result (finds_place p s c.loop-chan.chan c.place.result (c.place.ensures.finds p events reached)) (c.loop-chan.invariant p events reached))

pub returns : goal.returns
returns c = λ p events reached.
    let many = c.channels-chan-end.ensures p reached.is in
    let few = few_channels p reached.is.accepted in
    let test = c.loop-chan-test.false in
    let s = state_of c.args.network.now in
    let to = c.loop-chan.invariant p events reached in
    let bound = c.loop-chan.auto.chan-end in
    let all : c.loop-chan.chan ≡ length p.channels = omega arith in
    places_all p (shown s) c.loop-chan.chan c.loop-chan.places.items all to

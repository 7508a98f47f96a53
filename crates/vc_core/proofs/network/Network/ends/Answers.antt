use Rattle.std.proofs.Common.{◌≡◌, sym, ◌∙◌, slice_get, Some}
use Rattle.vc_core.specs.State.{state_of}
use Rattle.vc_core.proofs.Events.{none_past}
use Rattle.vc_core.proofs.PacketPlaces.{past_ends}
use Rattle.vc_core.proofs.network.Network.ends.Goals as goal

pub returns-in-Some : goal.returns-in-Some
returns-in-Some c = λ p is.
    let n = c.args.self.now in
    let here : slice_get n.channels.items c.args.chan ≡ Some c.in-Some.channel.now = (λ i. slice_get (sym c.as_slice.ensures.value i) (sym c.from.ensures i)) ∙ sym c.in-Some.ensures in
    (is.channels.each c.args.chan c.in-Some.channel.now here).ends

pub returns-in-None : goal.returns-in-None
returns-in-None c = λ p is.
    let n = c.args.self.now in
    let past = none_past n.channels.items c.args.chan ((λ i. slice_get (sym c.as_slice.ensures.value i) (sym c.from.ensures i)) ∙ sym c.in-None.ensures) in
    past_ends p (state_of n) c.args.chan is past

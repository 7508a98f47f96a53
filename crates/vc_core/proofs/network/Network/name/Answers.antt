use Rattle.std.proofs.Common.{◌≡◌, sym, ap, ◌∙◌, slice_get, Some, arith}
use Rattle.std.proofs.lemmas.Option.{slice_get_within}
use Rattle.vc_core.proofs.Events.{none_past}
use Rattle.vc_core.proofs.Views.{channel_is}
use Rattle.vc_core.proofs.network.Network.name.Goals as goal

pub returns-in-Some-clause-is : goal.returns-in-Some-clause-is
returns-in-Some-clause-is c = λ p x is there.
    let n = c.args.self.now in
    let here : slice_get n.channels.items c.args.chan ≡ Some c.in-Some.channel.now = (λ i. slice_get (sym c.as_slice.ensures.value i) (sym c.from.ensures i)) ∙ sym c.in-Some.ensures in
    let info = is.channels.each c.args.chan c.in-Some.channel.now here in
    c.as_str.ensures.value ∙ info.name ∙ ap (λ z. z.name) (channel_is p c.args.chan c.in-Some.channel.now x info there)

pub returns-in-None-clause-is : goal.returns-in-None-clause-is
returns-in-None-clause-is c = λ p x is there.
    let n = c.args.self.now in
    let past = none_past n.channels.items c.args.chan ((λ i. slice_get (sym c.as_slice.ensures.value i) (sym c.from.ensures i)) ∙ sym c.in-None.ensures) in
    let few = is.channels.count in
    let within = slice_get_within p.channels c.args.chan x there in
    absurd (omega arith)

pub returns-in-Some-clause-lacks : goal.returns-in-Some-clause-lacks
returns-in-Some-clause-lacks c = λ p is past.
    let n = c.args.self.now in
    let here : slice_get n.channels.items c.args.chan ≡ Some c.in-Some.channel.now = (λ i. slice_get (sym c.as_slice.ensures.value i) (sym c.from.ensures i)) ∙ sym c.in-Some.ensures in
    let within = slice_get_within n.channels.items c.args.chan c.in-Some.channel.now here in
    let few = is.channels.count in
    absurd (omega arith)

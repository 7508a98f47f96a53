use Rattle.std.proofs.Common.{◌≡◌, sym, ap, ◌∙◌, slice_get, Some, arith}
use Rattle.std.proofs.lemmas.Option.{slice_get_within}
use Rattle.vc_actor.specs.Private.Parts.{node_at}
use Rattle.vc_core.proofs.Events.{none_past}
use Rattle.vc_core.proofs.network.Network.source.Goals as goal

pub returns-in-Some-at-clause-shows : goal.returns-in-Some-at-clause-shows
returns-in-Some-at-clause-shows c = λ p is less.
    let n = c.args.self.now in
    let here : slice_get n.channels.items c.args.chan ≡ Some c.in-Some.channel.now = (λ i. slice_get (sym c.as_slice.ensures.value i) (sym c.from.ensures i)) ∙ sym c.in-Some.ensures in
    let info = is.channels.each c.args.chan c.in-Some.channel.now here in
    ap node_at (ap (slice_get n.actors.items) (sym info.source) ∙ (λ i. slice_get (sym c.as_slice-in-Some.ensures.value i) c.in-Some.channel.now.source) ∙ sym c.in-Some-at.ensures) ∙ sym c.node.ensures

pub returns-in-None-at-clause-shows : goal.returns-in-None-at-clause-shows
returns-in-None-at-clause-shows c = λ p is less.
    let n = c.args.self.now in
    let here : slice_get n.channels.items c.args.chan ≡ Some c.in-Some.channel.now = (λ i. slice_get (sym c.as_slice.ensures.value i) (sym c.from.ensures i)) ∙ sym c.in-Some.ensures in
    let info = is.channels.each c.args.chan c.in-Some.channel.now here in
    ap node_at (ap (slice_get n.actors.items) (sym info.source) ∙ (λ i. slice_get (sym c.as_slice-in-Some.ensures.value i) c.in-Some.channel.now.source) ∙ sym c.in-None-at.ensures)

pub returns-in-None-clause-shows : goal.returns-in-None-clause-shows
returns-in-None-clause-shows c = λ p is less.
    let n = c.args.self.now in
    let past = none_past n.channels.items c.args.chan ((λ i. slice_get (sym c.as_slice.ensures.value i) (sym c.from.ensures i)) ∙ sym c.in-None.ensures) in
    let few = is.channels.count in
    absurd (omega arith)

pub returns-in-Some-at-clause-lacks : goal.returns-in-Some-at-clause-lacks
returns-in-Some-at-clause-lacks c = λ p is past.
    let n = c.args.self.now in
    let here : slice_get n.channels.items c.args.chan ≡ Some c.in-Some.channel.now = (λ i. slice_get (sym c.as_slice.ensures.value i) (sym c.from.ensures i)) ∙ sym c.in-Some.ensures in
    let within = slice_get_within n.channels.items c.args.chan c.in-Some.channel.now here in
    let few = is.channels.count in
    absurd (omega arith)

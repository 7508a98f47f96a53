use Rattle.std.proofs.Common.{◌∙◌, ◌++◌, List, ℕ, ap}
use Rattle.vc_core.specs.State.{shown, state_of}
use Rattle.vc_draw.specs.State.{counts_line, packet_line}
use Rattle.vc_text.specs.ChannelStates.{channel_of}
use Rattle.vc_text.specs.Views.{shown as traffic_of}
use Rattle.vc_draw.proofs.channel_label.channel_label.Goals as goal

pub returns : goal.returns
returns c =
    let p = c.args.plan.now in
    let view = c.view_of.ensures p c.args.channel.now c.requires.is c.requires.there in
    let place = packet_line p c.place_at.result in
    c.in_ok-push_packet.ensures
    ∙ ap (λ (t : List ℕ). t ++ place) (c.in_ok-push_counts_line.ensures ∙ ap (λ (t : List ℕ). t ++ counts_line (traffic_of c.view_of.result)) c.new-lines.ensures.items ∙ ap counts_line view)
    ∙ ap (λ o. counts_line (channel_of p (shown (state_of c.args.network.now)) c.args.number c.args.channel.now) ++ packet_line p o) c.place_at.ensures

use Rattle.std.proofs.Common.{◌<◌, sym, ap, ◌∙◌, subst, length, slice_get}
use Rattle.std.proofs.lemmas.List.{length-map}
use Rattle.vc_accepted.specs.NetworkOf.{home_in, network_of}
use Rattle.vc_core.specs.State.{shown, state_of}
use Rattle.vc_network.specs.Views.{view}
use Rattle.vc_uses.proofs.NextMessage.{behind}
use Rattle.vc_uses.proofs.traffic.to_come.Goals as goal

pub returns : goal.returns
returns c = λ p events replays lt.
    let v = view (network_of p) (shown (state_of c.args.network.now)) c.args.chan in
    let f = replays.runs.headline.faithful c.args.chan (subst (λ n. c.args.chan < n) (sym (length-map p.channels home_in)) lt) in
    let offered = c.offered.ensures.shows p replays.is lt in
    let taken = c.taken.ensures.shows p replays.is lt in
    behind v.offered v.taken f.in_order.0 v.finished c.get.result f.in_order.1 f.finished f.one_output
    (c.get.ensures ∙ ap (λ xs. slice_get xs c.len.result) offered ∙ ap (slice_get v.offered) (c.len.ensures ∙ ap length taken))

use Rattle.std.proofs.Common.{◌≡◌, ℕ, List, [], Option, Some, None, slice_get, sym, ap, ◌∙◌}
use Rattle.std.proofs.lemmas.Option.{same_Some}
use Rattle.vc_accepted.specs.ActorWays.{outgoing}
use Rattle.vc_accepted.proofs.WayPorts.{outgoing_is}
use Rattle.vc_tokens.specs.Tokens.{Token}
use Rattle.vc_packets.specs.Functions.{shown_or}
use Rattle.vc_core.specs.Links.{last_of}
use Rattle.vc_core.proofs.network.Network.last_put.Goals as goal

abbrev last_in : List (List Token) → ℕ → Option Token
last_in ways way = last_of (shown_or [] (λ ts. ts) (slice_get ways way))

none_some : (o : Option ℕ) (b : ℕ) → None ≡ o → o ≡ Some b → ⊥
none_some o b e f = cc

pub returns-in-Some-clause-token : goal.returns-in-Some-clause-token
returns-in-Some-clause-token c = λ p way is out.
    let k = c.args.actor in
    let l = c.args.link in
    let same = same_Some c.in-Some.way way (c.in-Some.ensures.way ∙ is.wiring k l ∙ (outgoing_is p is.accepted k l way).1 out) in
    c.last_on.ensures ∙ ap (λ o. last_of (shown_or [] (λ ts. ts) o)) c.way.ensures ∙ ap (last_in c.args.self.now.lines.ways) same

pub returns-in-Some-clause-none : goal.returns-in-Some-clause-none
returns-in-Some-clause-none c = λ p is none.
    let k = c.args.actor in
    let l = c.args.link in
    absurd (none c.in-Some.way ((outgoing_is p is.accepted k l c.in-Some.way).0 (sym (is.wiring k l) ∙ sym c.in-Some.ensures.way)))

pub returns-in-None-clause-token : goal.returns-in-None-clause-token
returns-in-None-clause-token c = λ p way is out.
    let k = c.args.actor in
    let l = c.args.link in
    absurd (none_some (outgoing p k l) way (c.in-None.ensures.way ∙ is.wiring k l) ((outgoing_is p is.accepted k l way).1 out))

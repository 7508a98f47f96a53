use Rattle.std.proofs.Common.{◌≡◌, ◌<◌, length, get_or, subst, rules}
use Rattle.vc_vcp.proofs.KeyedLemmas.{found_at}
use Rattle.vc_actor.proofs.inside.Inside.place.Goals as goal

pub returns-then-channel-chan-clause-found : goal.returns-then-channel-chan-clause-found
returns-then-channel-chan-clause-found c =
    let x = c.channel-item in
    let same : c.deref-channel-items.result.now ≡ c.args.self.now = search rules in
    found_at (λ x. x.chan) c.args.chan c.args.self.now c.loop-i.i x.result (subst (λ xs. c.loop-i.i < length xs) same c.loop-i-test.true)
    (subst (λ xs. x.result ≡ get_or xs c.loop-i.i x.result) same x.is) c.if-channel-chan.true c.loop-i.invariant

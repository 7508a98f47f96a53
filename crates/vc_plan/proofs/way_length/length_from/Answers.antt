use Rattle.std.proofs.Common.{ℕ, ◌<◌, subst}
use Rattle.vc_plan.specs.declared.entry.Entry.{Entry}
use Rattle.vc_plan.specs.Private.Paths.{IsNever, IsSometime}
use Rattle.vc_plan.proofs.Arriving.{bounds-are, some-arrives}
use Rattle.vc_plan.proofs.KeptLimits.{limits_of}
use Rattle.vc_plan.proofs.Limits.{limits-fit}
use Rattle.vc_plan.proofs.way_length.length_from.Goals as goal

pub unreachable-requires : goal.unreachable-requires
unreachable-requires c =
    some-arrives c.args.net.now c.requires.accepted.limits c.args.end.now c.args.port c.args.route.now c.requires.delivers
    (subst (λ (x : Entry). (n : ℕ) → n < 33 → IsNever c.args.net.now n 0 x) c.in_ok-place.ensures (rw c.in_default.is at c.in_ok-least.ensures.none))

pub most_from-requires-clause-limits : goal.most_from-requires-clause-limits
most_from-requires-clause-limits c = limits-fit c.args.net.now (limits_of c.args.net.now c.requires.accepted)

pub unreachable-requires-in_default-2 : goal.unreachable-requires-in_default-2
unreachable-requires-in_default-2 c =
    some-arrives c.args.net.now c.requires.accepted.limits c.args.end.now c.args.port c.args.route.now c.requires.delivers
    (subst (λ (x : Entry). (n : ℕ) → n < 33 → IsNever c.args.net.now n 0 x) c.in_ok-place.ensures (rw c.in_default-2.is at c.in_ok-most.ensures.none))

pub returns-clause-bounds : goal.returns-clause-bounds
returns-clause-bounds c =
    let net = c.args.net.now in
    let least = rw c.in-Some.is at c.in_ok-least.ensures.some in
    let most = rw c.in-Some-2.is at c.in_ok-most.ensures.some in
    bounds-are net c.requires.accepted.limits c.args.end.now c.args.port c.args.route.now c.requires.delivers (record { least = c.in-Some.least; most = c.in-Some-2.most })
    (subst (λ (x : Entry). IsSometime net c.in-Some.least 0 x) c.in_ok-place.ensures least.0)
    (subst (λ (x : Entry). (n : ℕ) → n < c.in-Some.least → IsNever net n 0 x) c.in_ok-place.ensures least.1)
    (subst (λ (x : Entry). IsSometime net c.in-Some-2.most 0 x) c.in_ok-place.ensures most.0)
    (subst (λ (x : Entry). (n : ℕ) → c.in-Some-2.most < n → n < 33 → IsNever net n 0 x) c.in_ok-place.ensures most.1)

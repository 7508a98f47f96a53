use Rattle.std.proofs.Common.{◌≡◌, ◌∙◌, ◌<◌, ◌++◌, ap, arith, sym, suc, append-nil, drop, []}
use Rattle.std.proofs.lemmas.Bool.Decides.{nat_tests}
use Rattle.vc_occam.specs.declared.moves.Move.TheVariants.{Offer}
use Rattle.vc_occam.specs.First.{meetings}
use Rattle.vc_occam.specs.Private.Receivers.{key}
use Rattle.vc_occam.proofs.ByChannel.{end_unmet, front_unmet}
use Rattle.vc_occam.proofs.meetings.push_met.Goals as goal
use lib.ListN.{get_or}

pub loop-place-init : goal.loop-place-init
loop-place-init c =
    let ms = c.args.sorted.now in
    ap (λ xs. c.args.found.now ++ xs) (front_unmet c.args.sender c.args.chan c.first_on-place.result ms (λ k d less e.
    let lesser = c.first_on-place.ensures.0 k d (omega arith) less in
    grind (arith, nat_tests)))

pub returns-then-key_of-from : goal.returns-then-key_of-from
returns-then-key_of-from c =
    let ms = c.args.sorted.now in
    let s = c.args.sender in
    let h = c.args.chan in
    let place = c.loop-place.place in
    let here = c.first_on-place.ensures.1 place (Offer 0 0) c.loop-place.auto.place c.loop-place-test.true in
    let other = c.if-key_of-from.true in
    let is = c.key_of.ensures in
    let from = c.from.ensures in
    let d = Offer 0 0 in
    let greater : suc h < key (get_or ms place d) = grind (arith, nat_tests) in
    let none : meetings s h (drop place ms) ≡ [] = end_unmet s h place ms d c.requires c.loop-place-test.true greater in
    sym (append-nil c.loop-place.found) ∙ ap (λ xs. c.loop-place.found ++ xs) (sym none) ∙ c.loop-place.invariant

use Rattle.std.proofs.Common.{◌∙◌, map, ap, sym, refl}
use Rattle.vc_process.specs.InOrder.{number}
use Rattle.vc_explain.proofs.Locations.{behind_part}
use Rattle.vc_explain.proofs.Own.{beside_one, beside_own, beside_opens}
use Rattle.vc_explain.proofs.Sought.{sought_end, sought_found, sought_next}
use Rattle.vc_explain.proofs.offence.place_beside.Goals as goal

pub loop-k-init : goal.loop-k-init
loop-k-init c = λ site. (site, refl)

pub returns-in-Some : goal.returns-in-Some
returns-in-Some c =
    let w = c.args.wanted in
    let j = c.args.part in
    let at = c.args.at.now in
    let r = sought_found number (beside_one w j at) (beside_own w j at) behind_part c.as_slice-other-items.result.now c.loop-k.k c.other-item.result c.in-Some.path (beside_opens w j at) c.loop-k-test.true c.other-item.is
    (λ s. sym c.in-Some.is ∙ c.in_ok-path.ensures s) c.loop-k.invariant in
    λ site. r site ∙ ap (λ ys. beside_one w j at 0 (map number ys) site) c.as_slice-other-items.ensures

pub loop-k-preserved : goal.loop-k-preserved
loop-k-preserved c =
    let w = c.args.wanted in
    let j = c.args.part in
    let at = c.args.at.now in
    sought_next number (beside_one w j at) (beside_own w j at) behind_part c.as_slice-other-items.result.now c.loop-k.k c.other-item.result (beside_opens w j at) c.loop-k-test.true c.other-item.is
    (λ s. sym c.in_default.is ∙ c.in_ok-path.ensures s) c.loop-k.invariant

pub returns : goal.returns
returns c =
    let w = c.args.wanted in
    let j = c.args.part in
    let at = c.args.at.now in
    let r = sought_end number (beside_one w j at) c.as_slice-other-items.result.now c.loop-k.k (λ s. refl) c.loop-k-test.false c.loop-k.invariant in
    λ site. r site ∙ ap (λ ys. beside_one w j at 0 (map number ys) site) c.as_slice-other-items.ensures

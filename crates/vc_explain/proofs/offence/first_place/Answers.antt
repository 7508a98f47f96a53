use Rattle.std.proofs.Common.{◌≡◌, ◌∙◌, List, map, ap, sym, refl}
use Rattle.std.specs.Prelude.{[], option_map}
use Rattle.vc_process.specs.InOrder.{number}
use Rattle.vc_reader.specs.declared.path.Step.{Step}
use Rattle.vc_explain.specs.Offences.{in_par, in_part}
use Rattle.vc_explain.specs.Uses.{place}
use Rattle.vc_explain.proofs.Locations.{behind_part}
use Rattle.vc_explain.proofs.Own.{in_one, in_own, one_opens}
use Rattle.vc_explain.proofs.Sought.{sought_end, sought_found, sought_next}
use Rattle.vc_explain.proofs.offence.first_place.Goals as goal

pub loop-k-init : goal.loop-k-init
loop-k-init c = λ site. (site, refl)

pub returns-in-Some : goal.returns-in-Some
returns-in-Some c =
    let w = c.args.wanted in
    let at = c.args.at.now in
    let k = c.loop-k.k in
    let x = c.part-item.result in
    let path : c.as_slice.result.now ≡ in_par at k = c.as_slice.ensures.value ∙ c.in_ok-own.ensures in
    let r = sought_found number (in_one w at) (in_own w at) behind_part c.as_slice-part-items.result.now k x (in_part k c.in-Some.path) (one_opens w at) c.loop-k-test.true c.part-item.is
    (λ s. ap (option_map (in_part k)) (sym c.in-Some.is ∙ c.in_ok-path.ensures s ∙ ap (λ (q : List Step). place w [] ((number x).tree s) q) path)) c.loop-k.invariant in
    λ site. r site ∙ ap (λ ys. in_one w at 0 (map number ys) site) c.as_slice-part-items.ensures

pub loop-k-preserved : goal.loop-k-preserved
loop-k-preserved c =
    let w = c.args.wanted in
    let at = c.args.at.now in
    let k = c.loop-k.k in
    let x = c.part-item.result in
    let path : c.as_slice.result.now ≡ in_par at k = c.as_slice.ensures.value ∙ c.in_ok-own.ensures in
    sought_next number (in_one w at) (in_own w at) behind_part c.as_slice-part-items.result.now k x (one_opens w at) c.loop-k-test.true c.part-item.is
    (λ s. ap (option_map (in_part k)) (sym c.in_default.is ∙ c.in_ok-path.ensures s ∙ ap (λ (q : List Step). place w [] ((number x).tree s) q) path)) c.loop-k.invariant

pub returns : goal.returns
returns c =
    let w = c.args.wanted in
    let at = c.args.at.now in
    let r = sought_end number (in_one w at) c.as_slice-part-items.result.now c.loop-k.k (λ s. refl) c.loop-k-test.false c.loop-k.invariant in
    λ site. r site ∙ ap (λ ys. in_one w at 0 (map number ys) site) c.as_slice-part-items.ensures

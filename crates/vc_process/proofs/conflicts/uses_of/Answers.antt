use Rattle.std.proofs.Common.{◌++◌, ◌∙◌, sym, ap, map, List}
use Rattle.vc_process.specs.declared.process.Process.{Process}
use Rattle.vc_process.specs.declared.used.PartUsage.{PartUsage}
use Rattle.vc_process.specs.InOrder.{number}
use Rattle.vc_process.specs.Numbering.{parts_from}
use Rattle.vc_process.specs.Private.Usages.{part_usages}
use Rattle.vc_process.proofs.PartUses.{placed_next, placed_end}
use Rattle.vc_process.proofs.conflicts.uses_of.Goals as goal

pub loop-place-init : goal.loop-place-init
loop-place-init c = λ site. (site, ap (λ (us : List PartUsage). us ++ part_usages 0 (parts_from site (map number c.as_slice-parts.result.now))) (sym c.new-uses.ensures.items))

pub loop-place-preserved : goal.loop-place-preserved
loop-place-preserved c =
    placed_next c.as_slice-parts.result.now c.loop-place.place c.loop-place.uses.items _ c.index-parts-place.result c.loop-place-test.true c.index-parts-place.is
    (λ s. c.in_default.ensures s) c.loop-place.invariant

pub returns : goal.returns
returns c =
    let r = placed_end c.as_slice-parts.result.now c.loop-place.place c.loop-place.uses.items c.loop-place-test.false c.loop-place.invariant in
    λ site. r site ∙ ap (λ (ys : List Process). part_usages 0 (parts_from site (map number ys))) c.as_slice-parts.ensures

use Rattle.std.proofs.Common.{◌∙◌, ◌∷◌, ap}
use Rattle.vc_reader.proofs.Parts.{pair-read, pair-stops}
use Rattle.vc_reader.proofs.bytes.hex_bytes.Goals as goal

pub returns-in-Err : goal.returns-in-Err
returns-in-Err c =
    pair-stops c.loop-a.bytes c.in-Some.a.now c.in-Some-split_first.b.now c.loop-a.rest.now c.in-Some-split_first.more.now _ c.in-Err.stop
    (c.in-Some.ensures.cases.0 ∙ ap (λ s. c.in-Some.a.now ∷ s) c.in-Some-split_first.ensures.cases.0) (c.in-Err.ensures _ c.hex_pair.ensures) c.loop-a.invariant

pub loop-a-preserved : goal.loop-a-preserved
loop-a-preserved c =
    pair-read c.loop-a.bytes c.in-Ok.longer c.in-Some.a.now c.in-Some-split_first.b.now c.loop-a.rest.now c.in-Some-split_first.more.now _
    (c.in-Some.ensures.cases.0 ∙ ap (λ s. c.in-Some.a.now ∷ s) c.in-Some-split_first.ensures.cases.0) (c.in-Ok.ensures _ c.hex_pair.ensures) c.loop-a.invariant

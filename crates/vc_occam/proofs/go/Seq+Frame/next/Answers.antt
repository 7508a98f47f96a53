use Rattle.std.proofs.Common.{◌∙◌, ◌+◌, ◌<◌, length, set, sym, ap, subst, arith, add-one}
use Rattle.std.specs.Prelude.{nat_lt, slice_get}
use Rattle.std.proofs.lemmas.Bool.{and_parts}
use Rattle.std.proofs.lemmas.List.{map-set}
use Rattle.vc_occam.specs.Frames.{all_sound, view}
use Rattle.vc_occam.specs.Private.Frames.{HasNext, views}
use Rattle.vc_occam.proofs.PartSteps.{part_is_sound, seq_begun}
use Rattle.vc_occam.proofs.Views.{map_get}
use Rattle.vc_occam.proofs.go.Seq+Frame.next.Goals as goal

pub start-requires : goal.start-requires
start-requires c =
    let s = c.args.self.now in
    let o = s.parts.ok.0 in
    let l : s.at + 1 < length s.parts.items = omega (arith, c.len.ensures) in
    let is = map_get view s.parts.items (s.at + 1) c.index_mut.result.now l c.index_mut.ensures.value in
    record { sound = part_is_sound (views s.parts.items) (s.at + 1) (view c.index_mut.result.now) is (and_parts (nat_lt s.at (length (views s.parts.items))) (all_sound (views s.parts.items)) c.requires.sound).1 }

pub returns-then-next-len : goal.returns-then-next-len
returns-then-next-len c =
    let s = c.args.self.now in
    let fs = s.parts.items in
    let o = s.parts.ok.0 in
    let l : s.at + 1 < length fs = omega (arith, c.len.ensures) in
    let is = map_get view fs (s.at + 1) c.index_mut.result.now l c.index_mut.ensures.value in
    let w = view c.start.new.self in
    let one = add-one s.at in
    let begun = seq_begun (views fs) s.at (view c.index_mut.result.now) w c.start.result (ap (slice_get (views fs)) (sym one) ∙ is) c.start.ensures.begun c.start.ensures.outcome c.requires.sound in
    subst (λ ws. HasNext (views fs) s.at c.start.result ws (s.at + 1)) (sym (map-set view fs (s.at + 1) c.start.new.self))
    (subst (λ m. HasNext (views fs) s.at c.start.result (set (views fs) m w) m) (sym one) begun)

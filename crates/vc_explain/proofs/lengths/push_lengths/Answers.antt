use Rattle.std.proofs.Common.{◌≡◌, ◌++◌, ◌⊎◌, length, inl, inr}
use Rattle.std.specs.Slice.Iter.{iter_rest}
use Rattle.vc_explain.specs.Lengths.{lengths_text, vlink_lines}
use Rattle.vc_explain.proofs.Pairs.{zip-ends}
use Rattle.vc_explain.proofs.lengths.push_lengths.Goals as goal

pub returns : goal.returns
returns c =
    let left = c.loop-vlink.vlink-iterator in
    let ended : (length (iter_rest left.a) ≡ 0) ⊎ (length (iter_rest left.b) ≡ 0) =
    elim c.in-None.ensures.steps [ inl a ↦ inl a.1.0 | inr b ↦ inr b.1.0 ] in
    zip-ends (vlink_lines c.args.plan.now) c.loop-vlink.out.items (c.args.out.now.items ++ lengths_text c.args.plan.now c.args.lengths.now) (iter_rest left.a) (iter_rest left.b)
    ended c.loop-vlink.invariant

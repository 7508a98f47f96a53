use Rattle.std.proofs.Common.{◌≡◌, ◌++◌}
use Rattle.std.specs.List.{flat_map, zip}
use Rattle.std.specs.Slice.Iter.{iter_rest}
use Rattle.vc_explain.specs.Lengths.{lengths_text, vlink_lines}
use Rattle.vc_explain.proofs.lengths.push_lengths.Given as goal

abbrev pub invariant-loop-vlink : goal.invariant-loop-vlink
invariant-loop-vlink l =
    l.out.items ++ flat_map (vlink_lines l.plan) (zip (iter_rest l.vlink-iterator.a) (iter_rest l.vlink-iterator.b))
    ≡ l.fn.out.items ++ lengths_text l.plan l.lengths

use Rattle.std.proofs.Common.{◌≡◌, ◌++◌, take}
use Rattle.std.specs.List.{flat_map}
use Rattle.vc_explain.specs.Walk.{header_text}
use Rattle.vc_explain.proofs.walk.push_headers.Given as goal

abbrev pub invariant-loop-header : goal.invariant-loop-header
invariant-loop-header l = l.out.items ≡ l.initial.out.items ++ flat_map header_text (take l.header-index l.headers)

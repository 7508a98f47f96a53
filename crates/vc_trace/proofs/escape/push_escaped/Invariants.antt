use Rattle.std.proofs.Common.{◌≡◌, ◌++◌, take}
use Rattle.vc_trace.specs.Escapes.{escaped}
use Rattle.vc_trace.proofs.escape.push_escaped.Given as goal

abbrev pub invariant-loop-byte : goal.invariant-loop-byte
invariant-loop-byte l = l.out.items ≡ l.fn.out.items ++ escaped (take l.byte-index l.line)

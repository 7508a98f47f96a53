use Rattle.std.proofs.Common.{◌≡◌, ◌≤◌, take, vec_capacity}
use Rattle.vc_tokens.proofs.assembler.Assembler.copy_from.Given as goal

abbrev pub invariant-loop-byte : goal.invariant-loop-byte
invariant-loop-byte l = record {
  copied : l.self-inside.passed.items ≡ take l.byte-index l.byte-items;
  limit : l.self-inside.limit ≡ l.initial.self-inside.limit;
  room : l.self-inside.limit ≤ vec_capacity l.self-inside.passed;
}

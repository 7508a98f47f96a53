use Rattle.std.proofs.Common.{inl, refl}
use Rattle.vc_reader.proofs.network.parse.Goals as goal

pub returns-then-is_memory-clause-err : goal.returns-then-is_memory-clause-err
returns-then-is_memory-clause-err c = inl refl

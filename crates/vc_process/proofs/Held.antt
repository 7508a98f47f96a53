-- A variable that holds a kind is there.
use Rattle.std.proofs.Common.{◌≡◌, ℕ, zero, suc, ◌<◌, true, List, [], ◌∷◌, length, arith}
use Rattle.vc_process.specs.declared.value_kind.ValueKind.{ValueKind}
use Rattle.vc_process.specs.Limits.{holds_kind}

pub held_there : (kinds : List ValueKind) (v : ℕ) (k : ValueKind) → holds_kind kinds v k ≡ true → v < length kinds
held_there [] v k h = absurd cc
held_there (j ∷ kinds) zero k h = omega arith
held_there (j ∷ kinds) (suc v) k h = let i = held_there kinds v k h in omega (arith, i)

-- Places in short lists fit their types.
use Rattle.std.proofs.Common.{ℕ, ◌<◌, arith}
use mir.Val.{Fits}
use mir.Syntax.{w8, w16}

pub in-byte : (n len : ℕ) → n < len → len < 256 → Fits w8 n
in-byte n len l few = omega arith

pub in-half : (n len : ℕ) → n < len → len < 65536 → Fits w16 n
in-half n len l few = omega arith

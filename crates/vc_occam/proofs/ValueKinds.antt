-- What is asked of a process says that its values are of their kinds.
use Rattle.std.proofs.Common.{◌≡◌, ℕ, zero, suc, ◌<◌, true, false, ◌&&◌, refl, ap, ◌∙◌, List, [], ◌∷◌, ◌++◌, length, map, slice_get, Option, Some, None, nat_lt, arith}
use Rattle.std.proofs.lemmas.Bool.{and_parts}
use Rattle.std.proofs.lemmas.Bool.Decides.{nat_tests}
use Rattle.vc_process.specs.declared.channel_use.ChannelUse.{ChannelUse}
use Rattle.vc_process.specs.declared.value_kind.ValueKind.{ValueKind}
use Rattle.vc_process.specs.declared.value_kind.ValueKind.TheVariants as kind
use Rattle.vc_process.specs.ChannelUses.{guard_uses, channel_uses, uses_of_all, uses_of_branches, uses_of_bodies}
use Rattle.vc_process.specs.Limits.{same_kind, is_kind, holds_kind, exp_fits, given_fits, given_kind}
use Rattle.vc_occam.specs.Opening.{empty_of}
use Rattle.vc_process.specs.ProcessLimits.{test_fits, names_fit, parts_names_fit, branches_names_fit, guards_names_fit}
use Rattle.vc_process.specs.Syntax.{Proc, Assign, Output, Input, SEQ, PAR, IF, WHILE, COUNT, ALT, Procs, no_parts, part, Branches, no_branches, branch, Guards, no_guards, guard}
use Rattle.vc_process.specs.Terms.{store}
use Rattle.vc_occam.proofs.KindPreservation.{kind_of, HasKind, StoreHasKinds, Kinded, AllKinded, BranchesKinded, GuardsKinded}

pub kinds_same : (j k : ValueKind) → same_kind j k ≡ true → j ≡ k
kinds_same kind.Int kind.Int h = refl
kinds_same kind.Bytes kind.Bytes h = refl
kinds_same kind.Int kind.Bytes h = absurd (let z : false ≡ true = h in cc)
kinds_same kind.Bytes kind.Int h = absurd (let z : false ≡ true = h in cc)

held : (o : Option ValueKind) (k : ValueKind) → is_kind o k ≡ true → o ≡ Some k
held None k h = absurd (let z : false ≡ true = h in cc)
held (Some j) k h = ap Some (kinds_same j k h)

there : {X : Type 0} (xs : List X) (v : ℕ) → v < length xs → (x : X) × (slice_get xs v ≡ Some x)
there [] v h = absurd (omega arith)
there (x ∷ xs) zero h = (x, refl)
there (x ∷ xs) (suc v) h = there xs v (omega arith)

below : (v n : ℕ) → nat_lt v n ≡ true → v < n
below v n h = grind (arith, nat_tests)

-- a use is of its channel's kind, if it is of any
abbrev pub IsKinded : (ℕ → ValueKind) → ChannelUse → Type 0
IsKinded channel u = (k : ValueKind) → u.kind ≡ Some k → k ≡ channel u.chan

abbrev pub AreKinded : (ℕ → ValueKind) → List ChannelUse → Type 0
AreKinded channel [] = Unit {0}
AreKinded channel (u ∷ us) = IsKinded channel u × AreKinded channel us

module _ (channel : ℕ → ValueKind) (kinds : List ValueKind) (n : ℕ) where
  first_ones : (us vs : List ChannelUse) → AreKinded channel (us ++ vs) → AreKinded channel us
  first_ones [] vs h = tt
  first_ones (u ∷ us) vs h = (h.0, first_ones us vs h.1)

  last_ones : (us vs : List ChannelUse) → AreKinded channel (us ++ vs) → AreKinded channel vs
  last_ones [] vs h = h
  last_ones (u ∷ us) vs h = last_ones us vs h.1

  input_kinded : (c v : ℕ) → nat_lt v (length kinds) ≡ true → IsKinded channel (record { chan = c; is_output = false; kind = slice_get kinds v }) → HasKind channel kinds v (channel c)
  input_kinded c v less h = let x = there kinds v (below v (length kinds) less) in x.1 ∙ ap Some (h x.0 x.1)

  mutual
    pub kinded : (p : Proc) → names_fit p kinds n ≡ true → AreKinded channel (channel_uses kinds p) → Kinded channel kinds p
    kinded (Assign i v a) h u = held (slice_get kinds v) (given_kind a) (and_parts (holds_kind kinds v (given_kind a)) (given_fits a kinds) h).0
    kinded (Output i c a) h u = u.0 (given_kind a) refl
    kinded (Input i c v) h u = input_kinded c v (and_parts (nat_lt c n) (nat_lt v (length kinds)) h).1 u.0
    kinded (SEQ i ps) h u = all_kinded ps h u
    kinded (PAR i ps) h u = all_kinded ps h u
    kinded (IF i bs) h u = branches_kinded bs h u
    kinded (WHILE i b p) h u = kinded p (and_parts (test_fits b kinds) (names_fit p kinds n) h).1 u
    kinded (COUNT i v a k p) h u =
        let parts = and_parts (holds_kind kinds v kind.Int && exp_fits a kinds && exp_fits k kinds) (names_fit p kinds n) h in
        let index = and_parts (holds_kind kinds v kind.Int) (exp_fits a kinds) (and_parts (holds_kind kinds v kind.Int && exp_fits a kinds) (exp_fits k kinds) parts.0).0 in
        (held (slice_get kinds v) kind.Int index.0, kinded p parts.1 u)
    kinded (ALT i gs) h u = guards_kinded gs h (first_ones (guard_uses kinds gs) (uses_of_bodies kinds gs) u) (last_ones (guard_uses kinds gs) (uses_of_bodies kinds gs) u)
    kinded p h u = tt

    all_kinded : (ps : Procs) → parts_names_fit ps kinds n ≡ true → AreKinded channel (uses_of_all kinds ps) → AllKinded channel kinds ps
    all_kinded no_parts h u = tt
    all_kinded (part p ps) h u =
        let parts = and_parts (names_fit p kinds n) (parts_names_fit ps kinds n) h in
        (kinded p parts.0 (first_ones (channel_uses kinds p) (uses_of_all kinds ps) u), all_kinded ps parts.1 (last_ones (channel_uses kinds p) (uses_of_all kinds ps) u))

    branches_kinded : (bs : Branches) → branches_names_fit bs kinds n ≡ true → AreKinded channel (uses_of_branches kinds bs) → BranchesKinded channel kinds bs
    branches_kinded no_branches h u = tt
    branches_kinded (branch b p bs) h u =
        let parts = and_parts (test_fits b kinds && names_fit p kinds n) (branches_names_fit bs kinds n) h in
        let body = (and_parts (test_fits b kinds) (names_fit p kinds n) parts.0).1 in
        (kinded p body (first_ones (channel_uses kinds p) (uses_of_branches kinds bs) u), branches_kinded bs parts.1 (last_ones (channel_uses kinds p) (uses_of_branches kinds bs) u))

    guards_kinded : (gs : Guards) → guards_names_fit gs kinds n ≡ true → AreKinded channel (guard_uses kinds gs) → AreKinded channel (uses_of_bodies kinds gs) → GuardsKinded channel kinds gs
    guards_kinded no_guards h u w = tt
    guards_kinded (guard b c v p gs) h u w =
        let one = and_parts (test_fits b kinds && nat_lt c n && nat_lt v (length kinds) && names_fit p kinds n) (guards_names_fit gs kinds n) h in
        let two = and_parts (test_fits b kinds && nat_lt c n && nat_lt v (length kinds)) (names_fit p kinds n) one.0 in
        let three = and_parts (test_fits b kinds && nat_lt c n) (nat_lt v (length kinds)) two.0 in (
          input_kinded c v three.1 u.0,
          kinded p two.1 (first_ones (channel_uses kinds p) (uses_of_bodies kinds gs) w),
          guards_kinded gs one.1 u.1 (last_ones (channel_uses kinds p) (uses_of_bodies kinds gs) w),
        )

empty_kind : (k : ValueKind) → kind_of (empty_of k) ≡ k
empty_kind kind.Int = refl
empty_kind kind.Bytes = refl

-- a variable is empty at first, and of its kind
pub empty_kinded : (channel : ℕ → ValueKind) (kinds : List ValueKind) → StoreHasKinds channel kinds (store (map empty_of kinds))
empty_kinded channel [] v k h = absurd (cc)
empty_kinded channel (j ∷ kinds) zero k h = let is : j ≡ k = cc in empty_kind j ∙ is
empty_kinded channel (j ∷ kinds) (suc v) k h = empty_kinded channel kinds v k h

-- A vector whose slice was written.
use Rattle.std.proofs.Common.{◌≡◌, ℕ, List, ◌++◌, length, take, drop, ap, sym, ◌∙◌, arith, subst}
use Rattle.std.proofs.lemmas.Grind.{common_steps}
use Rattle.std.specs.List.{AllZip}
use Rattle.vc_threads.proofs.Zips.{zip_length}

pub back : {X : Type 0} (n : ℕ) (old new : List X) → n ≡ length old → length new ≡ length old → take n (new ++ drop (length new) old) ≡ new
back n old new e f = grind (arith, common_steps)

-- what holds of the slice holds of the vector
pub same_back : {X : Type 0} (R : X → X → Type 0) (n : ℕ) (old slice new : List X) → n ≡ length old → slice ≡ old → AllZip R slice new → take n (new ++ drop (length new) old) ≡ new
same_back R n old slice new e is z = back n old new e (zip_length R slice new z ∙ ap length is)

pub zip_back : {X : Type 0} (R : X → X → Type 0) (n : ℕ) (old slice new : List X) → n ≡ length old → slice ≡ old → AllZip R slice new → AllZip R old (take n (new ++ drop (length new) old))
zip_back R n old slice new e is z =
    subst (λ w. AllZip R old w) (sym (same_back R n old slice new e is z)) (subst (λ w. AllZip R w new) is z)

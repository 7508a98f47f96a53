-- Stamps at their end: a worker whose clock is full, and the act that has the greatest stamp.
use Rattle.std.proofs.Common.{Result, Ok, Err, IfErr, IsErrAnd, List, length, length-set, sym, subst, ◌≡◌, ℕ, ◌+◌, ◌-◌, ◌^◌, ◌<◌, ◌⊎◌, inl, inr, max, arith}
use Rattle.std.specs.List.{Contains}
use Rattle.std.proofs.Math.ListN.{set}
use Rattle.std.proofs.lemmas.Bool.{cases_lt}
use Rattle.std.proofs.lemmas.List.{get_or-set_same}
use Rattle.vc_threads.specs.Works.{IsGreatest}
use Rattle.vc_threads.specs.declared.run.Stop.{Stop}

-- the next stamp is too great where the clock is the greatest, or the item's stamp
pub greatest_of : (clock at : ℕ) → 2 ^ 64 - 1 < max clock at + 1 → IsGreatest clock ⊎ IsGreatest at
greatest_of clock at h = elim (cases_lt clock at) [ inl less ↦ inr (omega arith) | inr not ↦ inl (omega arith) ]

-- an error that is passed on is the same one
pub passed : {T : Type 0} (P : Stop → Type 0) (r : Result T Stop) (why : Stop) → IsErrAnd r (λ w. w ≡ why) → P why → IfErr r P
passed P (Ok x) why is p = tt
passed P (Err w) why is p = subst P (sym is) p

pub written_in : {X : Type 0} (xs : List X) (k : ℕ) (y : X) → k < length xs → Contains (set xs k y) y
written_in xs k y within = (k, omega (arith, within, length-set xs k y), get_or-set_same xs k y y within)

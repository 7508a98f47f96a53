-- What the words of a line name.
use Rattle.std.specs.Prelude.{◌≡◌, ℕ, List, ◌∷◌, Option, Some}
use Rattle.vc_plan.specs.declared.plan.Plan.{Plan}
use Rattle.vc_plan.specs.Accepted.{IsAccepted}
use Rattle.vc_reader.specs.Laws.{HasDistinctNames}
use Rattle.vc_trace.specs.EventText.{spaced}

-- the plan is accepted, and no two of its nodes and switches have one name, and no two channels
pub record IsNamed (p : Plan) : Type 0 where
  pub accepted : IsAccepted p
  pub names : HasDistinctNames p

-- the first of the words is that of such a thing, which is found, and the other words are left
abbrev pub Finds : {A : Type 0} → (A → Type 0) → (A → List ℕ) → List ℕ → List ℕ → Option A → Type 0
Finds {A} Is text_of old new found = (x : A) (words : List (List ℕ)) → Is x → old ≡ spaced (text_of x ∷ words) → (found ≡ Some x) × (new ≡ spaced words)

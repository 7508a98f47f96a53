-- The first of a list that stood before: one item on, where it is found, and at the list's end.
use Rattle.std.proofs.Common.{◌≡◌, ◌∙◌, Bool, true, List, [], ◌∷◌, ◌++◌, Option, Some, sym, ap}
use Rattle.std.specs.Prelude.{if◌then◌else◌}
use Rattle.std.specs.List.{list_any}
use Rattle.vc_plan.specs.Check.{repeated}

-- what a test of the items so far found
pub asked : {A : Type 0} (same : A → A → Bool) (x : A) (seen items : List A) (result b : Bool) → items ≡ seen → result ≡ list_any (same x) items → result ≡ b → list_any (same x) seen ≡ b
asked same x seen items result b e h t = ap (λ s. list_any (same x) s) (sym e) ∙ sym h ∙ t

pub found : {A : Type 0} (same : A → A → Bool) (seen : List A) (x : A) (rest more : List A) (all : Option A) → rest ≡ x ∷ more → list_any (same x) seen ≡ true → repeated same seen rest ≡ all → Some x ≡ all
found same seen x rest more all e h r =
    sym (ap (λ b. if b then Some x else repeated same (seen ++ x ∷ []) more) h) ∙ ap (λ xs. repeated same seen xs) (sym e) ∙ r

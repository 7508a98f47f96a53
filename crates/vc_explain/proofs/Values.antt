-- Lists and objects of JSON values, as data.
use Rattle.std.proofs.Common.{◌≡◌, List, [], ◌∷◌, length, refl, ap, arith, Global}
use Rattle.std.specs.Prelude.{String}
use Rattle.serde_json.specs.Data.{Data}
use Rattle.serde_json.specs.View.{items_of, members_view}
use Rattle.serde_json.specs.declared.value.Value.{Value}
use Rattle.vc_explain.specs.DeclaredNames.{list_of}
use Rattle.vc_explain.specs.Found.{count_members}

pub list_of_items : (ds : List Data) → list_of (items_of ds) ≡ ds
list_of_items [] = refl
list_of_items (d ∷ ds) = ap (λ xs. d ∷ xs) (list_of_items ds)

pub count_members_of : (ms : List (String Global × Value)) → count_members (members_view ms) ≡ length ms
count_members_of [] = refl
count_members_of (m ∷ ms) = omega (arith, count_members_of ms)

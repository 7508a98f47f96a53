use Rattle.std.proofs.Common.{Ok, Err, ◌≡◌, ◌∙◌, ℕ, true, false, ap, sym, List, arith, inl, inr, get_or, nat_eq}
use Rattle.std.proofs.lemmas.Bool.{cases_lt}
use Rattle.std.proofs.lemmas.Bool.Decides.{nat_tests}
use Rattle.std.proofs.lemmas.List.{get_or_default}
use Rattle.std.proofs.lemmas.List.Elements.{All-from_all_within}
use Rattle.std.proofs.lemmas.List.Folds.{list_any_at, list_any_none}
use Rattle.std.proofs.lemmas.List.Sorted.{searched}
use Rattle.std.specs.List.Sorted.{IsBinarySearchResult, IsNonDecreasing}
use Rattle.std.specs.Ordering.{nat_cmp}
use Rattle.std.specs.Prelude.{Result}
use Rattle.std.specs.Result.{is_ok}
use Rattle.vc_process.specs.Usage.{among}
use Rattle.vc_occam.proofs.inner_channels.InnerChannels.contains.Goals as goal

itself : (a b : ℕ) → a ≡ b → nat_eq a b ≡ true
itself a b e = grind (arith, nat_tests)

other : (a b : ℕ) → (a ≡ b → ⊥) → nat_eq a b ≡ false
other a b n = grind (arith, nat_tests)

-- a search by halving finds whether a number is among those of a list that rises
found : (xs : List ℕ) (x : ℕ) (r : Result ℕ ℕ) → IsNonDecreasing xs → IsBinarySearchResult (λ y. nat_cmp y x) xs r → is_ok r ≡ among xs x
found xs x (Ok i) up h =
    let at = searched xs x (Ok i) h (λ j k le less. up j k 0 le less) in
    sym (list_any_at (λ n. nat_eq n x) xs i 0 at.0 (itself (get_or xs i 0) x at.1))
found xs x (Err i) up h =
    let at = searched xs x (Err i) h (λ j k le less. up j k 0 le less) in
    sym (list_any_none (λ n. nat_eq n x) xs (All-from_all_within (λ n. nat_eq n x ≡ false) xs (λ k d low less. other (get_or xs k d) x (λ e.
    let same = get_or_default xs k d 0 less in
    elim (cases_lt k i) [
      | inl before ↦ omega (arith, e, same, at.1 k before)
      | inr from ↦ omega (arith, e, same, at.2 k from less)
    ]))))

pub returns : goal.returns
returns c =
    c.is_ok.ensures.value ∙ found c.self.inside.channels.items c.args.chan c.binary_search.result c.self.invariant (rw c.deref.ensures.value at c.binary_search.ensures.position)
    ∙ ap (λ (xs : List ℕ). among xs c.args.chan) c.self.view_is

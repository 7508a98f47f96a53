-- Uses that are sorted stand in order.
use Rattle.std.proofs.Common.{◌≡◌, ℕ, ◌<◌, ◌≤◌, Bool, true, false, refl, sym, ◌∙◌, ap, List, [], ◌∷◌, length, get_or, arith, ◌⊎◌, inl, inr, suc}
use Rattle.std.specs.declared.cmp.Ordering.{Ordering}
use Rattle.std.specs.declared.cmp.Ordering.TheVariants.{Less, Equal, Greater}
use Rattle.std.specs.Ordering.{is_lt, nat_cmp, ordering_then, bool_cmp}
use Rattle.std.specs.List.Sorted.{IsSorted}
use Rattle.std.specs.Cmp.{IsTotalOrder}
use Rattle.std.proofs.lemmas.Bool.Decides.{nat_tests}
use Rattle.std.proofs.lemmas.List.Sorted.{sorted_far, ranks_by}
use Rattle.std.proofs.lemmas.Cmp.{tied_itself}
use Rattle.vc_process.specs.contracts.used.PartUsageOrd.TheImpl.{cmp-value}
use Rattle.vc_process.specs.contracts.used.UsedOrd.TheImpl as as_used
use Rattle.vc_process.specs.contracts.used.PartUsageOrd.TheImpl.Laws.{total-law}
use Rattle.vc_process.specs.contracts.used.UsedOrd.TheImpl.Laws as of_used
use Rattle.vc_process.specs.declared.used.Used.{Used}
use Rattle.vc_process.specs.declared.used.Used.TheVariants.{Output, Input, Variable}
use Rattle.vc_process.specs.declared.used.PartUsage.{PartUsage}
use Rattle.vc_process.specs.Private.Clashes.{Before, NotAfter, AllNotBefore, Ascending}

abbrev pub order : PartUsage → PartUsage → Ordering
order = cmp-value.it

abbrev used_order : Used → Used → Ordering
used_order = as_used.cmp-value.it

law : IsTotalOrder order
law = total-law

used_law : IsTotalOrder used_order
used_law = of_used.total-law

pub earlier : (m n : Used) → is_lt (used_order n m) ≡ false → Before m n ⊎ (m ≡ n)
earlier (Output c) (Output d) h = grind (arith, nat_tests)
earlier (Output c) (Input d) h = inl tt
earlier (Output c) (Variable d) h = inl tt
earlier (Input c) (Output d) h = absurd cc
earlier (Input c) (Input d) h = grind (arith, nat_tests)
earlier (Input c) (Variable d) h = inl tt
earlier (Variable c) (Output d) h = absurd cc
earlier (Variable c) (Input d) h = absurd cc
earlier (Variable c) (Variable d) h = grind (arith, nat_tests)

reads_first : (x y : Bool) (o : Ordering) → is_lt (ordering_then (bool_cmp x y) o) ≡ false → x ≡ false → y ≡ false
reads_first false false o h e = refl
reads_first false true o h e = absurd cc
reads_first true y o h e = absurd cc

not_after : (a b : PartUsage) → is_lt (order b a) ≡ false → NotAfter a b
not_after a b h = split (used_order b.used a.used) refl h
  where
    split : (o : Ordering) → used_order b.used a.used ≡ o → is_lt (ordering_then o (ordering_then (bool_cmp b.reads a.reads) (nat_cmp b.part a.part))) ≡ false → NotAfter a b
    split Less e k = absurd cc
    split Equal e k = elim (earlier a.used b.used (ap is_lt e)) [ inl x ↦ inl x | inr q ↦ inr (q, reads_first b.reads a.reads (nat_cmp b.part a.part) k) ]
    split Greater e k = elim (earlier a.used b.used (ap is_lt e)) [
      | inl x ↦ inl x
      | inr q ↦ absurd (let z : Greater ≡ Equal = sym e ∙ ap (λ n. used_order b.used n) q ∙ tied_itself used_law b.used in cc)
    ]

ascends : (x : PartUsage) (xs : List PartUsage) → ((j : ℕ) (d : PartUsage) → j < length xs → is_lt (order (get_or xs j d) x) ≡ false) → AllNotBefore x xs
ascends x [] h = tt
ascends x (y ∷ ys) h = (not_after x y (h 0 y (omega arith)), ascends x ys (λ j d l. h (suc j) d (omega arith)))

all_ascending : (xs : List PartUsage) → ((i j : ℕ) (d : PartUsage) → i ≤ j → j < length xs → is_lt (order (get_or xs j d) (get_or xs i d)) ≡ false) → Ascending xs
all_ascending [] h = tt
all_ascending (x ∷ xs) h = (ascends x xs (λ j d l. h 0 (suc j) d (omega arith) (omega arith)), all_ascending xs (λ i j d l m. h (suc i) (suc j) d (omega arith) (omega arith)))

pub ascending : (xs : List PartUsage) → IsSorted order xs → Ascending xs
ascending xs h = all_ascending xs (sorted_far (λ x y. is_lt (order x y)) (ranks_by law (λ (x : PartUsage). x)) xs h)

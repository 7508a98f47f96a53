-- What a table without a fault is, and what the one row is that holds a header.
use Rattle.std.proofs.Common.{◌≡◌, ℕ, suc, zero, ◌≤◌, ◌<◌, Bool, true, false, IsTrue, List, [], ◌∷◌, length, if◌then◌else◌, Option, Some, None, MatchOption, refl, sym, ap, ◌∙◌, arith}
use Rattle.std.specs.Prelude.{◌↔◌, slice_get, slice_index_or, nat_le}
use Rattle.std.specs.List.Sorted.{IsNonDecreasingBy, IsPartitionPoint}
use Rattle.std.proofs.lemmas.Bool.Decides.{nat_tests}
use Rattle.vc_labels.specs.declared.row.Row.{Row}
use Rattle.vc_labels.specs.declared.action.Action.{Action}
use Rattle.vc_labels.specs.declared.action.Action.TheVariants.{Out, Portal}
use Rattle.vc_labels.specs.declared.fault.TableFault.{TableFault}
use Rattle.vc_labels.specs.Interval.{holds, action_at, action_for, NoRowHolds, IsOnlyAction}
use Rattle.vc_labels.specs.Lawful.{HasLinks, IsLawfulFrom, IsLawful, starts_at}
use Rattle.vc_labels.specs.Fault.{link_fault, row_fault, or_else, fault_from, table_fault}

HasLinks-of : (a : Action) → link_fault a ≡ None → HasLinks a
HasLinks-of (Out first last) e = grind (arith, nat_tests)
HasLinks-of Portal e = tt

row-fine : (start : ℕ) (row : Row) → row_fault start row ≡ None →
    (row.lower ≡ start) × (row.lower < row.limit) × (row.limit ≤ 65536) × (link_fault row.action ≡ None)
row-fine start row e = grind (arith, nat_tests)

or_else-first : (a b : Option TableFault) → or_else a b ≡ None → (a ≡ None) × (b ≡ None)
or_else-first (Some x) b e = absurd cc
or_else-first None b e = (refl, e)

pub lawful-from : (start : ℕ) (rows : List Row) → fault_from start rows ≡ None → IsLawfulFrom start rows
lawful-from start [] e = tt
lawful-from start (row ∷ rows) e =
    let o = or_else-first (row_fault start row) (fault_from row.limit rows) e in
    let f = row-fine start row o.0 in
    (f.0, f.1, f.2, HasLinks-of row.action f.3, lawful-from row.limit rows o.1)

link-free : (a : Action) → HasLinks a → link_fault a ≡ None
link-free (Out first last) w = grind (arith, nat_tests)
link-free Portal w = refl

row-free : (start : ℕ) (row : Row) → row.lower ≡ start → row.lower < row.limit → row.limit ≤ 65536 → link_fault row.action ≡ None → row_fault start row ≡ None
row-free start row begins rises within links = grind (arith, nat_tests)

pub free-from : (start : ℕ) (rows : List Row) → IsLawfulFrom start rows → fault_from start rows ≡ None
free-from start [] w = refl
free-from start (row ∷ rows) w =
    let none : row_fault start row ≡ None = row-free start row w.0 w.1 w.2 (link-free row.action w.3) in
    ap (λ o. or_else o (fault_from row.limit rows)) none ∙ free-from row.limit rows w.4

holds-bounds : (row : Row) (h : ℕ) → IsTrue (holds row h) → (row.lower ≤ h) × (h < row.limit)
holds-bounds row h t = grind (arith, nat_tests)

-- no row of a lawful list holds a header below its start
not-below : (start h : ℕ) (rows : List Row) → IsLawfulFrom start rows → h < start → NoRowHolds rows h
not-below start h [] w lt k row e t = absurd cc
not-below start h (r ∷ rows) w lt zero row e t =
    let same : r ≡ row = cc in
    let b = holds-bounds row h t in
    let low : row.lower ≡ start = ap (λ (x : Row). x.lower) (sym same) ∙ w.0 in
    omega arith
not-below start h (r ∷ rows) w lt (suc k) row e t =
    let b : start < r.limit = omega (arith, w.0, w.1) in
    not-below r.limit h rows w.4 (omega arith) k row e t

only-first : (start h : ℕ) (r : Row) (rows : List Row) → IsLawfulFrom start (r ∷ rows) → IsTrue (holds r h) →
    (k : ℕ) (other : Row) → slice_get (r ∷ rows) k ≡ Some other → IsTrue (holds other h) → k ≡ 0
only-first start h r rows w t zero other e u = refl
only-first start h r rows w t (suc k) other e u =
    absurd (not-below r.limit h rows w.4 (holds-bounds r h t).1 k other e u)

none-more : (h : ℕ) (r : Row) (rows : List Row) → holds r h ≡ false → NoRowHolds rows h → NoRowHolds (r ∷ rows) h
none-more h r rows miss n zero row e t =
    let same : holds r h ≡ holds row h = ap (λ x. holds x h) (let s : r ≡ row = cc in s) in
    absurd cc
none-more h r rows miss n (suc k) row e t = n k row e t

only-more : (h at : ℕ) (r : Row) (rows : List Row) → holds r h ≡ false →
    ((k : ℕ) (other : Row) → slice_get rows k ≡ Some other → IsTrue (holds other h) → k ≡ at) →
    (k : ℕ) (other : Row) → slice_get (r ∷ rows) k ≡ Some other → IsTrue (holds other h) → k ≡ suc at
only-more h at r rows miss n zero row e t =
    let same : holds r h ≡ holds row h = ap (λ x. holds x h) (let s : r ≡ row = cc in s) in
    absurd cc
only-more h at r rows miss n (suc k) row e t = ap suc (n k row e t)

found-more : (h : ℕ) (r : Row) (rows : List Row) → holds r h ≡ false → (a : Option Action) →
    MatchOption a (NoRowHolds rows h) (λ x. IsOnlyAction rows h x) → MatchOption a (NoRowHolds (r ∷ rows) h) (λ x. IsOnlyAction (r ∷ rows) h x)
found-more h r rows miss None f = none-more h r rows miss f
found-more h r rows miss (Some a) f = record {
  at = suc f.at;
  row = f.row;
  there = f.there;
  holds_it = f.holds_it;
  is = f.is;
  only = only-more h f.at r rows miss f.only;
}

found-at : (start h : ℕ) (r : Row) (rows : List Row) → IsLawfulFrom start (r ∷ rows) → (b : Bool) → holds r h ≡ b →
    MatchOption (action_for rows h) (NoRowHolds rows h) (λ x. IsOnlyAction rows h x) →
    MatchOption (if b then Some r.action else action_for rows h) (NoRowHolds (r ∷ rows) h) (λ x. IsOnlyAction (r ∷ rows) h x)
found-at start h r rows w true e ih = record {
  at = 0;
  row = r;
  there = refl;
  holds_it = e;
  is = refl;
  only = only-first start h r rows w e;
}
found-at start h r rows w false e ih = found-more h r rows e (action_for rows h) ih

pub one-row : (start h : ℕ) (rows : List Row) → IsLawfulFrom start rows →
    MatchOption (action_for rows h) (NoRowHolds rows h) (λ a. IsOnlyAction rows h a)
one-row start h [] w = λ k row e t. absurd cc
one-row start h (r ∷ rows) w = found-at start h r rows w (holds r h) refl (one-row r.limit h rows w.4)

-- the limits of lawful rows rise
above : (start : ℕ) (rows : List Row) → IsLawfulFrom start rows → (j : ℕ) (d : Row) → j < length rows → start < (slice_index_or rows j d).limit
above start [] w j d l = absurd (omega arith)
above start (r ∷ rows) w zero d l = omega (arith, w.0, w.1)
above start (r ∷ rows) w (suc j) d l = let a = above r.limit rows w.4 j d (omega arith) in omega (arith, w.0, w.1, a)

pub limits-rise : (start : ℕ) (rows : List Row) → IsLawfulFrom start rows → IsNonDecreasingBy (λ (row : Row). row.limit) rows
limits-rise start [] w i j d le l = absurd (omega arith)
limits-rise start (r ∷ rows) w zero zero d le l = omega arith
limits-rise start (r ∷ rows) w zero (suc j) d le l = let a = above r.limit rows w.4 j d (omega arith) in omega (arith, a)
limits-rise start (r ∷ rows) w (suc i) zero d le l = absurd (omega arith)
limits-rise start (r ∷ rows) w (suc i) (suc j) d le l = limits-rise r.limit rows w.4 i j d (omega arith) (omega arith)

none-found : (h : ℕ) (rows : List Row) → NoRowHolds rows h → action_for rows h ≡ None
none-found h [] n = refl
none-found h (r ∷ rows) n = by (holds r h) refl (none-found h rows (λ k row e t. n (suc k) row e t))
  where
    by : (b : Bool) → holds r h ≡ b → action_for rows h ≡ None → (if b then Some r.action else action_for rows h) ≡ None
    by true e rest = absurd (n 0 r refl e)
    by false e rest = rest

missed : (r : Row) (h : ℕ) → nat_le r.limit h ≡ true → holds r h ≡ false
missed r h e = grind (arith, nat_tests)

over : (n h : ℕ) → nat_le n h ≡ false → h < n
over n h e = grind (arith, nat_tests)

pub by-place : (start h : ℕ) (rows : List Row) (at : ℕ) → IsLawfulFrom start rows →
    IsPartitionPoint (λ (row : Row). nat_le row.limit h ≡ true) (λ (row : Row). nat_le row.limit h ≡ false) rows at → action_for rows h ≡ action_at (slice_get rows at) h
by-place start h [] at w p = refl
by-place start h (r ∷ rows) zero w p =
    let high : h < r.limit = over r.limit h (p.1 0 r (omega arith) (omega arith)) in
    ap (λ o. if holds r h then Some r.action else o) (none-found h rows (not-below r.limit h rows w.4 high))
by-place start h (r ∷ rows) (suc at) w p =
    let m : holds r h ≡ false = missed r h (p.0 0 r (omega arith) (omega arith)) in
    ap (λ b. if b then Some r.action else action_for rows h) m
    ∙ by-place r.limit h rows at w.4 (λ k d l m. p.0 (suc k) d (omega arith) (omega arith), λ k d l m. p.1 (suc k) d (omega arith) (omega arith))

pub faultless_are_lawful : (rows : List Row) → table_fault rows ≡ None ↔ IsLawful rows
faultless_are_lawful rows = (lawful-from (starts_at rows) rows, free-from (starts_at rows) rows)

-- A stamped run of one actor by itself, and what passed on the ways.
use Rattle.std.specs.Prelude.{◌≡◌, ℕ, ◌+◌, max, List, [], ◌∷◌, ◌++◌, map}
use Rattle.std.specs.List.{flat_map}
use Rattle.vc_network.specs.Actors.{Label, Steps, taken_off, put_on}
use Rattle.vc_network.specs.Actors.Label.{Own, Takes, Puts}

-- an act or an item with its stamp
pub record Stamped (A : Type 0) : Type 0 where
  pub at : ℕ
  pub it : A

-- a stamped step, whose item is stamped too
abbrev pub Turn : Type 0 → Type 0 → Type 0
Turn Act Item = Stamped (Label Act (Stamped Item))

-- the step without its item's stamp
abbrev pub plain : {Act Item : Type 0} → Label Act (Stamped Item) → Label Act Item
plain (Own act) = Own act
plain (Takes act way s) = Takes act way s.it
plain (Puts act way s) = Puts act way s.it

-- The stamp of a step after the stamp `clock`: one more, and for a take one more than the greater of that and the item's.
abbrev pub next_stamp : {Act Item : Type 0} → ℕ → Label Act (Stamped Item) → ℕ
next_stamp clock (Own act) = clock + 1
next_stamp clock (Takes act way s) = max clock s.at + 1
next_stamp clock (Puts act way s) = clock + 1

-- an item that is put carries the stamp of its act
abbrev pub CarriesStamp : {Act Item : Type 0} → ℕ → Label Act (Stamped Item) → Type 0
CarriesStamp at (Own act) = Unit {0}
CarriesStamp at (Takes act way s) = Unit {0}
CarriesStamp at (Puts act way s) = s.at ≡ at

-- the actor makes these steps, one after another, after the stamp `clock`
abbrev pub LocalRun : {State Act Item : Type 0} → Steps State Act Item → ℕ → ℕ → State → List (Turn Act Item) → State → Type 0
LocalRun Local actor clock old [] new = new ≡ old
LocalRun {State} Local actor clock old (t ∷ ts) new =
    (mid : State)
    × Local actor old (plain t.it) mid
    × (t.at ≡ next_stamp clock t.it)
    × CarriesStamp t.at t.it
    × LocalRun Local actor t.at mid ts new

-- the stamped items that the steps take off the way, and those that they put on it, in order
abbrev pub all_taken : {Act Item : Type 0} → ℕ → List (Turn Act Item) → List (Stamped Item)
all_taken way = flat_map (λ t. taken_off way t.it)

abbrev pub all_put : {Act Item : Type 0} → ℕ → List (Turn Act Item) → List (Stamped Item)
all_put way = flat_map (λ t. put_on way t.it)

-- the items without their stamps
abbrev pub items : {Item : Type 0} → List (Stamped Item) → List Item
items = map (λ s. s.it)

-- Each actor's run from its first state to its last. On each way what the sink took, and then what is left, is what the source
-- put: in order, and with its stamps.
pub record LocalRuns {State Act Item : Type 0} (Local : Steps State Act Item) (source sink : ℕ → ℕ) (first : ℕ → State) (runs : ℕ → List (Turn Act Item)) (last : ℕ → State) (left : ℕ → List (Stamped Item)) : Type 0 where
  pub local : (actor : ℕ) → LocalRun Local actor 0 (first actor) (runs actor) (last actor)
  pub ways : (way : ℕ) → all_taken way (runs (sink way)) ++ left way ≡ all_put way (runs (source way))

-- the first elements of the other list, in order
abbrev pub IsPrefix : {A : Type 0} → List A → List A → Type 0
IsPrefix {A} xs ys = (rest : List A) × (xs ++ rest ≡ ys)

-- the same stamp, with f of what it is on
abbrev pub restamped : {A B : Type 0} → (A → B) → Stamped A → Stamped B
restamped f s = record { at = s.at; it = f s.it }

-- the stamp after these steps
abbrev pub clock_after : {Act Item : Type 0} → ℕ → List (Turn Act Item) → ℕ
clock_after clock [] = clock
clock_after clock (t ∷ ts) = clock_after t.at ts

-- What is left to look at of the rows of a table, and of the links of a row.
use Rattle.std.proofs.Common.{◌≡◌, ◌∙◌, ◌-◌, ◌+◌, ◌<◌, ◌≤◌, ℕ, suc, true, false, List, Some, is_some, ap, arith, if◌then◌else◌, take}
use Rattle.std.specs.List.{list_any}
use Rattle.vc_labels.specs.Fault.{table_fault}
use Rattle.vc_labels.specs.declared.row.Row.{Row}
use Rattle.vc_plan.specs.declared.port.Spot.TheVariants.{Switch}
use Rattle.vc_plan.specs.declared.port.Wire.{Wire}
use Rattle.vc_explain.specs.Details.{faulty_from, has_port, loose_link}

one_left : (n k : ℕ) → k < n → n - k ≡ suc (n - (k + 1))
one_left n k l = omega (arith, l)

next_number : (k : ℕ) → suc k ≡ k + 1
next_number k = omega arith

pub next_row : (rows : List Row) (n k : ℕ) → k < n → is_some (table_fault (take (k + 1) rows)) ≡ false → faulty_from rows (n - k) k ≡ faulty_from rows (n - (k + 1)) (k + 1)
next_row rows n k l b =
    ap (λ m. faulty_from rows m k) (one_left n k l) ∙ ap (λ x. if x then Some k else faulty_from rows (n - (k + 1)) (suc k)) b
    ∙ ap (λ j. faulty_from rows (n - (k + 1)) j) (next_number k)

pub next_link : (wires : List Wire) (n last link : ℕ) → link ≤ last → list_any (has_port (record { spot = Switch n; link = link })) wires ≡ true →
    loose_link wires n (suc last - link) link ≡ loose_link wires n (suc last - (link + 1)) (link + 1)
next_link wires n last link l b =
    ap (λ m. loose_link wires n m link) (one_left (suc last) link (omega (arith, l)))
    ∙ ap (λ x. if x then loose_link wires n (suc last - (link + 1)) (suc link) else Some link) b
    ∙ ap (λ j. loose_link wires n (suc last - (link + 1)) j) (next_number link)

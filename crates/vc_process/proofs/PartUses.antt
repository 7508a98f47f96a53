-- The uses of the parts of a PAR, gone through from the first on.
use Rattle.std.proofs.Common.{◌≡◌, ℕ, suc, ◌+◌, ◌<◌, ◌≤◌, ap, sym, ◌∙◌, List, ◌++◌, map, length, get_or, drop, add-one, append_assoc, append-nil}
use Rattle.vc_process.specs.declared.process.Process.{Process}
use Rattle.vc_process.specs.declared.used.PartUsage.{PartUsage}
use Rattle.vc_process.specs.InOrder.{number}
use Rattle.vc_process.specs.Numbering.{Numbered, parts_from}
use Rattle.vc_process.specs.Private.Usages.{by_part, part_usages, usages}
use Rattle.vc_process.proofs.Walks.{drop_at, drop_all}

-- the uses of those from the k-th on are yet to come
abbrev pub AddsPlaced : List Process → ℕ → List PartUsage → Type 0
AddsPlaced parts k now = (site : ℕ) → (s : ℕ) × (part_usages 0 (parts_from site (map number parts)) ≡ now ++ part_usages k (parts_from s (map number (drop k parts))))

pub placed_next : (parts : List Process) (k : ℕ) (now after : List PartUsage) (p : Process) → k < length parts → p ≡ get_or parts k p → ((s : ℕ) → after ≡ now ++ map (by_part k) (usages ((number p).tree s))) → AddsPlaced parts k now → AddsPlaced parts (k + 1) after
placed_next parts k now after p l h more r = λ site.
    let e = r site in
    let rest = map number (drop (k + 1) parts) in
    let next = e.0 + (number p).sites in
    let own = map (by_part k) (usages ((number p).tree e.0)) in
    let behind = λ (j : ℕ). part_usages j (parts_from next rest) in (
      next,
      e.1 ∙ ap (λ (ns : List Numbered). now ++ part_usages k (parts_from e.0 ns)) (drop_at number k parts p l h) ∙ sym (append_assoc now own (behind (suc k))) ∙ ap (λ (ys : List PartUsage). ys ++ behind (suc k)) (sym (more e.0)) ∙ ap (λ (j : ℕ). after ++ behind j) (sym (add-one k)),
    )

pub placed_end : (parts : List Process) (k : ℕ) (now : List PartUsage) → length parts ≤ k → AddsPlaced parts k now → (site : ℕ) → now ≡ part_usages 0 (parts_from site (map number parts))
placed_end parts k now l r = λ site.
    let e = r site in
    sym (e.1 ∙ ap (λ (ns : List Numbered). now ++ part_usages k (parts_from e.0 ns)) (drop_all number k parts l) ∙ append-nil now)

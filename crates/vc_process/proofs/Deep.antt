-- How deep parts, branches and guards are.
use Rattle.std.proofs.Common.{◌≡◌, ℕ, zero, suc, ◌+◌, Bool, ◌&&◌, nat_lt, refl, sym, ◌∙◌, List, arith}
use Rattle.vc_process.specs.Numbering.{Numbered, NumberedBranch, NumberedGuard, branches_from, guards_from, parts_from}
use Rattle.vc_process.specs.ProcessLimits.{branches_depth_within, depth_within, guards_depth_within, parts_depth_within}
use Rattle.vc_process.proofs.Walks.{Splits}

more_depth : (d : ℕ) (b : Bool) → (d ≡ 0 → ⊥) → (nat_lt 0 d && b) ≡ b
more_depth zero b some = absurd (some refl)
more_depth (suc d) b some = grind arith

-- a process is one deeper than what is within it
pub deeper : (d : ℕ) (r : Bool) (within whole : ℕ → Bool) → (d ≡ 0 → ⊥) → ((s : ℕ) → whole s ≡ (nat_lt 0 d && within (suc s))) → ((s : ℕ) → r ≡ within s) → (s : ℕ) → r ≡ whole s
deeper d r within whole some same h = λ s. h (suc s) ∙ sym (same s ∙ more_depth d (within (suc s)) some)

module _ (d : ℕ) where
  abbrev pub all_parts : List Numbered → ℕ → Bool
  all_parts ns s = parts_depth_within (parts_from s ns) d

  abbrev pub one_part : Numbered → ℕ → Bool
  one_part n s = depth_within (n.tree s) d

  abbrev pub behind_part : Numbered → ℕ → ℕ
  behind_part n s = s + n.sites

  pub parts_split : Splits all_parts one_part behind_part
  parts_split n ns s = refl

  abbrev pub all_branches : List NumberedBranch → ℕ → Bool
  all_branches bs s = branches_depth_within (branches_from s bs) d

  abbrev pub one_branch : NumberedBranch → ℕ → Bool
  one_branch b s = depth_within (b.then_do.tree s) d

  abbrev pub behind_branch : NumberedBranch → ℕ → ℕ
  behind_branch b s = s + b.then_do.sites

  pub branches_split : Splits all_branches one_branch behind_branch
  branches_split b bs s = refl

  abbrev pub all_guards : List NumberedGuard → ℕ → Bool
  all_guards gs s = guards_depth_within (guards_from s gs) d

  abbrev pub one_guard : NumberedGuard → ℕ → Bool
  one_guard g s = depth_within (g.then_do.tree s) d

  abbrev pub behind_guard : NumberedGuard → ℕ → ℕ
  behind_guard g s = s + g.then_do.sites

  pub guards_split : Splits all_guards one_guard behind_guard
  guards_split g gs s = refl

-- A process over other variables: the same words with other numbers for the variables, and whatever sites. What a bound name is called
-- changes nothing of a process (Hoare, Communicating Sequential Processes, 1985, "Change of symbol").
use Rattle.std.specs.Prelude.{◌≡◌, ℕ, List, [], ◌∷◌}
use Rattle.vc_process.specs.Numbering.{Numbered, NumberedBranch, NumberedGuard}
use Rattle.vc_process.specs.Renaming.{renamed_test, IsRenamed}

-- and a list of these
abbrev pub AreRenamed : (ℕ → ℕ) → List Numbered → List Numbered → Type 0
AreRenamed ρ [] [] = Unit {0}
AreRenamed ρ (p ∷ ps) (q ∷ qs) = IsRenamed ρ p q × AreRenamed ρ ps qs
AreRenamed ρ [] (q ∷ qs) = ⊥
AreRenamed ρ (p ∷ ps) [] = ⊥

abbrev pub AreRenamedBranches : (ℕ → ℕ) → List NumberedBranch → List NumberedBranch → Type 0
AreRenamedBranches ρ [] [] = Unit {0}
AreRenamedBranches ρ (b ∷ bs) (d ∷ ds) = (d.when ≡ renamed_test ρ b.when) × IsRenamed ρ b.then_do d.then_do × AreRenamedBranches ρ bs ds
AreRenamedBranches ρ [] (d ∷ ds) = ⊥
AreRenamedBranches ρ (b ∷ bs) [] = ⊥

-- a guard keeps its channel
abbrev pub IsRenamedGuard : (ℕ → ℕ) → NumberedGuard → NumberedGuard → Type 0
IsRenamedGuard ρ g h = (h.when ≡ renamed_test ρ g.when) × (h.chan ≡ g.chan) × (h.var ≡ ρ g.var) × IsRenamed ρ g.then_do h.then_do

abbrev pub AreRenamedGuards : (ℕ → ℕ) → List NumberedGuard → List NumberedGuard → Type 0
AreRenamedGuards ρ [] [] = Unit {0}
AreRenamedGuards ρ (g ∷ gs) (h ∷ hs) = IsRenamedGuard ρ g h × AreRenamedGuards ρ gs hs
AreRenamedGuards ρ [] (h ∷ hs) = ⊥
AreRenamedGuards ρ (g ∷ gs) [] = ⊥

-- What is asked everywhere is asked of a process apart from its parts, and then of its parts.
use Rattle.std.proofs.Common.{◌≡◌, ℕ, suc, ◌+◌, Bool, true, false, ◌&&◌, refl, ap, sym, ◌∙◌, List}
use Rattle.vc_process.specs.declared.process.Process.TheOpen as layer
use Rattle.vc_process.specs.Private.Questions.{Asking, everywhere, in_branches, in_guards, in_parts}
use Rattle.vc_process.specs.Numbering.{Numbered, NumberedBranch, NumberedGuard, branches_from, guards_from, numbered, parts_from}
use Rattle.vc_process.specs.Syntax.{Proc, SKIP, STOP, Assign, Output, Input, StopChan, SEQ, PAR, IF, WHILE, COUNT, ALT}
use Rattle.vc_process.proofs.Walks.{Splits}

module _ (a : Asking) where
  abbrev Asked : Numbered → ℕ → Bool → Type 0
  Asked n site r = true ≡ a.itself (n.tree site) → r ≡ everywhere a (n.tree site)

  pub not_itself : (p : Proc) → false ≡ a.itself p → false ≡ everywhere a p
  not_itself (SKIP i) h = h
  not_itself (STOP i) h = h
  not_itself (Assign i v x) h = h
  not_itself (Output i c x) h = h
  not_itself (Input i c v) h = h
  not_itself (StopChan i c) h = h
  not_itself (SEQ i ps) h = ap (λ b. b && in_parts a ps) h
  not_itself (PAR i ps) h = ap (λ b. b && in_parts a ps) h
  not_itself (IF i bs) h = ap (λ b. b && in_branches a bs) h
  not_itself (WHILE i t p) h = ap (λ b. b && everywhere a p) h
  not_itself (COUNT i v x n p) h = ap (λ b. b && everywhere a p) h
  not_itself (ALT i gs) h = ap (λ b. b && in_guards a gs) h

  pub of_if : (n : Numbered) (bs : List NumberedBranch) (site : ℕ) (r : Bool) → n ≡ numbered (layer.If bs) → ((s : ℕ) → r ≡ in_branches a (branches_from s bs)) → Asked n site r
  of_if n bs site r h f k =
      let i : true ≡ a.itself (IF site (branches_from (suc site) bs)) = k ∙ ap (λ (z : Numbered). a.itself (z.tree site)) h in
      f (suc site) ∙ ap (λ b. b && in_branches a (branches_from (suc site) bs)) i ∙ ap (λ (z : Numbered). everywhere a (z.tree site)) (sym h)

  pub of_alt : (n : Numbered) (gs : List NumberedGuard) (site : ℕ) (r : Bool) → n ≡ numbered (layer.Alt gs) → ((s : ℕ) → r ≡ in_guards a (guards_from s gs)) → Asked n site r
  of_alt n gs site r h f k =
      let i : true ≡ a.itself (ALT site (guards_from (suc site) gs)) = k ∙ ap (λ (z : Numbered). a.itself (z.tree site)) h in
      f (suc site) ∙ ap (λ b. b && in_guards a (guards_from (suc site) gs)) i ∙ ap (λ (z : Numbered). everywhere a (z.tree site)) (sym h)

  -- of lists, and of the first of them
  abbrev pub all_parts : List Numbered → ℕ → Bool
  all_parts ns s = in_parts a (parts_from s ns)

  abbrev pub one_part : Numbered → ℕ → Bool
  one_part n s = everywhere a (n.tree s)

  abbrev pub behind_part : Numbered → ℕ → ℕ
  behind_part n s = s + n.sites

  pub parts_split : Splits all_parts one_part behind_part
  parts_split n ns s = refl

  abbrev pub all_branches : List NumberedBranch → ℕ → Bool
  all_branches bs s = in_branches a (branches_from s bs)

  abbrev pub one_branch : NumberedBranch → ℕ → Bool
  one_branch b s = a.condition b.when && everywhere a (b.then_do.tree s)

  abbrev pub behind_branch : NumberedBranch → ℕ → ℕ
  behind_branch b s = s + b.then_do.sites

  pub branches_split : Splits all_branches one_branch behind_branch
  branches_split b bs s = refl

  abbrev pub all_guards : List NumberedGuard → ℕ → Bool
  all_guards gs s = in_guards a (guards_from s gs)

  abbrev pub one_guard : NumberedGuard → ℕ → Bool
  one_guard g s = a.condition g.when && a.channel g.chan && a.variable g.var && everywhere a (g.then_do.tree s)

  abbrev pub behind_guard : NumberedGuard → ℕ → ℕ
  behind_guard g s = s + g.then_do.sites

  pub guards_split : Splits all_guards one_guard behind_guard
  guards_split g gs s = refl

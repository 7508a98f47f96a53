-- A word whose parts are renamed is renamed, however its sites are numbered.
use Rattle.std.proofs.Common.{◌≡◌, ℕ, suc, ◌+◌, refl, sym, ap, ap₂, subst, List, [], ◌∷◌}
use Rattle.vc_process.specs.declared.process.Process.TheOpen as layer
use Rattle.vc_process.specs.declared.condition.Cond.{Cond}
use Rattle.vc_process.specs.declared.expression.Expr.{Expr}
use Rattle.vc_process.specs.declared.value.Value.{Value}
use Rattle.vc_process.specs.Numbering.{Numbered, NumberedBranch, NumberedGuard, parts_from, branches_from, guards_from, part_sites, branch_sites, guard_sites, numbered}
use Rattle.vc_process.specs.Syntax.{Assign, Output, Input, WHILE, COUNT, branch, guard}
use Rattle.vc_process.specs.Terms.{exp, as_test, given}
use Rattle.vc_process.specs.Renaming.{renamed_exp, renamed_test, renamed_given, Renamed, skips, never, assigns, outputs, inputs, stops, in_turn, abreast, one_of, again, counts, chooses, AllRenamed, no_part, parts, BranchesRenamed, no_branch, branches, GuardsRenamed, no_guard, guards, IsRenamed}
use Rattle.vc_process.specs.Private.Renaming.{AreRenamed, AreRenamedBranches, AreRenamedGuards}

module _ (ρ : ℕ → ℕ) where
  pub parts_renamed : (ps qs : List Numbered) (i j : ℕ) → AreRenamed ρ ps qs → AllRenamed ρ (parts_from i ps) (parts_from j qs)
  parts_renamed [] [] i j h = no_part
  parts_renamed (p ∷ ps) (q ∷ qs) i j h = parts (h.0.1 i j) (parts_renamed ps qs (i + p.sites) (j + q.sites) h.1)
  parts_renamed [] (q ∷ qs) i j h = absurd h
  parts_renamed (p ∷ ps) [] i j h = absurd h

  part_sites_same : (ps qs : List Numbered) → AreRenamed ρ ps qs → part_sites qs ≡ part_sites ps
  part_sites_same [] [] h = refl
  part_sites_same (p ∷ ps) (q ∷ qs) h = ap₂ (λ a b. a + b) h.0.0 (part_sites_same ps qs h.1)
  part_sites_same [] (q ∷ qs) h = absurd h
  part_sites_same (p ∷ ps) [] h = absurd h

  pub branches_renamed : (bs ds : List NumberedBranch) (i j : ℕ) → AreRenamedBranches ρ bs ds → BranchesRenamed ρ (branches_from i bs) (branches_from j ds)
  branches_renamed [] [] i j h = no_branch
  branches_renamed (b ∷ bs) (d ∷ ds) i j h =
      subst (λ t. BranchesRenamed ρ (branches_from i (b ∷ bs)) (branch t (d.then_do.tree j) (branches_from (j + d.then_do.sites) ds))) (sym h.0)
      (branches (h.1.1 i j) (branches_renamed bs ds (i + b.then_do.sites) (j + d.then_do.sites) h.2))
  branches_renamed [] (d ∷ ds) i j h = absurd h
  branches_renamed (b ∷ bs) [] i j h = absurd h

  branch_sites_same : (bs ds : List NumberedBranch) → AreRenamedBranches ρ bs ds → branch_sites ds ≡ branch_sites bs
  branch_sites_same [] [] h = refl
  branch_sites_same (b ∷ bs) (d ∷ ds) h = ap₂ (λ a c. a + c) h.1.0 (branch_sites_same bs ds h.2)
  branch_sites_same [] (d ∷ ds) h = absurd h
  branch_sites_same (b ∷ bs) [] h = absurd h

  pub guards_renamed : (gs hs : List NumberedGuard) (i j : ℕ) → AreRenamedGuards ρ gs hs → GuardsRenamed ρ (guards_from i gs) (guards_from j hs)
  guards_renamed [] [] i j h = no_guard
  guards_renamed (g ∷ gs) (f ∷ fs) i j h =
      let rest = guards_from (j + f.then_do.sites) fs in
      let body = f.then_do.tree j in
      subst (λ t. GuardsRenamed ρ (guards_from i (g ∷ gs)) (guard t f.chan f.var body rest)) (sym h.0.0)
      (subst (λ c. GuardsRenamed ρ (guards_from i (g ∷ gs)) (guard (renamed_test ρ g.when) c f.var body rest)) (sym h.0.1)
      (subst (λ w. GuardsRenamed ρ (guards_from i (g ∷ gs)) (guard (renamed_test ρ g.when) g.chan w body rest)) (sym h.0.2)
      (guards (h.0.3.1 i j) (guards_renamed gs fs (i + g.then_do.sites) (j + f.then_do.sites) h.1))))
  guards_renamed [] (f ∷ fs) i j h = absurd h
  guards_renamed (g ∷ gs) [] i j h = absurd h

  guard_sites_same : (gs hs : List NumberedGuard) → AreRenamedGuards ρ gs hs → guard_sites hs ≡ guard_sites gs
  guard_sites_same [] [] h = refl
  guard_sites_same (g ∷ gs) (f ∷ fs) h = ap₂ (λ a c. a + c) h.0.3.0 (guard_sites_same gs fs h.1)
  guard_sites_same [] (f ∷ fs) h = absurd h
  guard_sites_same (g ∷ gs) [] h = absurd h

  -- word by word
  pub seq_renamed : (ps qs : List Numbered) → AreRenamed ρ ps qs → IsRenamed ρ (numbered (layer.Seq ps)) (numbered (layer.Seq qs))
  seq_renamed ps qs h = (ap suc (part_sites_same ps qs h), λ i j. in_turn (parts_renamed ps qs (suc i) (suc j) h))

  pub par_renamed : (ps qs : List Numbered) → AreRenamed ρ ps qs → IsRenamed ρ (numbered (layer.Par ps)) (numbered (layer.Par qs))
  par_renamed ps qs h = (ap suc (part_sites_same ps qs h), λ i j. abreast (parts_renamed ps qs (suc i) (suc j) h))

  pub if_renamed : (bs ds : List NumberedBranch) → AreRenamedBranches ρ bs ds → IsRenamed ρ (numbered (layer.If bs)) (numbered (layer.If ds))
  if_renamed bs ds h = (ap suc (branch_sites_same bs ds h), λ i j. one_of (branches_renamed bs ds (suc i) (suc j) h))

  pub alt_renamed : (gs hs : List NumberedGuard) → AreRenamedGuards ρ gs hs → IsRenamed ρ (numbered (layer.Alt gs)) (numbered (layer.Alt hs))
  alt_renamed gs hs h = (ap suc (guard_sites_same gs hs h), λ i j. chooses (guards_renamed gs hs (suc i) (suc j) h))

  pub while_renamed : (b d : Cond) (p q : Numbered) → as_test d ≡ renamed_test ρ (as_test b) → IsRenamed ρ p q → IsRenamed ρ (numbered (layer.While b p)) (numbered (layer.While d q))
  while_renamed b d p q e h = (ap suc h.0, λ i j. subst (λ t. Renamed ρ (WHILE i (as_test b) (p.tree (suc i))) (WHILE j t (q.tree (suc j)))) (sym e) (again (h.1 (suc i) (suc j))))

  pub count_renamed : (v w : ℕ) (a c n m : Expr) (p q : Numbered) → w ≡ ρ v → exp c ≡ renamed_exp ρ (exp a) → exp m ≡ renamed_exp ρ (exp n) → IsRenamed ρ p q → IsRenamed ρ (numbered (layer.Count v a n p)) (numbered (layer.Count w c m q))
  count_renamed v w a c n m p q e f g h = (
    ap suc h.0,
    λ i j.
        subst (λ x. Renamed ρ (COUNT i v (exp a) (exp n) (p.tree (suc i))) (COUNT j x (exp c) (exp m) (q.tree (suc j)))) (sym e)
        (subst (λ x. Renamed ρ (COUNT i v (exp a) (exp n) (p.tree (suc i))) (COUNT j (ρ v) x (exp m) (q.tree (suc j)))) (sym f)
        (subst (λ x. Renamed ρ (COUNT i v (exp a) (exp n) (p.tree (suc i))) (COUNT j (ρ v) (renamed_exp ρ (exp a)) x (q.tree (suc j)))) (sym g)
        (counts (h.1 (suc i) (suc j))))),
  )

  pub set_renamed : (v w : ℕ) (a c : Value) → w ≡ ρ v → given c ≡ renamed_given ρ (given a) → IsRenamed ρ (numbered (layer.Set v a)) (numbered (layer.Set w c))
  set_renamed v w a c e f = (
    refl,
    λ i j.
        subst (λ x. Renamed ρ (Assign i v (given a)) (Assign j x (given c))) (sym e)
        (subst (λ x. Renamed ρ (Assign i v (given a)) (Assign j (ρ v) x)) (sym f) assigns),
  )

  pub send_renamed : (chan : ℕ) (a c : Value) → given c ≡ renamed_given ρ (given a) → IsRenamed ρ (numbered (layer.Send chan a)) (numbered (layer.Send chan c))
  send_renamed chan a c f = (refl, λ i j. subst (λ x. Renamed ρ (Output i chan (given a)) (Output j chan x)) (sym f) outputs)

  pub receive_renamed : (chan v w : ℕ) → w ≡ ρ v → IsRenamed ρ (numbered (layer.Receive chan v)) (numbered (layer.Receive chan w))
  receive_renamed chan v w e = (refl, λ i j. subst (λ x. Renamed ρ (Input i chan v) (Input j chan x)) (sym e) inputs)

  pub stopch_renamed : (chan : ℕ) → IsRenamed ρ (numbered (layer.Stopch chan)) (numbered (layer.Stopch chan))
  stopch_renamed chan = (refl, λ i j. stops)

  pub skip_renamed : IsRenamed ρ (numbered layer.Skip) (numbered layer.Skip)
  skip_renamed = (refl, λ i j. skips)

  pub stop_renamed : IsRenamed ρ (numbered layer.Stop) (numbered layer.Stop)
  stop_renamed = (refl, λ i j. never)
